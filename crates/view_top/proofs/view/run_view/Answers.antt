use Rattle.std.proofs.Common.{List, subst}
use Rattle.std.specs.Prelude.{String}
use Rattle.std.specs.declared.alloc.Global.{Global}
use Rattle.view_top.specs.Views.{IsNamedView, IsViewed, IsRejectedInput}
use Rattle.view_top.specs.declared.view.ViewKind.{ViewKind}
use Rattle.view_top.proofs.OneView.{one_view}
use Rattle.view_top.proofs.view.run_view.Goals as goal

pub returns-in-Some-clause-done : goal.returns-in-Some-clause-done
returns-in-Some-clause-done g c =
    λ view names done.
    let words = c.args.words.now.items in
    let named = subst (λ (ws : List (String Global)). IsNamedView ws c.in-Some.view) c.deref.ensures.value c.in-Some.ensures.some in
    subst (λ (v : ViewKind). IsViewed v (g.S.Source.left c.args.input.now) (g.K.Sink.written c.args.out.now) (g.K.Sink.written c.write_view_of_input.new.out))
    (one_view words c.in-Some.view view named names) (c.write_view_of_input.ensures.done done)

pub returns-in-Some-clause-faulty : goal.returns-in-Some-clause-faulty
returns-in-Some-clause-faulty g c =
    λ view names faulty.
    let words = c.args.words.now.items in
    let named = subst (λ (ws : List (String Global)). IsNamedView ws c.in-Some.view) c.deref.ensures.value c.in-Some.ensures.some in
    subst (λ (v : ViewKind). IsRejectedInput v (g.S.Source.left c.args.input.now) (g.S.Source.left c.write_view_of_input.new.input) (g.K.Sink.written c.args.out.now) (g.K.Sink.written c.write_view_of_input.new.out))
    (one_view words c.in-Some.view view named names) (c.write_view_of_input.ensures.faulty faulty)
