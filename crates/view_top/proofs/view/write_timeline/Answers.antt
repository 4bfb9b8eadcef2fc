use Rattle.std.proofs.Common.{List, ℕ, subst, ◌∙◌}
use Rattle.std.proofs.lemmas.Result.{on_ok_weaker, IfErr-weaker}
use Rattle.std.specs.Io.KnownBytes.{Appends}
use Rattle.view_top.specs.Plain.{IsPlain}
use Rattle.view_top.specs.Views.{IsViewToFault}
use Rattle.view_top.specs.declared.view.ViewKind.TheVariants.{Timeline}
use Rattle.view_top.proofs.Stops.{out_alone}
use Rattle.view_top.proofs.view.write_timeline.Goals as goal

pub returns-in-Ok-clause-done : goal.returns-in-Ok-clause-done
returns-in-Ok-clause-done g c =
    let old = g.K.Sink.written c.args.out.now in
    let new = g.K.Sink.written c.write_out.new.out in
    let drawn = c.in-Ok.ensures.drawn in
    on_ok_weaker c.write_out.result
    (λ h. (drawn.0, drawn.1, subst IsPlain drawn.2 c.in-Ok.ensures.plain, subst (λ (bytes : List ℕ). Appends old new bytes) (c.as_slice.ensures ∙ drawn.2) h))
    c.write_out.ensures.done

pub returns-in-Ok-clause-cut : goal.returns-in-Ok-clause-cut
returns-in-Ok-clause-cut g c =
    let P = IsViewToFault Timeline c.args.text.now (g.K.Sink.written c.args.out.now) (g.K.Sink.written c.write_out.new.out) in
    IfErr-weaker c.write_out.result _ _ (λ stop is. out_alone P stop is) c.write_out.ensures.cut
