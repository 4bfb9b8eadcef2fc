use Rattle.std.proofs.Common.{List, ℕ, subst}
use Rattle.std.proofs.lemmas.Result.{on_ok_weaker, IfErr-weaker}
use Rattle.std.specs.Io.KnownBytes.{Appends}
use Rattle.script_view.specs.Scripts.{HasStop}
use Rattle.view_top.specs.Views.{IsViewToFault}
use Rattle.view_top.specs.declared.view.ViewKind.TheVariants.{Script}
use Rattle.view_top.proofs.KnownBytes.{appends-nothing}
use Rattle.view_top.proofs.Stops.{fault_weaker, out_alone}
use Rattle.view_top.proofs.view.write_script.Goals as goal

pub returns-in-Ok-clause-done : goal.returns-in-Ok-clause-done
returns-in-Ok-clause-done g c =
    let old = g.K.Sink.written c.args.out.now in
    let new = g.K.Sink.written c.write_out.new.out in
    on_ok_weaker c.write_out.result (λ h. (c.in-Ok.script, c.in-Ok.ensures.script, subst (λ (bytes : List ℕ). Appends old new bytes) c.as_slice.ensures h)) c.write_out.ensures.done

pub returns-in-Ok-clause-cut : goal.returns-in-Ok-clause-cut
returns-in-Ok-clause-cut g c =
    let P = IsViewToFault Script c.args.text.now (g.K.Sink.written c.args.out.now) (g.K.Sink.written c.write_out.new.out) in
    IfErr-weaker c.write_out.result _ _ (λ stop is. out_alone P stop is) c.write_out.ensures.cut

pub returns-in-Err-clause-cut : goal.returns-in-Err-clause-cut
returns-in-Err-clause-cut g c =
    let old = g.K.Sink.written c.args.out.now in
    fault_weaker (HasStop c.args.text.now) (IsViewToFault Script c.args.text.now old old) (λ place word h. (h, appends-nothing old)) c.in-Err.fault c.in-Err.ensures.fault
