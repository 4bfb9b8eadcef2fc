use Rattle.std.proofs.Common.{◌≡◌, ℕ, ◌≤◌, ◌++◌, List, length, ap, subst, ◌∙◌}
use Rattle.std.proofs.lemmas.Result.{IfErr-weaker, IfOk-weaker}
use Rattle.frame_view.specs.Faults.{OnFault}
use Rattle.script_view.specs.Scripts.{empty_counts, script_text}
use Rattle.script_view.specs.Unplayable.{CallCounts}
use Rattle.script_view.specs.ReplayRanges.{IsReplayBetween, IsFirstStop, call_counts_of}
use Rattle.script_view.specs.declared.limits.TheConstants.{MAX_BODY}
use Rattle.script_view.proofs.Making.{made_is, memory_alone}
use Rattle.script_view.proofs.script.script_of_stream.Goals as goal

pub returns-in-Ok-clause-script : goal.returns-in-Ok-clause-script
returns-in-Ok-clause-script c =
    let T = c.args.table.now in
    let stream = c.args.stream.now in
    let made = c.in-Ok.ensures.made in
    let after = call_counts_of c.put_stream.new.calls in
    let none : call_counts_of c.new-calls.result ≡ empty_counts = made_is c.new-calls.ensures.counts c.new-calls.ensures.total c.new-calls.ensures.loads in
    let body : c.put_stream.new.body ≡ made.1 = made.3 ∙ ap (λ (b : List ℕ). b ++ made.1) c.new-body.ensures in
    IfOk-weaker c.whole_script.result _ _
    (λ script is. (
      made.0,
      made.1,
      after,
      made.2,
      subst (λ (m : CallCounts). IsReplayBetween T stream 0 made.0 m made.1 after) none made.4,
      record { short = subst (λ (b : List ℕ). length b ≤ MAX_BODY) body c.in-Ok.ensures.short; few = c.put_stream.new.calls.work },
      is ∙ ap (script_text T after.loads) (c.as_slice.ensures ∙ body),
    )) c.whole_script.ensures.script

pub returns-in-Ok-clause-fault : goal.returns-in-Ok-clause-fault
returns-in-Ok-clause-fault c =
    IfErr-weaker c.whole_script.result _ _ (λ fault is. memory_alone (IsFirstStop c.args.table.now c.args.stream.now empty_counts) fault is) c.whole_script.ensures.fault

pub returns-clause-fault : goal.returns-clause-fault
returns-clause-fault c =
    let none : call_counts_of c.new-calls.result ≡ empty_counts = made_is c.new-calls.ensures.counts c.new-calls.ensures.total c.new-calls.ensures.loads in
    subst (λ (m : CallCounts). OnFault (IsFirstStop c.args.table.now c.args.stream.now m) c.in-Err.fault) none c.in-Err.ensures.fault
