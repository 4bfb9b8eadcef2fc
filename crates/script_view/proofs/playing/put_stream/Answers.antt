use Rattle.std.proofs.Common.{ℕ, List, length, sym, ap, subst, arith, ◌++◌}
use Rattle.std.proofs.lemmas.Result.{err_from_is_err_and}
use Rattle.script_view.specs.ReplayRanges.{IsReplayBetween, IsFirstStop, IsStopOfNext, call_counts_of}
use Rattle.script_view.proofs.Making.{WalkLaw, on_fault, plays_nothing, plays_on}
use Rattle.script_view.proofs.playing.put_stream.Goals as goal

pub loop-place-init : goal.loop-place-init
loop-place-init c =
    let law : WalkLaw = record { none = c.frames_are_consecutive.ensures.none; one = c.frames_are_consecutive.ensures.one; more = c.frames_are_consecutive.ensures.more; all = c.frames_are_consecutive.ensures.all } in
    let made = call_counts_of c.args.calls.now in
    record {
      plays = subst (λ (b : List ℕ). IsReplayBetween c.args.table.now c.args.stream.now 0 0 made b made) (sym c.requires.empty) (plays_nothing law c.args.table.now c.args.stream.now 0 made);
      short = omega (arith, ap length c.requires.empty);
    }

pub loop-place-preserved : goal.loop-place-preserved
loop-place-preserved c =
    let law : WalkLaw = record { none = c.frames_are_consecutive.ensures.none; one = c.frames_are_consecutive.ensures.one; more = c.frames_are_consecutive.ensures.more; all = c.frames_are_consecutive.ensures.all } in
    let step = c.in_ok-place.ensures.made in
    record { plays = plays_on law _ _ _ _ _ _ _ _ _ _ _ c.loop-place.invariant.plays step.2 step.1; short = c.in_ok-place.ensures.short }

pub returns-in_err-place-clause-fault : goal.returns-in_err-place-clause-fault
returns-in_err-place-clause-fault c =
    let T = c.args.table.now in
    let stream = c.args.stream.now in
    let made = call_counts_of c.loop-place.calls in
    let stops : (place : ℕ) (word : List ℕ)
    → IsStopOfNext T stream c.loop-place.place made (length c.loop-place.body) place word
    → IsFirstStop T stream (call_counts_of c.args.calls.now) place word =
    λ place word here. record { to = c.loop-place.place; text = c.loop-place.body; after = made; plays = c.loop-place.invariant.plays; here = here } in
    let same = err_from_is_err_and c.from_residual.result c.from_residual.ensures.1 in
    rw (same.1, same.2) (on_fault _ _ _ stops c.in_err-place.ensures.fault)

pub returns-clause-made : goal.returns-clause-made
returns-clause-made c =
    (c.loop-place.place, c.loop-place.body, omega arith, sym (ap (λ (b : List ℕ). b ++ c.loop-place.body) c.requires.empty), c.loop-place.invariant.plays)
