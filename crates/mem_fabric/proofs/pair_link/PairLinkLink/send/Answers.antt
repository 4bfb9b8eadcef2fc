use Rattle.std.proofs.Common.{◌∷◌, ◌++◌, [], false, ap, refl, sym, subst, ◌∙◌}
use Rattle.spsc_queue.specs.Ends.{pushed_of}
use Rattle.spsc_queue.specs.Pieces.{frames_of_pieces}
use Rattle.mem_fabric.specs.Pair.{IsOutgoing}
use Rattle.mem_fabric.proofs.Causes.{failed_cause, no_cause}
use Rattle.mem_fabric.proofs.Outgoing.{frames_snoc_bytes, outgoing_frame}
use Rattle.mem_fabric.proofs.pair_link.PairLinkLink.send.Goals as goal

pub returns-then-send_fails : goal.returns-then-send_fails
returns-then-send_fails g c =
    let calls = c.if-send_fails.ensures in
    rw (calls.counted, ← c.self.view_is) (record {
      fails = (λ _. calls.fails.0 refl, λ _. refl);
      appended = λ e. absurd (cc (e));
      kept = λ _. refl;
      sends = refl;
      failures = λ _. refl;
      cause = failed_cause _ _ refl (calls.never_falls refl);
      same = refl;
    })

pub returns-in_default : goal.returns-in_default
returns-in_default g c =
    let calls = c.if-send_fails.ensures in
    rw (calls.counted, ← c.self.view_is) (record {
      fails = (λ e. absurd (cc (e)), λ found. absurd (cc (calls.fails.1 found)));
      appended = λ e. absurd (cc (e));
      kept = λ _. refl;
      sends = refl;
      failures = λ e. absurd (cc (e));
      cause = no_cause _ _ (λ e. cc (e));
      same = refl;
    })

pub invariant_of-self-2 : goal.invariant_of-self-2
invariant_of-self-2 g c =
    let inv = c.self.invariant in
    let goes_on = c.if-send_fails.ensures.goes_on refl in
    let put = pushed_of c.self.inside.out in
    let more = outgoing_frame put c.in-Ok.copy (subst (λ f. IsOutgoing f put) goes_on inv.0) in (
      subst (λ f. IsOutgoing f (pushed_of c.push_leaving.new.self)) (sym goes_on) (subst (IsOutgoing false) (sym c.push_leaving.ensures.done) more),
      inv.1,
      inv.2,
      λ _. c.push_leaving.ensures.free,
    )

pub returns : goal.returns
returns g c =
    let calls = c.if-send_fails.ensures in
    let put = pushed_of c.self.inside.out in
    rw (c.push_leaving.ensures.queue, calls.counted, ← c.self.view_is) (record {
      fails = (λ e. absurd (cc (e)), λ found. absurd (cc (calls.fails.1 found)));
      appended = λ _. ap frames_of_pieces c.push_leaving.ensures.done ∙ frames_snoc_bytes put c.in-Ok.copy ∙ ap (λ f. frames_of_pieces put ++ f ∷ []) c.in-Ok.ensures;
      kept = λ other. absurd (other refl);
      sends = refl;
      failures = λ e. absurd (cc (e));
      cause = no_cause _ _ (λ e. cc (e));
      same = refl;
    })
