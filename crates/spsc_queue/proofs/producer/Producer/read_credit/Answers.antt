use Rattle.std.proofs.Common.{◌≡◌, ◌≤◌, length, ap, subst, ◌∙◌, refl, arith}
use Rattle.std.proofs.Math.Nat.{min-eq_right}
use Rattle.std.specs.Arc.{arc_value}
use Rattle.crossbeam_queue.specs.Passes.{view, ruled_capacity}
use Rattle.spsc_queue.specs.declared.credit.CreditDesk.{CreditDesk}
use Rattle.spsc_queue.specs.declared.side.Side.{Side}
use Rattle.spsc_queue.specs.Sides.{longer}
use Rattle.spsc_queue.proofs.CreditMoves.{hears as credit_comes, no_lesson}
use Rattle.spsc_queue.proofs.Moves.{hears, behind, longer_first, longer_second, fits_free}
use Rattle.spsc_queue.proofs.producer.Producer.read_credit.Goals as goal

pub pop_as-requires-clause-rule : goal.pop_as-requires-clause-rule
pop_as-requires-clause-rule g c = (credit_comes _ _ (ap (λ (d : CreditDesk). d.named) c.args.self.now.hears), no_lesson _ _)

pub absorb-requires-clause-rule : goal.absorb-requires-clause-rule
absorb-requires-clause-rule g c = hears _ _ _ _ c.args.self.now.puts

pub learn_as-requires-clause-rule : goal.learn_as-requires-clause-rule
learn_as-requires-clause-rule g c = rw c.absorb.ensures.rule (behind _ _ refl)

pub overflow_add-self : goal.overflow_add-self
overflow_add-self g c =
    let h = c.args.self.now in
    let v = view h.pass in
    let u = view c.in-Some.credit.pass in
    let few : length (longer v.known u.known) ≤ length v.put = subst (λ (s : Side _). length s.known ≤ length s.put) c.absorb.ensures.rule c.learn_as.ensures.rule.1 in
    let fits = fits_free v u h.free (ruled_capacity (arc_value h.queue)) h.heard c.in-Some.credit.taken h.places c.in-Some.credit.counted few c.if-taken-self.true in
    omega (arith, fits, c.capacity-most.ensures ∙ ap ruled_capacity c.deref-then-taken-self.ensures, c.capacity-most.type_inv)

pub invariant_of-self-then-taken-self-clause-places : goal.invariant_of-self-then-taken-self-clause-places
invariant_of-self-then-taken-self-clause-places g c =
    let h = c.args.self.now in
    let v = view h.pass in
    let u = view c.in-Some.credit.pass in
    let few : length (longer v.known u.known) ≤ length v.put = subst (λ (s : Side _). length s.known ≤ length s.put) c.absorb.ensures.rule c.learn_as.ensures.rule.1 in
    let fits = fits_free v u h.free (ruled_capacity (arc_value h.queue)) h.heard c.in-Some.credit.taken h.places c.in-Some.credit.counted few c.if-taken-self.true in
    let most = c.capacity-most.ensures ∙ ap ruled_capacity c.deref-then-taken-self.ensures in
    let now = c.min-self.ensures ∙ min-eq_right (omega (arith, fits, most)) in
    let same : length (view c.learn_as.new.pass).put ≡ length v.put = ap (λ (s : Side _). length s.put) (c.learn_as.ensures.queue.1 ∙ c.absorb.ensures.rule) in
    omega (arith, now, same, h.places, c.if-taken-self.true)

pub invariant_of-self-then-taken-self-clause-known : goal.invariant_of-self-then-taken-self-clause-known
invariant_of-self-then-taken-self-clause-known g c =
    let v = view c.args.self.now.pass in
    let u = view c.in-Some.credit.pass in
    let same : length (view c.learn_as.new.pass).known ≡ length (longer v.known u.known) = ap (λ (s : Side _). length s.known) (c.learn_as.ensures.queue.1 ∙ c.absorb.ensures.rule) in
    omega (arith, c.in-Some.credit.counted, longer_second v.known u.known, same)

pub invariant_of-self-else-taken-self-clause-known : goal.invariant_of-self-else-taken-self-clause-known
invariant_of-self-else-taken-self-clause-known g c =
    let h = c.args.self.now in
    let v = view h.pass in
    let u = view c.in-Some.credit.pass in
    let same : length (view c.learn_as.new.pass).known ≡ length (longer v.known u.known) = ap (λ (s : Side _). length s.known) (c.learn_as.ensures.queue.1 ∙ c.absorb.ensures.rule) in
    omega (arith, h.known, longer_first v.known u.known, same)
