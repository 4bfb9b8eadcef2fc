use Rattle.std.proofs.Common.{◌≡◌, ◌≤◌, ◌+◌, ℕ, false, refl, ap, arith, sym, ◌∙◌}
use Rattle.shared_heap.specs.Fresh.{HeapId}
use Rattle.service_loop.proofs.Going.{call-number, serves-call}
use Rattle.service_loop.proofs.Parts.{read-by}
use Rattle.service_loop.proofs.Taking.{before-taken, given-up, untrue}
use Rattle.service_loop.proofs.submissions.Submissions.accept.Goals as goal

pub returns-then-ended-clause-serving : goal.returns-then-ended-clause-serving
returns-then-ended-clause-serving c =
    given-up c.args.call c.args.self.now c.requires.taken (c.if-ended.ensures.0 refl)

pub returns-in-Ok-clause-serving : goal.returns-in-Ok-clause-serving
returns-in-Ok-clause-serving c =
    let h = c.requires.taken in
    let linked : c.args.self.now.conn.ended ≡ false = untrue c.args.self.now.conn.ended c.if-ended.ensures.1 in
    serves-call c.args.self.now.conn c.accept.new.self c.args.self.now.reader c.accept.new.words h.earlier.calls
    c.args.self.now.calls c.args.self.now.steps.now c.args.self.now.applied c.args.self.now.accepted c.in-Ok.seq
    c.meet.new.self.heap.words c.args.call _ c.accept.ensures.same linked
    (ap (λ (x : HeapId). x.words) c.meet.ensures.heap) c.in-Ok.ensures.accepted
    (read-by c.calls_are_fresh.ensures.after_note c.calls_are_fresh.ensures.later c.loads_preserve_reader.ensures
    c.args.call.stores c.args.call.note.stores _ c.args.self.now.reader c.meet.new.self c.accept.new.words
    h.of_heap.stores c.meet.ensures.heap c.meet.ensures.loads c.meet.ensures.told c.meet.ensures.grows
    c.accept.ensures.reads)
    h.taken (sym h.closed ∙ c.requires.open) c.requires.open h.ring_heap (c.requires.none_due.later refl)
    (before-taken c.args.call c.args.self.now h)

one-more : (count seq : ℕ) → seq ≡ count + 1 → seq ≤ count + 1
one-more count seq next = omega (arith, next)

pub returns-in-Ok-clause-one : goal.returns-in-Ok-clause-one
returns-in-Ok-clause-one c =
    let h = c.requires.taken in
    one-more c.args.self.now.accepted c.in-Ok.seq
    (call-number c.args.self.now.conn c.accept.new.self c.args.self.now.reader h.earlier.calls
    c.args.self.now.steps.now c.args.self.now.applied c.args.self.now.accepted c.in-Ok.seq
    c.meet.new.self.heap.words c.args.call _ c.in-Ok.ensures.accepted (before-taken c.args.call c.args.self.now h))
