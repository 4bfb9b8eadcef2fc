use Rattle.std.proofs.Common.{ap, sym, subst, refl, ◌∙◌}
use Rattle.spsc_queue.specs.Readers.{delivered_by, popped_by, known_pushed_by}
use Rattle.mem_fabric.specs.Pair.{IsOutgoing}
use Rattle.mem_fabric.proofs.Outgoing.{ends_with_all, finds_all}
use Rattle.mem_fabric.proofs.pair_link.PairLink.read.Goals as goal

pub invariant_of-self : goal.invariant_of-self
invariant_of-self g c =
    let inv = c.self.invariant in
    let before = ap (λ v. v.ended) c.self.view_is ∙ c.requires.before_end in (
      inv.0,
      (inv.1.0, subst (IsOutgoing inv.1.0) (sym c.in-Bytes.ensures.told) inv.1.1),
      λ ended. absurd (cc (ended, before)),
      inv.3,
    )

pub invariant_of-self-in-Nothing : goal.invariant_of-self-in-Nothing
invariant_of-self-in-Nothing g c =
    let inv = c.self.invariant in
    let before = ap (λ v. v.ended) c.self.view_is ∙ c.requires.before_end in (
      inv.0,
      (inv.1.0, subst (IsOutgoing inv.1.0) (sym c.in-Nothing.ensures.told) inv.1.1),
      λ ended. absurd (cc (ended, before)),
      inv.3,
    )

pub invariant_of-self-in-Sentinel : goal.invariant_of-self-in-Sentinel
invariant_of-self-in-Sentinel g c =
    let inv = c.self.invariant in
    let before = c.self.inside.incoming in
    let after = c.read.new.self in
    let e = c.in-Sentinel.ensures in (
      inv.0,
      (inv.1.0, subst (IsOutgoing inv.1.0) (sym e.told) inv.1.1),
      λ _. ends_with_all inv.1.0 (known_pushed_by before) (known_pushed_by after) (popped_by before) (popped_by after) (delivered_by after) c.in-Sentinel.field-0 inv.1.1 e.told e.mark e.agree e.all,
      inv.3,
    )

pub returns-in-Bytes : goal.returns-in-Bytes
returns-in-Bytes g c =
    let e = c.in-Bytes.ensures in
    rw (e.told, e.queue, ← c.self.view_is) (record {
      answer = (λ x. cc (x), λ x. cc (x));
      count = e.count;
      appended = e.given;
      kept = tt;
      ends = λ x. absurd (cc (x));
      same_ended = λ _. refl;
      told = tt;
      same = refl;
    })

pub returns-in-Nothing : goal.returns-in-Nothing
returns-in-Nothing g c =
    let e = c.in-Nothing.ensures in
    rw (e.told, e.queue, ← c.self.view_is) (record {
      answer = (λ x. cc (x), λ x. cc (x));
      count = tt;
      appended = tt;
      kept = e.no_bytes;
      ends = λ x. absurd (cc (x));
      same_ended = λ _. refl;
      told = finds_all _ _ _ e.empty e.all;
      same = refl;
    })

pub returns-in-Sentinel : goal.returns-in-Sentinel
returns-in-Sentinel g c =
    let inv = c.self.invariant in
    let before = c.self.inside.incoming in
    let after = c.read.new.self in
    let e = c.in-Sentinel.ensures in
    let all = ends_with_all inv.1.0 (known_pushed_by before) (known_pushed_by before) (popped_by before) (popped_by after) (delivered_by after) c.in-Sentinel.field-0 inv.1.1 refl e.mark e.agree e.all in
    rw (e.told, e.queue, ← c.self.view_is) (record {
      answer = (λ x. cc (x), λ x. cc (x));
      count = tt;
      appended = tt;
      kept = e.no_bytes;
      ends = λ _. refl;
      same_ended = λ other. absurd (other refl);
      told = all.knows;
      same = refl;
    })
