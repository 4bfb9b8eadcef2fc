-- The code's own: the invariants of a ring's ends.
use Rattle.std.specs.Prelude.{◌≡◌, ℕ, ◌≤◌, Bool, true, false, length}
use mathlib.Core.List.{IsPrefix}
use Rattle.descriptor_ring.specs.declared.ring_rule.RingView.{RingView}
use Rattle.descriptor_ring.specs.RingRule.{IsInOrder}

-- the view of a sender that hasn't closed; all items that it knows were taken are ones that it sent
pub record IsSender {T : Type 0} (v : RingView T) : Type 0 where
  pub sends : v.sends ≡ true
  pub unclosed : v.closed ≡ false
  pub told : IsPrefix v.taken v.sent

-- the view of a receiver, which took at most `most` items
pub record IsReceiver {T : Type 0} (most : ℕ) (closed : Bool) (v : RingView T) : Type 0 where
  pub takes : v.takes ≡ true
  pub ended : v.ended ≡ closed
  pub few : length v.taken ≤ most
  pub in_order : IsInOrder v

-- the view of a sender that has closed
pub record HasClosed {T : Type 0} (v : RingView T) : Type 0 where
  pub sends : v.sends ≡ true
  pub closed : v.closed ≡ true
