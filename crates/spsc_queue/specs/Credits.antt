-- The code's own: the rule of the queue that carries credits back. All its credits belong to one queue. Each of
-- its passes has a desk at its port, which names that queue as soon as it is known.
use Rattle.std.specs.Prelude.{◌≡◌, ℕ, true, false, List, [], ◌∷◌, ⊤}
use mathlib.Core.Option.{some}
use lib.ListN.{get_elem?}
use Rattle.atomic_table.specs.Seated.{TableId}
use Rattle.spsc_queue.specs.declared.credit.Credit.{Credit}
use Rattle.spsc_queue.specs.declared.credit.CreditDesk.{CreditDesk}
use Rattle.spsc_queue.specs.Names.{no_queue}

-- the desk of a pass that knows the credits' queue
abbrev pub desk_of : TableId → CreditDesk
desk_of queue = record { named = true; queue = queue }

-- the desk of the first pass, which doesn't know it yet
abbrev pub unnamed : CreditDesk
unnamed = record { named = false; queue = no_queue }

-- each of the credits belongs to the queue
abbrev pub AreAllOf : {T : Type 0} → TableId → List (Credit T) → Type 0
AreAllOf queue [] = ⊤
AreAllOf queue (credit ∷ credits) = (credit.pass.table_id ≡ queue) × AreAllOf queue credits

-- no port but this one has a desk
abbrev pub IsOnlyPort : List CreditDesk → ℕ → Type 0
IsOnlyPort desks port = (other : ℕ) (desk : CreditDesk) → get_elem? desks other ≡ some desk → other ≡ port

-- The desk at a port agrees with the queue of all credits: if it names a queue, it names this one. If it names
-- none, no credit is queued and there is no other desk.
pub record IsDeskOf {T : Type 0} (queue : TableId) (credits : List (Credit T)) (desks : List CreditDesk) (port : ℕ)
    (desk : CreditDesk) : Type 0 where
  pub named : desk.named ≡ true → desk.queue ≡ queue
  pub empty : desk.named ≡ false → credits ≡ []
  pub alone : desk.named ≡ false → IsOnlyPort desks port

-- the queued credits all belong to one queue, and every desk agrees with it
pub record AreOfOne {T : Type 0} (credits : List (Credit T)) (desks : List CreditDesk) : Type 0 where
  pub queue : TableId
  pub all : AreAllOf queue credits
  pub fits : (port : ℕ) (desk : CreditDesk) → get_elem? desks port ≡ some desk → IsDeskOf queue credits desks port desk
