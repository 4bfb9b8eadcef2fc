-- How a closed link and its writer relate.
use Rattle.std.proofs.Common.{◌≡◌, ◌≤◌, ℕ, Bool, true, List, ◌++◌, append_assoc, refl, ap, sym, ◌∙◌, subst, arith}
use mathlib.Core.List.{IsPrefix}
use Rattle.mrpc_base.specs.Failures.{HasRisen, raised}
use Rattle.spsc_queue.specs.declared.piece.Piece.{Piece}
use Rattle.spsc_queue.specs.Pieces.{bytes_of_pieces, sentinels_of, frames_of_pieces}
use Rattle.link_queue.specs.declared.orders.Order.{Order}
use Rattle.link_queue.specs.declared.orders.News.{News}
use Rattle.link_queue.specs.declared.orders.News.TheVariants.{End, Failed}
use Rattle.link_queue.specs.declared.orders.Health.{Health}
use Rattle.link_queue.specs.declared.orders.Health.TheVariants.{Working, Failed as HasFailed, Memory as LacksMemory}
use Rattle.link_queue.specs.Sentinels.{IsSentinelIn, is_closed, IsForwarding, HasReturned}
use Rattle.link_queue.proofs.Pieces.{closed_whole, among_whole, end_whole, begins_prefix}

-- a count that was raised rose
pub raised_rose : (old new : ℕ) → raised old ≤ new → HasRisen old new
raised_rose old new h = grind arith

-- all that was pushed was popped
pub all_taken : (taken put : List (Piece Order)) (passed : List (List ℕ)) (health : Health)
    → IsForwarding taken passed true health → is_closed put ≡ true → IsPrefix taken put → taken ≡ put
all_taken taken put passed health h closed p = closed_whole taken put (h.closed_last refl) closed p

pub passed_in_order : (taken put : List (Piece Order)) (passed : List (List ℕ)) (health : Health)
    → IsForwarding taken passed true health → is_closed put ≡ true → IsPrefix taken put → IsPrefix passed (frames_of_pieces put)
passed_in_order taken put passed health h closed p =
    subst (λ (l : List (Piece Order)). IsPrefix passed (frames_of_pieces l)) (all_taken taken put passed health h closed p) (begins_prefix (frames_of_pieces taken) passed h.in_order)

pub passed_whole : (taken put : List (Piece Order)) (passed : List (List ℕ)) (health : Health)
    → IsForwarding taken passed true health → is_closed put ≡ true → IsPrefix taken put → (health ≡ HasFailed → ⊥)
    → (health ≡ LacksMemory → ⊥) → passed ≡ frames_of_pieces put
passed_whole taken put passed health h closed p well ample = works health refl well ample ∙ ap frames_of_pieces (all_taken taken put passed health h closed p)
  where
    works : (x : Health) → health ≡ x → (health ≡ HasFailed → ⊥) → (health ≡ LacksMemory → ⊥) → passed ≡ frames_of_pieces taken
    works Working e well ample = h.whole e
    works HasFailed e well ample = absurd (well e)
    works LacksMemory e well ample = absurd (ample e)

-- what was delivered is a prefix of what was returned
pub came_in_order : (given came : List ℕ) (put : List (Piece News)) (ended : Bool) (health : Health)
    → HasReturned put came ended health → IsPrefix given (bytes_of_pieces put) → IsPrefix given came
came_in_order given came put ended health h p =
    let q = begins_prefix came (bytes_of_pieces put) h.in_order in
    (p.0 ++ q.0, sym (append_assoc given p.0 q.0) ∙ ap (λ (l : List ℕ). l ++ q.0) p.1 ∙ q.1)

pub came_whole : (given came : List ℕ) (taken put : List (Piece News)) (ended : Bool) (health : Health)
    → HasReturned put came ended health → IsPrefix taken put → IsSentinelIn End (sentinels_of taken) → given ≡ bytes_of_pieces taken
    → given ≡ came
came_whole given came taken put ended health h p a all = all ∙ end_whole taken put h.ends_once p a ∙ h.whole (among_whole End taken put p a)

pub ended_first : (came : List ℕ) (taken put : List (Piece News)) (ended : Bool) (health : Health)
    → HasReturned put came ended health → IsPrefix taken put → IsSentinelIn End (sentinels_of taken) → ended ≡ true
ended_first came taken put ended health h p a = h.ended_first (among_whole End taken put p a)

pub failed_first : (came : List ℕ) (taken put : List (Piece News)) (ended : Bool) (health : Health)
    → HasReturned put came ended health → IsPrefix taken put → IsSentinelIn Failed (sentinels_of taken) → health ≡ HasFailed
failed_first came taken put ended health h p a = h.failed_first (among_whole Failed taken put p a)
