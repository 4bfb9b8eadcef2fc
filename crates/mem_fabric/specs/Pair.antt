-- One end of an in-memory link, and how the two ends of a pair relate.
use Rattle.std.specs.Prelude.{◌≡◌, ◌≢◌, ℕ, Bool, true, false, List, [], ◌∷◌}
use Rattle.std.specs.List.{concat}
use mathlib.Core.List.{IsPrefix}
use Rattle.atomic_table.specs.Seated.{TableId}
use Rattle.spsc_queue.specs.declared.piece.Piece.{Piece}
use Rattle.spsc_queue.specs.declared.piece.Piece.TheVariants.{Bytes, Sentinel}
use Rattle.spsc_queue.specs.Pieces.{bytes_of_pieces, sentinels_of}

-- one end of a pair
pub record PairEnd : Type 0 where
  -- the frames that were sent, in order, and whether the sending side was shut down
  pub handed : List (List ℕ)
  pub finished : Bool
  -- the bytes that were received, and whether a receive returned the end of the stream
  pub given : List ℕ
  pub ended : Bool
  -- the bytes that it knows the other end sent: all that were sent when the two ends were last reconciled
  pub told : List ℕ
  -- the numbers of the sends and of the receives that shall fail, each counted from 1
  pub failing_sends : List ℕ
  pub failing_receives : List ℕ
  -- how many sends and receives were made, and how many of both failed; each saturates at 2^64 - 1
  pub sends : ℕ
  pub receives : ℕ
  pub failures : ℕ
  -- the queue that it pushes into, and the one that it pops from
  pub outward : TableId
  pub inward : TableId

-- the two ends of one pair
abbrev pub ArePair : PairEnd → PairEnd → Type 0
ArePair a b = (a.outward ≡ b.inward) × (b.outward ≡ a.inward)

-- what one end received is a prefix of what the other sent, and all of it after the end of the stream, which
-- comes only if the other has finished
pub record IsDeliveredInOrder (from to : PairEnd) : Type 0 where
  pub in_order : IsPrefix to.given (concat from.handed)
  pub whole : to.ended ≡ true → to.given ≡ concat from.handed
  pub finished : to.ended ≡ true → from.finished ≡ true

-- an end that knows of every frame that the other sent
abbrev pub knowing_all_sent : PairEnd → PairEnd → PairEnd
knowing_all_sent other end = record end { told = concat other.handed }

-- what an end pushes: frames, followed by the end sentinel exactly if it has finished
abbrev pub IsOutgoing : {M : Type 0} → Bool → List (Piece M) → Type 0
IsOutgoing finished [] = finished ≡ false
IsOutgoing finished (Bytes frame ∷ pieces) = IsOutgoing finished pieces
IsOutgoing finished (Sentinel mark ∷ pieces) = (finished ≡ true) × (pieces ≡ [])

-- up to an end sentinel, every byte that was popped was received, and every byte known to be sent was popped
pub record HasDeliveredAll {M : Type 0} (taken told : List (Piece M)) (given : List ℕ) : Type 0 where
  pub marked : sentinels_of taken ≢ []
  pub gave : given ≡ bytes_of_pieces taken
  pub knows : IsPrefix (bytes_of_pieces told) given
