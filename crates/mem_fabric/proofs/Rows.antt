-- Worked by hand: the definitions on a pair whose one end sent two frames and finished.
use Rattle.std.proofs.Common.{◌≡◌, ℕ, Bool, true, false, true≢false, List, [], ◌∷◌, refl, sym, ap}
use Rattle.atomic_table.specs.Seated.{TableId}
use Rattle.spsc_queue.specs.declared.piece.Piece.{Piece}
use Rattle.spsc_queue.specs.declared.piece.Piece.TheVariants.{Bytes, Sentinel}
use Rattle.mem_fabric.specs.Fabric.{failing_calls_of}
use Rattle.spsc_queue.specs.Pieces.{frames_of_pieces}
use Rattle.mem_fabric.specs.Pair.{PairEnd, ArePair, IsDeliveredInOrder, knowing_all_sent, IsOutgoing, HasDeliveredAll}

-- a queue, by its number
abbrev queue : ℕ → TableId
queue n = record { words = n; slots = 0; views_name = 0; atom = 0; block = 0; offset = 0; slot_names = [] }

abbrev frames : List (List ℕ)
frames = (1 ∷ 2 ∷ []) ∷ (3 ∷ []) ∷ []

abbrev from : Bool → PairEnd
from finished = record {
  handed = frames;
  finished = finished;
  given = [];
  ended = false;
  told = [];
  failing_sends = [];
  failing_receives = [];
  sends = 2;
  receives = 0;
  failures = 0;
  outward = queue 1;
  inward = queue 2;
}

-- the other end, which received these bytes
abbrev to : List ℕ → Bool → PairEnd
to given ended = record {
  handed = [];
  finished = false;
  given = given;
  ended = ended;
  told = [];
  failing_sends = [];
  failing_receives = [];
  sends = 0;
  receives = 2;
  failures = 0;
  outward = queue 2;
  inward = queue 1;
}

-- ---- what one end received and the other sent

nothing_yet : IsDeliveredInOrder (from false) (to [] false)
nothing_yet = record {
  in_order = (1 ∷ 2 ∷ 3 ∷ [], refl);
  whole = λ e. absurd (true≢false (sym e));
  finished = λ e. absurd (true≢false (sym e));
}

-- within a frame, and before the end of the stream
cut_anywhere : IsDeliveredInOrder (from true) (to (1 ∷ []) false)
cut_anywhere = record {
  in_order = (2 ∷ 3 ∷ [], refl);
  whole = λ e. absurd (true≢false (sym e));
  finished = λ e. absurd (true≢false (sym e));
}

all_after_the_end : IsDeliveredInOrder (from true) (to (1 ∷ 2 ∷ 3 ∷ []) true)
all_after_the_end = record { in_order = ([], refl); whole = λ _. refl; finished = λ _. refl }

-- no byte overtakes another, is duplicated, is lost, or appears from nowhere
none_overtakes : IsDeliveredInOrder (from true) (to (3 ∷ []) false) → ⊥
none_overtakes h = let p = h.in_order in cc (p.1)

none_twice : IsDeliveredInOrder (from true) (to (1 ∷ 2 ∷ 1 ∷ []) false) → ⊥
none_twice h = let p = h.in_order in cc (p.1)

none_lost : IsDeliveredInOrder (from true) (to (1 ∷ 3 ∷ []) false) → ⊥
none_lost h = let p = h.in_order in cc (p.1)

none_from_nowhere : IsDeliveredInOrder (from true) (to (1 ∷ 2 ∷ 3 ∷ 4 ∷ []) false) → ⊥
none_from_nowhere h = let p = h.in_order in cc (p.1)

-- the end of the stream comes after the last byte, and only from an end that has finished
no_end_before_the_last : IsDeliveredInOrder (from true) (to (1 ∷ 2 ∷ []) true) → ⊥
no_end_before_the_last h = let e = h.whole refl in cc (e)

no_end_before_finish : IsDeliveredInOrder (from false) (to (1 ∷ 2 ∷ 3 ∷ []) true) → ⊥
no_end_before_finish h = true≢false (sym (h.finished refl))

-- ---- pairs

a_pair : ArePair (from true) (to [] false)
a_pair = (refl, refl)

no_pair : ArePair (from true) (from true) → ⊥
no_pair p = let e : 1 ≡ 2 = ap (λ (q : TableId). q.words) p.0 in cc (e)

told : knowing_all_sent (from true) (to (1 ∷ []) false) ≡ record (to (1 ∷ []) false) { told = 1 ∷ 2 ∷ 3 ∷ [] }
told = refl

-- ---- what an end pushes, and what the other popped of it

abbrev pieces : List (Piece ℕ)
pieces = Bytes (1 ∷ 2 ∷ []) ∷ Bytes (3 ∷ []) ∷ []

abbrev ended : List (Piece ℕ)
ended = Bytes (1 ∷ 2 ∷ []) ∷ Bytes (3 ∷ []) ∷ Sentinel 0 ∷ []

both_frames : frames_of_pieces ended ≡ frames
both_frames = refl

goes_on : IsOutgoing false pieces
goes_on = refl

has_finished : IsOutgoing true ended
has_finished = (refl, refl)

-- the end sentinel is there exactly if the end has finished, and nothing follows it
no_finish_without_the_mark : IsOutgoing true pieces → ⊥
no_finish_without_the_mark e = true≢false e

no_mark_without_finish : IsOutgoing false ended → ⊥
no_mark_without_finish h = true≢false (sym h.0)

nothing_behind_the_mark : IsOutgoing {M = ℕ} true (Sentinel 0 ∷ Bytes (3 ∷ []) ∷ []) → ⊥
nothing_behind_the_mark h = let e = h.1 in cc (e)

took_all : HasDeliveredAll ended pieces (1 ∷ 2 ∷ 3 ∷ [])
took_all = record { marked = λ e. cc (e); gave = refl; knows = ([], refl) }

no_all_without_the_mark : HasDeliveredAll pieces [] (1 ∷ 2 ∷ 3 ∷ []) → ⊥
no_all_without_the_mark h = h.marked refl

-- ---- the calls that are listed for a connection

listed_for_the_second : failing_calls_of 2 ((1, 4) ∷ (2, 1) ∷ (2, 3) ∷ []) ≡ 1 ∷ 3 ∷ []
listed_for_the_second = refl

none_listed : failing_calls_of 3 ((1, 4) ∷ (2, 1) ∷ (2, 3) ∷ []) ≡ []
none_listed = refl
