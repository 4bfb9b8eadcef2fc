-- The code's own: how a chain keeps the positions of its calls by cuts. The cut of a position, from 1, is the number
-- of calls at it or at a later one; calls are numbered by their indices, from 0. No other definition imports this
-- module.
use Rattle.std.specs.Prelude.{◌≡◌, ℕ, ◌+◌, ◌-◌, ◌≤◌, zero, suc, nat_lt, max, min, List, [], ◌∷◌, ◌++◌, map, set, slice_index, if◌then◌else◌}
use Rattle.engine_core.specs.Moves.{Row}

-- the position of the call at an index: the number of cuts, from the first, that are above the index
abbrev pub position_at : ℕ → List ℕ → ℕ
position_at place [] = 0
position_at place (cut ∷ cuts) = if nat_lt place cut then position_at place cuts + 1 else 0

-- the calls with these numbers, the first one at an index
abbrev pub row_from : ℕ → List ℕ → List ℕ → Row
row_from place cuts [] = []
row_from place cuts (seq ∷ seqs) = (seq, position_at place cuts) ∷ row_from (place + 1) cuts seqs

-- the cut of a position; that of position 0 is the number of calls
abbrev pub cut_at : ℕ → List ℕ → ℕ → ℕ
cut_at calls cuts zero = calls
cut_at calls cuts (suc position) = slice_index cuts position

-- no cut is above the one before it, nor the first above the number of calls
abbrev pub IsFalling : ℕ → List ℕ → Type 0
IsFalling calls [] = Unit {0}
IsFalling calls (cut ∷ cuts) = (cut ≤ calls) × IsFalling cut cuts

-- all cuts past a position are 0
abbrev pub IsShort : ℕ → List ℕ → Type 0
IsShort position [] = Unit {0}
IsShort zero (cut ∷ cuts) = (cut ≡ 0) × IsShort zero cuts
IsShort (suc position) (cut ∷ cuts) = IsShort position cuts

-- ---- how cuts change

-- calls past a position return to it
abbrev pub zeroed : ℕ → List ℕ → List ℕ
zeroed position [] = []
zeroed zero (cut ∷ cuts) = 0 ∷ zeroed zero cuts
zeroed (suc position) (cut ∷ cuts) = cut ∷ zeroed position cuts

-- the entry at a position is detached
abbrev pub closed_up : ℕ → List ℕ → List ℕ
closed_up position [] = []
closed_up zero (cut ∷ cuts) = cuts ++ 0 ∷ []
closed_up (suc position) (cut ∷ cuts) = cut ∷ closed_up position cuts

-- the first call at a position advances
abbrev pub raised_at : ℕ → List ℕ → List ℕ
raised_at position cuts = set cuts position (slice_index cuts position + 1)

-- the call at an index leaves the row: cuts above the index fall by one
abbrev pub taken_out : ℕ → List ℕ → List ℕ
taken_out place cuts = map (λ cut. max (min cut place) (cut - 1)) cuts

-- the call at an index and those after it start over
abbrev pub lowered : ℕ → List ℕ → List ℕ
lowered place cuts = map (λ cut. min cut place) cuts
