-- The effects of passes, with each place and each list of words as an argument of its own: lemmas change them one by
-- one.
use Rattle.std.specs.Prelude.{ℕ, List}
use Rattle.mrpc_table.specs.declared.table.Table.{Table}
use Rattle.graph_form.specs.Roles.{WordRole, Expected}
use Rattle.graph_form.specs.Placed.{Placed, Word}
use Rattle.graph_place.specs.Laid.{Spans, IsBetween, IsSpread, Pass, part, HasPut, HasPutWord, HasBegun}

-- slots from a up to b, and content from c up to d, both excluding the end
abbrev pub spans : ℕ → ℕ → ℕ → ℕ → Spans
spans a b c d = record { slots_begin = a; slots_end = b; content_begin = c; content_end = d }

abbrev pub BetweenAt : ℕ → ℕ → ℕ → ℕ → ℕ → Type 0
BetweenAt a b c d place = IsBetween (spans a b c d) place

abbrev pub SpreadAt : ℕ → ℕ → ℕ → ℕ → List (ℕ × ℕ) → Type 0
SpreadAt a b c d words = IsSpread (spans a b c d) words

-- a pass over these places, with the words before it and after it
abbrev pub pass : ℕ → ℕ → ℕ → ℕ → List (ℕ × ℕ) → List (ℕ × ℕ) → Pass
pass a b c d before after = record {
  before = record { words = before; free = c };
  after = record { words = after; free = d };
  slots_begin = a;
  slots_end = b;
}

abbrev pub PutsAt : Table → ℕ → Expected → ℕ → ℕ → ℕ → ℕ → List (ℕ × ℕ) → List (ℕ × ℕ) → (Placed → Type 0) → Type 0
PutsAt T H es a b c d before after Made = HasPut T H (part es Made) (pass a b c d before after)

-- its slots start at the place of the word
abbrev pub PutsWordAt : Table → ℕ → WordRole × ℕ → ℕ → ℕ → ℕ → List (ℕ × ℕ) → List (ℕ × ℕ) → (Word → Type 0) → Type 0
PutsWordAt T H e b c d before after Made = HasPutWord T H e (pass e.1 b c d before after) Made

abbrev pub BegunAt : Table → ℕ → Expected → Expected → ℕ → ℕ → ℕ → ℕ → List (ℕ × ℕ) → List (ℕ × ℕ)
    → (Placed → Type 0) → (Placed → Type 0) → Type 0
BegunAt T H all rest a b c d before now Made Rest = HasBegun T H (part all Made) (part rest Rest) (pass a b c d before now)
