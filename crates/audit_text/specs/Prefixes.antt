-- The code's own: a line at the start of a text.
use Rattle.std.specs.Prelude.{◌≡◌, ℕ, List, [], ◌∷◌, ◌++◌}
use Rattle.mrpc_table.specs.declared.table.Table.{Table}
use Rattle.policy_declarations.specs.Declarations.{Declared}
use Rattle.audit_text.specs.HappeningRefs.{event_of_ref}
use Rattle.audit_text.specs.LineWords.{line_kind_of, tail_words}
use Rattle.audit_text.specs.Lines.{WordList}
use Rattle.audit_text.specs.Writable.{CanBeWritten}
use Rattle.audit_text.specs.declared.short_line.HappeningRef.{HappeningRef}
use Rattle.audit_text.specs.declared.event_words.LineKind.{LineKind}

-- words with a space between each two, a line feed, and a remainder
abbrev pub line_with_remainder : WordList → List ℕ → List ℕ
line_with_remainder [] rest = 10 ∷ rest
line_with_remainder (w ∷ []) rest = w ++ 10 ∷ rest
line_with_remainder (w ∷ v ∷ ws) rest = w ++ 32 ∷ line_with_remainder (v ∷ ws) rest

-- the text starts with the words of a line of this kind, after its connection, and this is the remainder
abbrev pub IsEventPrefix : LineKind → List ℕ → HappeningRef → List ℕ → Type 0
IsEventPrefix kind text b rest = (T : Table) (declared : Declared)
    → CanBeWritten T declared (event_of_ref b) × (line_kind_of (event_of_ref b) ≡ kind)
    × (text ≡ line_with_remainder (tail_words T (event_of_ref b)) rest)
