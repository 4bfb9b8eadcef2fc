-- The code's own: the types by which the lines of a text are checked while it is read (this project's own). No line is
-- read after the one that passes the largest size of a text. So it suffices to know the types that the lines up to it
-- declare, and those that later lines declare and these lines use.
use Rattle.std.specs.Prelude.{◌≡◌, ℕ, ◌<◌, List, [], ◌∷◌, ◌++◌, codes, Option, Some, None, option_and_then, if◌then◌else◌, slice_get}
use Rattle.std.specs.List.{filter_map, flat_map}
use Rattle.mrpc_table.specs.Lines.{whole_lines}
use Rattle.mrpc_table.specs.declared.limits.TheConstants.{MAX_TEXT}
use Rattle.table_text.specs.Faults.{bytes_of_lines}
use Rattle.table_text.specs.LineTests.{TypeNames, NamesBefore, types_of, line_fault, fault_at_line, is_among}
use Rattle.table_text.specs.Lines.{without_prefix, line_of}
use Rattle.table_text.specs.NameIndex.{AreNames}
use Rattle.table_text.specs.declared.name_index.NameIndex.{NameIndex}
use Rattle.table_text.specs.declared.line.KindWord.{KindWord}
use Rattle.table_text.specs.declared.line.KindWord.TheVariants as kinds
use Rattle.table_text.specs.declared.line.LabelWord.{LabelWord}
use Rattle.table_text.specs.declared.line.LabelWord.TheVariants.{Map}
use Rattle.table_text.specs.declared.line.TableLine.{TableLine}
use Rattle.table_text.specs.declared.line.TableLine.TheVariants.{Field, Method}

-- ---- the types that lines use, by their full names

abbrev pub used_by_kind : KindWord → List (List ℕ)
used_by_kind (kinds.Scalar k) = []
used_by_kind (kinds.Message name) = name ∷ []
used_by_kind (kinds.Choice name) = name ∷ []

abbrev pub used_by_label : LabelWord → List (List ℕ)
used_by_label (Map key) = used_by_kind key
used_by_label _ = []

abbrev pub used_by : TableLine → List (List ℕ)
used_by (Field f) = used_by_label f.label ++ used_by_kind f.kind
used_by (Method m) = m.input ∷ m.output ∷ []
used_by _ = []

abbrev pub used_by_line : Option TableLine → List (List ℕ)
used_by_line None = []
used_by_line (Some l) = used_by l

abbrev pub used_in : List (List ℕ) → List (List ℕ)
used_in lines = flat_map (λ line. used_by_line (line_of line)) lines

-- ---- the types that are known

-- the suffix after a prefix, if it is one of the names
abbrev pub used_with_prefix : List (List ℕ) → List ℕ → List ℕ → Option (List ℕ)
used_with_prefix names prefix line =
    option_and_then (λ name. if is_among name names then Some name else None) (without_prefix prefix line)

-- the types that the near lines declare, and those of the far lines that the near ones use
abbrev pub types_near : List (List ℕ) → List (List ℕ) → TypeNames
types_near near far = record {
  enums = filter_map (without_prefix (codes "enum ")) near ++ filter_map (used_with_prefix (used_in near) (codes "enum ")) far;
  messages =
      filter_map (without_prefix (codes "message ")) near ++ filter_map (used_with_prefix (used_in near) (codes "message ")) far;
}

-- a text whose near lines exceed the largest size, and the far lines after them
pub record AreLongParts (text near far : List ℕ) : Type 0 where
  pub lines : whole_lines text ≡ whole_lines near ++ whole_lines far
  pub passes : MAX_TEXT < bytes_of_lines (whole_lines near)

-- the first i lines have no fault
abbrev pub HasNoFaultBefore : List ℕ → ℕ → Type 0
HasNoFaultBefore text i = (j : ℕ) → j < i → fault_at_line text j ≡ None

-- types by which each line that is reached is checked like by those of the text; for a text without a fault they are
-- those of the text
pub record IsSufficient (t : TypeNames) (text : List ℕ) : Type 0 where
  pub judges : (i : ℕ) (line : List ℕ) (before : NamesBefore) (bytes : ℕ) → HasNoFaultBefore text i
      → slice_get (whole_lines text) i ≡ Some line
      → line_fault t before bytes (line_of line) ≡ line_fault (types_of (whole_lines text)) before bytes (line_of line)
  pub whole : ((i : ℕ) → fault_at_line text i ≡ None) → t ≡ types_of (whole_lines text)

-- these enums and messages are kept for the text
pub record AreKnown (text : List ℕ) (enums messages : NameIndex) : Type 0 where
  pub types : TypeNames
  pub held_enums : AreNames enums types.enums
  pub held_messages : AreNames messages types.messages
  pub is_sufficient : IsSufficient types text
