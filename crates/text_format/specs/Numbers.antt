-- The texts of numbers (Protocol Buffers, "Text Format Language Specification", "Numeric Literals" and "Enum Values"),
-- by their word forms.
use Rattle.std.specs.Prelude.{◌≡◌, ◌≢◌, ℕ, ℤ, ◌<◌, ◌==◌, List, [], codes, length, Some, option_map, slice_get, slice_index_or, unwrap_or, if◌then◌else◌, from_bits, IsTrue}
use Rattle.std.specs.Float.{NotNanBits, Format, binary32, binary64}
use Rattle.std.specs.Float.Ieee.{nan_bits}
use Rattle.std.specs.Float.Parse.{parse_float}
use Rattle.std.specs.Fmt.{decimal, signed_decimal}
use Rattle.std.specs.Int.{w64, cast_signed}
use Rattle.mrpc_table.specs.declared.table.Kind.{Kind}
use Rattle.mrpc_table.specs.declared.table.Kind.TheVariants.{Uint32, Uint64, Bool as TheBool, Fixed32, Fixed64, Float, Double, Choice}
use Rattle.mrpc_table.specs.declared.table.Table.{Table}

-- the values of the enum with this index in the table
abbrev pub enum_values : Table → ℕ → List (ℤ × List ℕ)
enum_values T i = unwrap_or (option_map (λ e. e.values) (slice_get T.enums i)) []

-- this is the first of the enum's names for a number
pub record IsFirstName (values : List (ℤ × List ℕ)) (n : ℤ) (name : List ℕ) : Type 0 where
  pub at : ℕ
  pub within : at < length values
  pub stands : (d : ℤ × List ℕ) → slice_index_or values at d ≡ (n, name)
  pub first : (k : ℕ) (d : ℤ × List ℕ) → k < at → (slice_index_or values k d).0 ≢ n

-- an enum has no name for a number
pub record HasNoName (values : List (ℤ × List ℕ)) (n : ℤ) : Type 0 where
  pub none : (k : ℕ) (d : ℤ × List ℕ) → k < length values → (slice_index_or values k d).0 ≢ n

-- the text of an enum's value: a name, or its number if it has no name
pub data IsEnumText (values : List (ℤ × List ℕ)) (n : ℤ) (text : List ℕ) : Type 0 where
  named : IsFirstName values n text → IsEnumText values n text
  unnamed : HasNoName values n → text ≡ signed_decimal n → IsEnumText values n text

-- the text of a float: any that reads back as it, and `nan` for a NaN
pub data IsFloatText (f : Format) (bits : ℕ) (text : List ℕ) : Type 0 where
  not_a_number : IsTrue (nan_bits f bits) → text ≡ codes "nan" → IsFloatText f bits text
  reads_back : NotNanBits f bits → parse_float f text ≡ Some (from_bits f bits) → IsFloatText f bits text

-- the text of an integer: decimal digits, with `-` before them if it is below 0; the text of a boolean: its
-- name
abbrev pub integral_text : Kind → ℕ → List ℕ
integral_text TheBool n = if n == 0 then codes "false" else codes "true"
integral_text Uint32 n = decimal n
integral_text Uint64 n = decimal n
integral_text Fixed32 n = decimal n
integral_text Fixed64 n = decimal n
integral_text _ n = signed_decimal (cast_signed w64 n)

-- the text of a number of a kind
abbrev pub IsNumberText : Table → Kind → ℕ → List ℕ → Type 0
IsNumberText T (Choice i) n text = IsEnumText (enum_values T i) (cast_signed w64 n) text
IsNumberText T Float n text = IsFloatText binary32 n text
IsNumberText T Double n text = IsFloatText binary64 n text
IsNumberText T k n text = text ≡ integral_text k n
