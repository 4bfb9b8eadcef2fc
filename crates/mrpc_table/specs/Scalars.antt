-- The scalar kinds by their names (Protocol Buffers, proto3 language guide, "Scalar Value Types").
use Rattle.std.specs.Prelude.{ℕ, List, [], ◌∷◌, Option, option_map}
use Rattle.std.specs.List.{find}
use Rattle.std.specs.Str.{bytes_eq}
use Rattle.mrpc_table.specs.declared.table.Kind.{Kind}
use Rattle.mrpc_table.specs.declared.table.Kind.TheVariants.{Int32, Int64, Uint32, Uint64, Sint32, Sint64, Bool as TheBool, Fixed32, Fixed64, Sfixed32, Sfixed64, Float, Double, Text, Octets}
use Rattle.mrpc_table.specs.declared.table.Table.{Table}
use Rattle.mrpc_table.specs.Text.{kind_text}

-- a scalar has the same name in all tables, and so in one without types
abbrev pub no_table : Table
no_table = record { messages = []; enums = []; methods = [] }

-- a kind, with the word for it in the text of a table
abbrev pub named : Kind → List ℕ × Kind
named k = (kind_text no_table k, k)

abbrev pub scalar_names : List (List ℕ × Kind)
scalar_names =
    named Int32 ∷ named Int64 ∷ named Uint32 ∷ named Uint64 ∷ named Sint32 ∷ named Sint64 ∷ named TheBool
    ∷ named Fixed32 ∷ named Fixed64 ∷ named Sfixed32 ∷ named Sfixed64 ∷ named Float ∷ named Double
    ∷ named Text ∷ named Octets ∷ []

-- the scalar kind that a word names
abbrev pub scalar_of : List ℕ → Option Kind
scalar_of word = option_map (λ e. e.1) (find (λ e. bytes_eq word e.0) scalar_names)
