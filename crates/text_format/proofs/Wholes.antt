-- Integers and booleans.
use Rattle.std.proofs.Common.{◌≢◌, ℕ, refl}
use Rattle.mrpc_table.specs.declared.table.Kind.{Kind}
use Rattle.mrpc_table.specs.declared.table.Kind.TheVariants.{Int32, Int64, Uint32, Uint64, Sint32, Sint64}
use Rattle.mrpc_table.specs.declared.table.Kind.TheVariants.{Bool as TheBool, Fixed32, Fixed64, Sfixed32, Sfixed64}
use Rattle.mrpc_table.specs.declared.table.Kind.TheVariants.{Float, Double, Text, Octets, Message, Choice}
use Rattle.mrpc_table.specs.declared.table.Table.{Table}
use Rattle.text_format.specs.Numbers.{IsNumberText, integral_text}

-- a number of any kind other than an enum, a float or a double is an integer or a boolean
pub whole_shown : (T : Table) (k : Kind) (n : ℕ) → ((i : ℕ) → k ≢ Choice i) → k ≢ Float → k ≢ Double → IsNumberText T k n (integral_text k n)
whole_shown T Int32 n c f d = refl
whole_shown T Int64 n c f d = refl
whole_shown T Uint32 n c f d = refl
whole_shown T Uint64 n c f d = refl
whole_shown T Sint32 n c f d = refl
whole_shown T Sint64 n c f d = refl
whole_shown T TheBool n c f d = refl
whole_shown T Fixed32 n c f d = refl
whole_shown T Fixed64 n c f d = refl
whole_shown T Sfixed32 n c f d = refl
whole_shown T Sfixed64 n c f d = refl
whole_shown T Float n c f d = absurd (f refl)
whole_shown T Double n c f d = absurd (d refl)
whole_shown T Text n c f d = refl
whole_shown T Octets n c f d = refl
whole_shown T (Message i) n c f d = refl
whole_shown T (Choice i) n c f d = absurd (c i refl)
