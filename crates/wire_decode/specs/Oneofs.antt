-- Which fields are members of one oneof (Protocol Buffers, "Encoding": "Oneofs").
use Rattle.std.specs.Prelude.{◌==◌, ◌&&◌, ℕ, Bool, false, not, List, Option, Some, None, option_and_then}
use Rattle.mrpc_table.specs.Normal.{field_at}
use Rattle.mrpc_table.specs.declared.table.Label.{Label}
use Rattle.mrpc_table.specs.declared.table.Label.TheVariants.{Member}
use Rattle.mrpc_table.specs.declared.table.Field.{Field}

-- the oneof that a field of this label is a member of, by its index
abbrev pub oneof_of : Label → Option ℕ
oneof_of (Member oneof) = Some oneof
oneof_of _ = None

-- the oneof that the field with a number is a member of
abbrev pub oneof_at : List Field → ℕ → Option ℕ
oneof_at fields number = option_and_then (λ f. oneof_of f.label) (field_at fields number)

-- whether both are the same oneof
abbrev pub are_same_oneof : Option ℕ → Option ℕ → Bool
are_same_oneof (Some one) (Some other) = one == other
are_same_oneof _ _ = false

-- two numbers are of different members of one oneof
abbrev pub are_rivals : List Field → ℕ → ℕ → Bool
are_rivals fields one other = not (other == one) && are_same_oneof (oneof_at fields one) (oneof_at fields other)
