-- The code's own: the oneof that a field is a member of, and the member that a message has.
use Rattle.std.specs.Prelude.{ℕ, ◌==◌, Bool, false, List, option_map, unwrap_or, if◌then◌else◌}
use Rattle.mrpc_table.specs.Node.{Node, no_fields, field}
use Rattle.mrpc_table.specs.Normal.{field_at}
use Rattle.mrpc_table.specs.declared.table.Label.{Label}
use Rattle.mrpc_table.specs.declared.table.Label.TheVariants.{Member}
use Rattle.mrpc_table.specs.declared.table.Field.{Field}

-- whether a label is that of a member of the oneof
abbrev pub is_of : ℕ → Label → Bool
is_of o (Member p) = p == o
is_of o _ = false

-- whether the field with a number is a member of the oneof
abbrev pub is_member_of : List Field → ℕ → ℕ → Bool
is_member_of fs o n = unwrap_or (option_map (λ f. is_of o f.label) (field_at fs n)) false

-- the number of the last field that is a member of the oneof, or `otherwise` if there is none
abbrev pub member_of : List Field → ℕ → ℕ → Node → ℕ
member_of fs o otherwise no_fields = otherwise
member_of fs o otherwise (field n c t) = member_of fs o (if is_member_of fs o n then n else otherwise) t
