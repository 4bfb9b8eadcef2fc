-- The field that a path leads to in a message of a table (this project's own rule language).
use Rattle.std.specs.Prelude.{ℕ, ◌^◌, nat_lt, Bool, true, false, if◌then◌else◌, List, [], ◌∷◌, Option, Some, None, option_map, option_and_then}
use Rattle.mrpc_table.specs.Normal.{fields_of, field_at}
use Rattle.mrpc_table.specs.declared.words.Decimal.{Decimal}
use Rattle.mrpc_table.specs.declared.words.Decimal.TheVariants.{Small, Large}
use Rattle.mrpc_table.specs.declared.table.Table.{Table}
use Rattle.mrpc_table.specs.declared.table.Field.{Field}
use Rattle.mrpc_table.specs.declared.table.Kind.{Kind}
use Rattle.mrpc_table.specs.declared.table.Kind.TheVariants.{Message}
use Rattle.mrpc_table.specs.declared.table.Label.{Label}
use Rattle.mrpc_table.specs.declared.table.Label.TheVariants.{Plain, Member}
use Rattle.mrpc_table.specs.declared.path.Path.{Path}
use Rattle.mrpc_table.specs.declared.path.PathWord.{PathWord}

-- the field with a number in a message; no field number has more than 32 bits
abbrev pub field_numbered : Table → ℕ → Decimal → Option Field
field_numbered T msg (Small n) = if nat_lt n (2 ^ 32) then field_at (fields_of T msg) n else None
field_numbered T msg Large = None

-- the message of a field along the path
abbrev pub message_of_kind : Kind → Option ℕ
message_of_kind (Message i) = Some i
message_of_kind _ = None

-- the label of a field along the path: it has at most one message, and no field with a message is optional
abbrev pub has_one_message : Label → Bool
has_one_message Plain = true
has_one_message (Member o) = true
has_one_message _ = false

abbrev pub step_of : Field → Option (ℕ × ℕ)
step_of f = if has_one_message f.label then option_map (λ i. (f.number, i)) (message_of_kind f.kind) else None

abbrev pub step_in : Table → ℕ → Decimal → Option (ℕ × ℕ)
step_in T msg n = option_and_then step_of (field_numbered T msg n)

-- the numbers along a path, and the message at its end
abbrev pub way_in : Table → ℕ → List Decimal → Option (List ℕ × ℕ)
way_in T msg [] = Some ([], msg)
way_in T msg (n ∷ ns) = option_and_then (λ s. option_map (λ w. (s.0 ∷ w.0, w.1)) (way_in T s.1 ns)) (step_in T msg n)

-- the path that a line spells, in a message
abbrev pub path_of_field : List ℕ → Field → Path
path_of_field way f = record { way = way; number = f.number; kind = f.kind; label = f.label }

abbrev pub path_in : Table → ℕ → PathWord → Option Path
path_in T msg p = option_and_then (λ w. option_map (path_of_field w.0) (field_numbered T w.1 p.last)) (way_in T msg p.way)
