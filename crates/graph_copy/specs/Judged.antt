-- The code's own: the judgement of a loaded word.
use Rattle.std.specs.Prelude.{◌≡◌, ℕ, List, Option, Some, MatchOption}
use Rattle.mrpc_table.specs.Normal.{field_at}
use Rattle.mrpc_table.specs.declared.table.Field.{Field}
use Rattle.mrpc_table.specs.declared.table.Label.TheVariants.{Member}
use Rattle.mrpc_table.specs.declared.table.Table.{Table}
use Rattle.graph_form.specs.declared.reason.Reason.{Reason}
use Rattle.graph_form.specs.Roles.{WordRole as Use}
use Rattle.graph_form.specs.Placed.{IsValidWord}
use Rattle.graph_form.specs.Malformed.{IsInvalidFirst}

-- the property holds, or the result is this reason
abbrev pub IsReasonUnless : Type 0 → Reason → Option Reason → Type 0
IsReasonUnless P reason found = MatchOption found P (λ r. (r ≡ reason) × (P → ⊥))

-- the word is valid, or invalid with this first reason
abbrev pub IsJudgement : Table → ℕ → Use → ℕ → Option Reason → Type 0
IsJudgement T H role v found = MatchOption found (IsValidWord T H role v) (λ r. IsInvalidFirst T H role v r)

-- the field of the number is a member of the oneof
abbrev pub IsMember : List Field → ℕ → ℕ → Type 0
IsMember fs oneof n = (f : Field) × (field_at fs n ≡ Some f) × (f.label ≡ Member oneof)
