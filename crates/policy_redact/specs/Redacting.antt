-- The tree of a call after a redacting policy (this project's own).
use Rattle.std.specs.Prelude.{ℕ, ◌==◌, Bool, ◌&&◌, List, [], ◌∷◌, ◌++◌}
use Rattle.std.specs.List.{list_any}
use Rattle.std.specs.Str.{bytes_eq}
use Rattle.mrpc_table.specs.Node.{Node}
use Rattle.mrpc_table.specs.declared.table.Table.{Table}
use Rattle.mrpc_table.specs.declared.path.Path.{Path}
use Rattle.mrpc_table.specs.Calls.{IsCallOf}
use Rattle.mrpc_table.specs.Calls.{is_of_call_kind}
use Rattle.mrpc_table.specs.declared.call.Call.{Call}
use Rattle.policy_redact.specs.Without.{without}
use Rattle.policy_redact.specs.declared.redact.Clear.{Clear}

-- the numbers of a path, the field's last
abbrev pub path_numbers : Path → List ℕ
path_numbers path = path.way ++ path.number ∷ []

-- the clear is for the call's method and kind (request or reply)
abbrev pub applies_to : Clear → Call → Bool
applies_to clear call = (call.method == clear.method) && is_of_call_kind clear.sort call.number

-- these are the numbers of its path
abbrev pub is_at : Clear → List ℕ → Bool
is_at clear path = bytes_eq (path_numbers clear.path) path

-- the paths that are listed for a call
abbrev pub is_listed : List Clear → Call → List ℕ → Bool
is_listed clears call path = list_any (λ clear. applies_to clear call && is_at clear path) clears

-- the call's tree after the clears: without the fields at the paths that are listed for the call
abbrev pub cleared : List Clear → Call → Node
cleared clears call = without (is_listed clears call) call.tree

-- the call with that tree
abbrev pub cleared_call : List Clear → Call → Call
cleared_call clears call = record call { tree = cleared clears call }

-- for some table, the call's tree fits its type
abbrev pub IsCallOfSomeTable : Call → Type 0
IsCallOfSomeTable call = (T : Table) × IsCallOf T call
