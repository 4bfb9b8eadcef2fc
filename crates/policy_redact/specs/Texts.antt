-- Which lines are the text of a redacting policy (this project's own format).
use Rattle.std.specs.Prelude.{ℕ, ◌<◌, ◌≤◌, nat_lt, if◌then◌else◌, List, length, Option, None, option_map, option_and_then}
use Rattle.mrpc_table.specs.declared.table.Table.{Table}
use Rattle.mrpc_table.specs.PathFields.{path_in}
use Rattle.mrpc_table.specs.declared.path.Path.{Path}
use Rattle.mrpc_table.specs.declared.path.PathWord.{PathWord}
use Rattle.mrpc_table.specs.Calls.{message_of}
use Rattle.mrpc_table.specs.PolicyLines.{index_of, AreParsed}
use Rattle.mrpc_table.specs.declared.call.CallKind.{CallKind}
use Rattle.policy_redact.specs.Lines.{clear_line_of}
use Rattle.policy_redact.specs.declared.limits.TheConstants.{MAX_CLEARS}
use Rattle.policy_redact.specs.declared.line.ClearLine.{ClearLine}
use Rattle.policy_redact.specs.declared.redact.Clear.{Clear}

-- the path in the request message or the reply message of a method; none if the table doesn't have the method
abbrev pub path_in_call : Table → ℕ → CallKind → PathWord → Option Path
path_in_call T method sort p =
    if nat_lt method (length T.methods) then path_in T (message_of T method sort) p else None

-- a method, a kind (request or reply) and a path
abbrev pub clear_of : ℕ → CallKind → Path → Clear
clear_of method sort path = record { method = method; sort = sort; path = path }

-- the clear of a line
abbrev pub clear_in : Table → ClearLine → Option Clear
clear_in T l =
    option_and_then
    (λ method. option_map (clear_of method l.sort) (path_in_call T method l.sort l.path))
    (index_of l.index)

abbrev pub clear_of_line : Table → List ℕ → Option Clear
clear_of_line T line = option_and_then (clear_in T) (clear_line_of line)

-- Lines are the text of a policy: one line for each clear. There is at least one, and at most `MAX_CLEARS`.
pub record IsTextOf (T : Table) (lines : List (List ℕ)) (clears : List Clear) : Type 0 where
  pub each : AreParsed (clear_of_line T) lines clears
  pub some : 0 < length clears
  pub few : length clears ≤ MAX_CLEARS
