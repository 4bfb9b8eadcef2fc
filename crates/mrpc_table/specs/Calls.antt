-- Calls: requests and replies of the methods of a table, and their messages.
use Rattle.std.specs.Prelude.{ℕ, ◌<◌, ◌==◌, Bool, not, length, slice_get, option_map, unwrap_or, if◌then◌else◌}
use Rattle.mrpc_table.specs.Normal.{IsNormal}
use Rattle.mrpc_table.specs.declared.call.Call.{Call}
use Rattle.mrpc_table.specs.declared.call.CallKind.{CallKind}
use Rattle.mrpc_table.specs.declared.call.CallKind.TheVariants.{Request, Reply}
use Rattle.mrpc_table.specs.declared.table.Method.{Method}
use Rattle.mrpc_table.specs.declared.table.Table.{Table}

-- a request has the number 0, and a reply has that of the request it answers
abbrev pub call_kind_of : ℕ → CallKind
call_kind_of number = if number == 0 then Request else Reply

abbrev pub is_of_call_kind : CallKind → ℕ → Bool
is_of_call_kind Request number = number == 0
is_of_call_kind Reply number = not (number == 0)

-- the message of a method's requests is its input, and that of its replies its output
abbrev pub message_of_method : CallKind → Method → ℕ
message_of_method Request m = m.input
message_of_method Reply m = m.output

abbrev pub message_of : Table → ℕ → CallKind → ℕ
message_of T method sort = unwrap_or (option_map (message_of_method sort) (slice_get T.methods method)) 0

-- the message that a call of a method carries, by the call's number
abbrev pub message_at : Table → ℕ → ℕ → ℕ
message_at T method number = message_of T method (call_kind_of number)

-- the table has the call's method, and the call's tree is a normal tree of its message
pub record IsCallOf (T : Table) (call : Call) : Type 0 where
  pub method : call.method < length T.methods
  pub tree : IsNormal T (message_at T call.method call.number) call.tree
