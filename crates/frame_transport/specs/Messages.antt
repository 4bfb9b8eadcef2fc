-- The message that the payload of a request or a reply encodes.
use Rattle.std.specs.Prelude.{ℕ, ◌==◌, if◌then◌else◌}
use Rattle.mrpc_table.specs.Calls.{message_of}
use Rattle.mrpc_table.specs.declared.call.CallKind.TheVariants.{Request, Reply}
use Rattle.mrpc_table.specs.declared.table.Table.{Table}
use Rattle.frame_transport.specs.declared.format.Frame.{Frame}
use Rattle.frame_transport.specs.declared.format.TheConstants.{REQUEST}

-- a request has its method's input, a reply has its output
abbrev pub payload_message : Table → Frame → ℕ
payload_message T f = message_of T f.method (if f.kind == REQUEST then Request else Reply)
