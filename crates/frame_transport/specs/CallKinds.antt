-- Which frames are those of calls: a request and a reply have a kind each, and a hello is no call.
use Rattle.std.specs.Prelude.{ℕ, ◌==◌, if◌then◌else◌, Option, Some, None}
use Rattle.mrpc_table.specs.declared.call.CallKind.{CallKind}
use Rattle.mrpc_table.specs.declared.call.CallKind.TheVariants.{Request, Reply}
use Rattle.frame_transport.specs.declared.format.TheConstants.{REQUEST, REPLY}

abbrev pub frame_kind_of : CallKind → ℕ
frame_kind_of Request = REQUEST
frame_kind_of Reply = REPLY

abbrev pub call_kind_of_frame : ℕ → Option CallKind
call_kind_of_frame kind = if kind == REQUEST then Some Request else if kind == REPLY then Some Reply else None
