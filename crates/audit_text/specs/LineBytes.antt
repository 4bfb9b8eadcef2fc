-- The lines of an audit text (this project's own).
use Rattle.std.specs.Prelude.{ℕ, List}
use Rattle.mrpc_table.specs.declared.table.Table.{Table}
use Rattle.policy_declarations.specs.Declarations.{Declared}
use Rattle.audit_text.specs.Lines.{audit_line, stands_line}
use Rattle.audit_text.specs.Writable.{IsWritablePendingCall, IsWritable}
use Rattle.audit_text.specs.declared.line.AuditLine.{AuditLine}
use Rattle.audit_text.specs.declared.line.AuditLine.TheVariants as lines

-- the bytes of a line, with its line feed
abbrev pub bytes_of_line : Table → AuditLine → List ℕ
bytes_of_line T (lines.Happened x) = audit_line T x
bytes_of_line T (lines.Stands conn seq position name holding) = stands_line conn seq position name holding

-- a line can be written, under a table and declared policies
abbrev pub IsWritableLine : Table → Declared → AuditLine → Type 0
IsWritableLine T declared (lines.Happened x) = IsWritable T declared x
IsWritableLine T declared (lines.Stands conn seq position name holding) = IsWritablePendingCall conn seq position name
    holding
