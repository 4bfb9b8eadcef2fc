-- The first line of a text that isn't an event's (this project's own).
use Rattle.std.specs.Prelude.{◌≡◌, ◌≢◌, ℕ, ◌+◌, List, [], ◌++◌, All, length}
use Rattle.mrpc_table.specs.declared.table.Table.{Table}
use Rattle.call_history.specs.Legal.{History}
use Rattle.call_history.specs.declared.happening.ConnectionEvent.{ConnectionEvent}
use Rattle.policy_declarations.specs.Declarations.{Declared}
use Rattle.audit_text.specs.Lines.{audit, audit_line}
use Rattle.audit_text.specs.Writable.{IsWritable}
use Rattle.audit_text.specs.declared.reading.AuditFault.{AuditFault}
use Rattle.audit_text.specs.declared.reading.AuditFault.TheVariants.{Bad, Memory}

-- no line of a writable event is a prefix of the text
abbrev pub HasNoLine : Table → Declared → List ℕ → Type 0
HasNoLine T declared text = (x : ConnectionEvent) (behind : List ℕ) → IsWritable T declared x
    → text ≢ audit_line T x ++ behind

-- the lines before are those of writable events, and the remainder isn't empty and starts with no such line
pub record IsFirstInvalidLine (T : Table) (declared : Declared) (text : List ℕ) (line : ℕ) : Type 0 where
  pub before : History
  pub rest : List ℕ
  pub told : All (IsWritable T declared) before
  pub text_is : text ≡ audit T before ++ rest
  pub number : line ≡ length before + 1
  pub not_empty : rest ≢ []
  pub none_next : HasNoLine T declared rest

abbrev pub IfBad : (ℕ → Type 0) → AuditFault → Type 0
IfBad IsAt (Bad line) = IsAt line
IfBad IsAt Memory = Unit {0}
