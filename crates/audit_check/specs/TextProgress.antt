-- The code's own: progress through a text.
use Rattle.std.specs.Prelude.{◌≡◌, ℕ, ◌+◌, ◌⊎◌, List, [], ◌∷◌, ◌++◌, length}
use Rattle.mrpc_table.specs.declared.table.Table.{Table}
use Rattle.call_history.specs.Legal.{History}
use Rattle.call_history.specs.declared.happening.ConnectionEvent.{ConnectionEvent}
use Rattle.policy_declarations.specs.Declarations.{Declared}
use Rattle.audit_text.specs.declared.reading.AuditFault.{AuditFault}
use Rattle.audit_text.specs.declared.reading.AuditFault.TheVariants.{Bad, Memory}
use Rattle.audit_text.specs.declared.line.AuditLine.{AuditLine}
use Rattle.audit_text.specs.declared.line.AuditLine.TheVariants as lines
use Rattle.audit_rules.specs.CheckerState.{IsReadable}
use Rattle.audit_check.specs.Checking.{StandsLine, IsAuditOf}
use Rattle.audit_check.specs.Stages.{IsStage}
use Rattle.audit_check.specs.declared.progress.TextProgress.{TextProgress}

-- this history and these lines were read so far
pub record IsProgress (T : Table) (limit : ℕ) (h : History) (told : List StandsLine) (p : TextProgress) : Type 0 where
  pub happenings : p.happenings ≡ length h
  pub stands : p.stands ≡ length told
  pub stage : IsStage T limit h told p.stage

abbrev pub IsSomeProgress : Table → TextProgress → Type 0
IsSomeProgress T p = (limit : ℕ) × (h : History) × (told : List StandsLine) × IsProgress T limit h told p

abbrev pub IsReadableLine : Table → AuditLine → Type 0
IsReadableLine T (lines.Happened x) = IsReadable T x.what
IsReadableLine T (lines.Stands conn seq position name holding) = Unit {0}

-- one event more was read, which comes before all lines of pending calls
abbrev pub HasReadEvent : Table → ℕ → History → List StandsLine → ConnectionEvent → TextProgress → Type 0
HasReadEvent T limit h told x p = (told ≡ []) × IsProgress T limit (h ++ x ∷ []) told p

-- one line of a pending call more was read
abbrev pub HasReadPending : Table → ℕ → History → List StandsLine → StandsLine → TextProgress → Type 0
HasReadPending T limit h told pending p = IsProgress T limit h (told ++ pending ∷ []) p

-- one line more was read
abbrev pub IsProgressAfterLine : Table → ℕ → History → List StandsLine → AuditLine → TextProgress → Type 0
IsProgressAfterLine T limit h told (lines.Happened x) p = HasReadEvent T limit h told x p
IsProgressAfterLine T limit h told (lines.Stands conn seq position name holding) p =
    HasReadPending T limit h told
    (record { conn = conn; seq = seq; position = position; name = name; holding = holding }) p

-- an event after a line of a pending call: the fault is at its line
abbrev pub IsLateEvent : History → List StandsLine → AuditFault → Type 0
IsLateEvent h told fault = (told ≡ [] → ⊥) × (fault ≡ Bad (length h + length told + 1))

-- a line wasn't read: an event comes after a line of a pending call, or the reader is out of memory
abbrev pub IsFaultOfLine : History → List StandsLine → AuditLine → AuditFault → Type 0
IsFaultOfLine h told (lines.Happened x) fault = IsLateEvent h told fault ⊎ (fault ≡ Memory)
IsFaultOfLine h told (lines.Stands conn seq position name holding) fault = fault ≡ Memory

-- a text was read up to this remainder
pub record IsRead (T : Table) (declared : Declared) (limit : ℕ) (text rest : List ℕ) (p : TextProgress) : Type 0 where
  pub front : List ℕ
  pub history : History
  pub told : List StandsLine
  pub is_text : text ≡ front ++ rest
  pub tells : IsAuditOf T declared front history told
  pub progress : IsProgress T limit history told p
