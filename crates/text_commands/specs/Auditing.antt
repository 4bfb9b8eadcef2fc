-- What `audit` prints for an audit: whether its history is legal, or the first fault of the input.
use Rattle.std.specs.Prelude.{◌≡◌, ℕ, ◌+◌, List, [], ◌∷◌, codes, Option, ◌<◌, ◌^◌}
use Rattle.std.specs.Fmt.{decimal}
use Rattle.std.specs.Io.KnownBytes.{Appends}
use Rattle.mrpc_table.specs.Text.{line}
use Rattle.mrpc_table.specs.declared.table.Table.{Table}
use Rattle.policy_declarations.specs.Declarations.{Declared}
use Rattle.script_grammar.specs.Reasons.{reason_word}
use Rattle.script_grammar.specs.declared.fault.ScriptReason.{ScriptReason}
use Rattle.audit_check.specs.Inputs.{IsAuditInput, IsAuditInputFault}
use Rattle.audit_rules.specs.declared.rule.Rule.{Rule}
use Rattle.audit_rules.specs.declared.rule.Rule.TheVariants.{A, B, C, D, E, F, G, Stands}
use Rattle.audit_check.specs.Checking.{IsCheckOfText, IsFirstInvalidAuditLine}
use Rattle.audit_check.specs.declared.checked.Checked.{Checked}
use Rattle.audit_check.specs.declared.checked.Checked.TheVariants.{Legal, Illegal}
use Rattle.text_commands.specs.FaultLines.{fault_line}
use Rattle.text_commands.specs.declared.audit.AuditFailure.{AuditFailure}
use Rattle.text_commands.specs.declared.audit.AuditFailure.TheVariants.{At, Memory}

-- the word of a rule
abbrev pub rule_word : Rule → List ℕ
rule_word A = codes "a"
rule_word B = codes "b"
rule_word C = codes "c"
rule_word D = codes "d"
rule_word E = codes "e"
rule_word F = codes "f"
rule_word G = codes "g"
rule_word Stands = codes "stands"

-- what is written for a text that starts after so many lines of the input
abbrev pub answer_line : ℕ → Checked → List ℕ
answer_line before (Legal happenings stands) = line (codes "legal" ∷ decimal happenings ∷ decimal stands ∷ [])
answer_line before (Illegal at rule) = line (codes "illegal" ∷ decimal (before + at) ∷ rule_word rule ∷ [])

-- the input has a table, policies, a limit of loads and the text of an audit, for which this is written
pub record IsAuditAnswer (input answer : List ℕ) : Type 0 where
  pub loads : ℕ
  pub table : Table
  pub declared : Declared
  pub text : List ℕ
  pub before : ℕ
  pub says : IsAuditInput input loads table declared text before
  pub checked : Checked
  pub is_checked : IsCheckOfText table declared loads text checked
  pub answer_is : answer ≡ answer_line before checked

-- The first fault of an input, as the command prints it: its line and a word. It is one of the lines up to
-- `audit`, or the first line after that which is no line of an audit text.
pub data IsAuditFault (input : List ℕ) (at : ℕ) (word : List ℕ) : Type 0 where
  in_preamble : (reason : ScriptReason) → IsAuditInputFault input at reason → word ≡ reason_word reason
      → IsAuditFault input at word
  in_text : (loads : ℕ) (T : Table) (d : Declared) (text : List ℕ) (before bad : ℕ)
      → IsAuditInput input loads T d text before → IsFirstInvalidAuditLine T d text bad → at ≡ before + bad
      → word ≡ codes "Audit" → IsAuditFault input at word

-- the code's own: what a failure means for an input; running out of memory means nothing
abbrev pub IsFailureOf : List ℕ → AuditFailure → Type 0
IsFailureOf input (At at word) = IsAuditFault input at word.now
IsFailureOf input Memory = Unit {0}

-- ---- what the command does

-- an input was checked, and the answer was written
pub record HasAuditedText (input : List ℕ) (out out' : Option (List ℕ)) : Type 0 where
  pub answer : List ℕ
  pub is_answer : IsAuditAnswer input answer
  pub written : Appends out out' answer

-- an input was rejected: its first fault was written
pub record HasRejectedAudit (input : List ℕ) (out out' : Option (List ℕ)) : Type 0 where
  pub at : ℕ
  pub word : List ℕ
  pub fault : IsAuditFault input at word
  pub written : Appends out out' (fault_line at word)

abbrev pub HasAuditFault : List ℕ → Type 0
HasAuditFault input = (at : ℕ) × (word : List ℕ) × IsAuditFault input at word

-- ---- numbers of lines

-- the code's own: after so many lines, the number of the line that an answer names fits 64 bits
abbrev pub HasSmallLineNumber : ℕ → Checked → Type 0
HasSmallLineNumber before (Legal happenings stands) = Unit {0}
HasSmallLineNumber before (Illegal at rule) = before + at < 2 ^ 64
