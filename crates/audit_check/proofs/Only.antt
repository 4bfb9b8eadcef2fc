-- A result comes if it is the text's.
use Rattle.std.proofs.Common.{◌≡◌, ℕ, ◌⊎◌, List, Result, Ok, Err, IfOk, IfErr, MatchResult, refl, ap, inl, inr}
use Rattle.mrpc_table.specs.declared.table.Table.{Table}
use Rattle.policy_declarations.specs.Declarations.{Declared}
use Rattle.audit_text.specs.declared.reading.AuditFault.{AuditFault}
use Rattle.audit_text.specs.declared.reading.AuditFault.TheVariants.{Bad, Memory}
use Rattle.audit_text.specs.Faults.{IfBad}
use Rattle.audit_check.specs.Checking.{IsCheckOfText, IsFirstInvalidAuditLine}
use Rattle.audit_check.specs.declared.checked.Checked.{Checked}

pub only_checked : (T : Table) (declared : Declared) (limit : ℕ) (text : List ℕ) (r : Result Checked AuditFault) {checked : Checked}
    → IfOk r (IsCheckOfText T declared limit text) → IfErr r (IfBad (IsFirstInvalidAuditLine T declared text))
    → ((k : Checked) → IsCheckOfText T declared limit text k → k ≡ checked) → ((line : ℕ) → IsFirstInvalidAuditLine T declared text line → ⊥)
    → MatchResult r (λ c. c ≡ checked) (λ fault. fault ≡ Memory)
only_checked T declared limit text (Ok k) is bad one none = one k is
only_checked T declared limit text (Err (Bad line)) is bad one none = absurd (none line bad)
only_checked T declared limit text (Err Memory) is bad one none = refl

pub only_bad : (T : Table) (declared : Declared) (limit : ℕ) (text : List ℕ) (r : Result Checked AuditFault)
    → IfOk r (IsCheckOfText T declared limit text) → IfErr r (IfBad (IsFirstInvalidAuditLine T declared text)) → (line : ℕ)
    → ((other : ℕ) → IsFirstInvalidAuditLine T declared text other → other ≡ line) → ((k : Checked) → IsCheckOfText T declared limit text k → ⊥)
    → MatchResult r (λ _. ⊥) (λ fault. (fault ≡ Bad line) ⊎ (fault ≡ Memory))
only_bad T declared limit text (Ok k) is bad line one none = none k is
only_bad T declared limit text (Err (Bad other)) is bad line one none = inl (ap Bad (one other bad))
only_bad T declared limit text (Err Memory) is bad line one none = inr refl
