-- An input of `audit` has one answer or one fault.
use Rattle.std.proofs.Common.{◌≡◌, ◌∙◌, ℕ, ◌+◌, List, ap, sym, subst, refl, inl, inr}
use Rattle.std.specs.Prelude.{codes}
use Rattle.mrpc_table.specs.Valid.{IsValid}
use Rattle.mrpc_table.specs.declared.table.Table.{Table}
use Rattle.policy_declarations.specs.Declarations.{Declared}
use Rattle.script_grammar.specs.Reasons.{reason_word}
use Rattle.audit_check.specs.Inputs.{IsAuditInput}
use Rattle.audit_check.specs.Checking.{IsCheckOfText, IsFirstInvalidAuditLine}
use Rattle.audit_check.specs.declared.checked.Checked.{Checked}
use Rattle.text_commands.specs.Auditing.{IsAuditAnswer, IsAuditFault, answer_line}
use Rattle.text_commands.specs.Auditing.IsAuditFault.{in_preamble, in_text}
use Rattle.text_commands.specs.Laws.{AuditLaw}

-- ---- of equal inputs

same_check : (T U : Table) (d e : Declared) (m n : ℕ) (x y : List ℕ) (c : Checked) → T ≡ U → d ≡ e → m ≡ n → x ≡ y
    → IsCheckOfText U e n y c → IsCheckOfText T d m x c
same_check T U d e m n x y c t s l r h =
    subst (λ (V : Table). IsCheckOfText V d m x c) (sym t)
    (subst (λ (f : Declared). IsCheckOfText U f m x c) (sym s)
    (subst (λ (k : ℕ). IsCheckOfText U e k x c) (sym l)
    (subst (λ (z : List ℕ). IsCheckOfText U e n z c) (sym r) h)))

same_bad : (T U : Table) (d e : Declared) (x y : List ℕ) (bad : ℕ) → T ≡ U → d ≡ e → x ≡ y
    → IsFirstInvalidAuditLine U e y bad → IsFirstInvalidAuditLine T d x bad
same_bad T U d e x y bad t s r h =
    subst (λ (V : Table). IsFirstInvalidAuditLine V d x bad) (sym t)
    (subst (λ (f : Declared). IsFirstInvalidAuditLine U f x bad) (sym s)
    (subst (λ (z : List ℕ). IsFirstInvalidAuditLine U e z bad) (sym r) h))

valid : AuditLaw → (input : List ℕ) (loads : ℕ) (T : Table) (d : Declared) (x : List ℕ) (k : ℕ)
    → IsAuditInput input loads T d x k → IsValid T
valid law input loads T d x k says = (law.sound input loads T d x k says).0

-- ---- one answer

pub one_answered : AuditLaw → (input one other : List ℕ) → IsAuditAnswer input one → IsAuditAnswer input other → one ≡ other
one_answered law input one other a b =
    let same = law.input_is_unique input a.loads b.loads a.table b.table a.declared b.declared a.text b.text a.before b.before
    a.says b.says in
    let judged = same_check a.table b.table a.declared b.declared a.loads b.loads a.text b.text b.checked same.1 same.2
    same.0 same.3 b.is_checked in
    let checked = law.answer_is_unique a.table a.declared a.loads a.text a.checked b.checked
    (valid law input a.loads a.table a.declared a.text a.before a.says) a.is_checked judged in
    a.answer_is ∙ (ap (λ (k : ℕ). answer_line k a.checked) same.4 ∙ (ap (answer_line b.before) checked ∙ sym b.answer_is))

-- ---- one fault

pub one_audit_fault : AuditLaw → (input word spelled : List ℕ) (line at : ℕ) → IsAuditFault input line word
    → IsAuditFault input at spelled → (line ≡ at) × (word ≡ spelled)
one_audit_fault law input word spelled line at (in_preamble r fault w) (in_preamble q other v) =
    let same = law.fault_is_unique input line at r q fault other in
    (same.0, w ∙ (ap reason_word same.1 ∙ sym v))
one_audit_fault law input word spelled line at (in_preamble r fault w) (in_text loads T d text before bad says first l v) =
    absurd (law.input_or_fault input loads T d text before line r says fault)
one_audit_fault law input word spelled line at (in_text loads T d text before bad says first l w) (in_preamble q other v) =
    absurd (law.input_or_fault input loads T d text before at q says other)
one_audit_fault law input word spelled line at (in_text m T d x k bad says first l w) (in_text n U e y j bad' says' first' l' v) =
    let same = law.input_is_unique input m n T U d e x y k j says says' in
    let there = same_bad T U d e x y bad' same.1 same.2 same.3 first' in
    let lines : bad ≡ bad' = law.invalid_line_is_unique T d x bad bad' (valid law input m T d x k says) first there in
    let front : k ≡ j = same.4 in
    (cc, w ∙ sym v)

-- ---- never both

pub no_audit_fault : AuditLaw → (input answer word : List ℕ) (line : ℕ) → IsAuditAnswer input answer
    → IsAuditFault input line word → ⊥
no_audit_fault law input answer word line a (in_preamble r fault w) =
    law.input_or_fault input a.loads a.table a.declared a.text a.before line r a.says fault
no_audit_fault law input answer word line a (in_text n U e y j bad says first l w) =
    let same = law.input_is_unique input a.loads n a.table U a.declared e a.text y a.before j a.says says in
    law.answer_or_invalid_line a.table a.declared a.loads a.text a.checked bad
    (valid law input a.loads a.table a.declared a.text a.before a.says) a.is_checked
    (same_bad a.table U a.declared e a.text y bad same.1 same.2 same.3 first)

-- ---- never neither

text_neither : AuditLaw → (input : List ℕ) → ((answer : List ℕ) → IsAuditAnswer input answer → ⊥)
    → ((line : ℕ) (word : List ℕ) → IsAuditFault input line word → ⊥) → (loads : ℕ) (T : Table) (d : Declared)
    (x : List ℕ) (k : ℕ) → IsAuditInput input loads T d x k → ⊥
text_neither law input no_answer no_fault loads T d x k says =
    law.never_neither T d loads x (valid law input loads T d x k says)
    (λ checked is. no_answer (answer_line k checked) (record {
      loads = loads;
      table = T;
      declared = d;
      text = x;
      before = k;
      says = says;
      checked = checked;
      is_checked = is;
      answer_is = refl;
    }))
    (λ bad first. no_fault (k + bad) (codes "Audit") (in_text loads T d x k bad says first refl refl))

pub no_audit_neither : AuditLaw → (input : List ℕ) → ((answer : List ℕ) → IsAuditAnswer input answer → ⊥)
    → ((line : ℕ) (word : List ℕ) → IsAuditFault input line word → ⊥) → ⊥
no_audit_neither law input no_answer no_fault =
    elim (law.either input) [
      | inl s ↦ text_neither law input no_answer no_fault s.0 s.1 s.2 s.3 s.4 s.5
      | inr f ↦ no_fault f.0 (reason_word f.1) (in_preamble f.1 f.2 refl)
    ]
