-- What an input of `audit` contains, in the form that its check takes.
use Rattle.std.proofs.Common.{◌≡◌, ◌∙◌, sym, subst, ℕ, ◌+◌, ◌<◌, ◌^◌, ◌≤◌, ◌==◌, List, ◌∷◌, ◌++◌, All, length, length-append, ap, refl, arith}
use Rattle.std.specs.Prelude.{codes}
use Rattle.std.proofs.lemmas.List.Elements.{All-weaker}
use Rattle.std.proofs.lemmas.List.Sums.{count_by-le-length}
use Rattle.mrpc_table.specs.declared.table.Table.{Table}
use Rattle.engine_core.specs.Policies.{IsPolicy, KnowsTenantOf}
use Rattle.policy_declarations.specs.Declarations.{Declared, AreValidDeclarations}
use Rattle.policy_declarations.specs.declared.declaration.NamedPolicy.{NamedPolicy}
use Rattle.script_grammar.specs.Reasons.{reason_word}
use Rattle.script_grammar.specs.declared.fault.ScriptReason.{ScriptReason}
use Rattle.audit_check.specs.Inputs.{IsAuditInput, IsAuditInputFault, audit_word}
use Rattle.audit_check.specs.Checking.{IsCheckOfText, IsFirstInvalidAuditLine}
use Rattle.audit_check.specs.declared.checked.Checked.{Checked}
use Rattle.audit_check.specs.declared.checked.Checked.TheVariants.{Legal, Illegal}
use Rattle.text_commands.specs.Auditing.{IsAuditFault, HasSmallLineNumber}
use Rattle.text_commands.specs.Auditing.IsAuditFault.{in_preamble, in_text}
use Rattle.text_commands.specs.Laws.{LineNumberLaw}

pub all_policies : (d : Declared) → AreValidDeclarations d → All (λ (p : NamedPolicy). IsPolicy p.policy) d.policies
all_policies d sound =
    All-weaker (λ (p : NamedPolicy). IsPolicy p.policy × KnowsTenantOf (λ place. place < length d.tenants) p.policy)
    (λ (p : NamedPolicy). IsPolicy p.policy) (λ p both. both.0) d.policies sound.policies

-- the text, and the number of the lines before it, are at most as long as the input
pub parts_short : (input : List ℕ) (loads : ℕ) (T : Table) (d : Declared) (text : List ℕ) (before : ℕ)
    → IsAuditInput input loads T d text before → (length text ≤ length input) × (before ≤ length input)
parts_short input loads T d text before says =
    let whole = ap length says.text_is ∙ length-append says.before (audit_word ++ 10 ∷ text) in
    let back = length-append audit_word (10 ∷ text) in
    let lines = count_by-le-length (λ c. c == 10) says.before in
    (omega (arith, whole, back), omega (arith, whole, back, lines, says.line_is))

pub front_fault : (input : List ℕ) (r : ScriptReason) (line at : ℕ) (word : List ℕ) → IsAuditInputFault input line r → at ≡ line
    → word ≡ reason_word r → IsAuditFault input at word
front_fault input r line at word fault l w = in_preamble r (subst (λ (n : ℕ). IsAuditInputFault input n r) (sym l) fault) w

pub text_fault : (input : List ℕ) (loads : ℕ) (T : Table) (d : Declared) (text : List ℕ) (before bad at : ℕ)
    → IsAuditInput input loads T d text before → IsFirstInvalidAuditLine T d text bad → at ≡ bad
    → IsAuditFault input (before + at) (codes "Audit")
text_fault input loads T d text before bad at says first is =
    in_text loads T d text before bad says first (ap (λ (n : ℕ). before + n) is) refl

-- ---- lines of the whole input

pub line_near : (input : List ℕ) (loads : ℕ) (T : Table) (d : Declared) (text : List ℕ) (before line : ℕ)
    → IsAuditInput input loads T d text before → length input ≤ 16777216 → line ≤ length text + 1 → before + line < 2 ^ 64
line_near input loads T d text before line says short near =
    let parts = parts_short input loads T d text before says in
    omega (arith, parts.0, parts.1, short, near)

pub answer_near : LineNumberLaw → (input : List ℕ) (loads : ℕ) (T : Table) (d : Declared) (text : List ℕ) (before : ℕ)
    (checked : Checked) → IsAuditInput input loads T d text before → length input ≤ 16777216
    → IsCheckOfText T d loads text checked → HasSmallLineNumber before checked
answer_near law input loads T d text before (Legal happenings stands) says short is = tt
answer_near law input loads T d text before (Illegal line rule) says short is =
    line_near input loads T d text before line says short (law.illegal T d loads text line rule is)
