-- How the results of the parts give that of the whole.
use Rattle.std.proofs.Common.{◌≡◌, ◌≢◌, ℕ, ◌<◌, ◌↔◌, List, length, ltb, ◌⊎◌, inl, inr, refl, arith}
use Rattle.std.specs.Prelude.{IsTrue}
use Rattle.std.proofs.lemmas.Bool.{ltb-true, lt-ltb}
use Rattle.mrpc_table.specs.declared.table.Table.{Table}
use Rattle.schema_binding.specs.Agreement.{AreInAgreement, IsDisagreement, no_service, other_text, other_methods, other_field, HasMethodOf, methods_of}
use Rattle.schema_binding.specs.Disagreement.{HaveDifferentTexts, HaveDifferentMethods, HaveDifferentFields}
use Rattle.schema_binding.specs.declared.fault.AgreeFault.{AgreeFault}
use Rattle.schema_binding.specs.declared.fault.AgreeFault.TheVariants.{NoService, Memory as NoMemory}
use Rattle.schema_binding.proofs.Answering.{never_both, refuse_once}
use Rattle.schema_binding.proofs.Signatures.{offers_some, some_offers}

offers_is : (T : Table) (service : List ℕ) (n : ℕ) → n ≡ length (methods_of T service) → IsTrue (ltb 0 n) ↔ HasMethodOf T service
offers_is T service n count = (
  λ e. some_offers T service (let some : 0 < n = ltb-true 0 n e in omega (arith, count, some)),
  λ o. lt-ltb 0 n (omega (arith, count, offers_some T service o)),
)

pub offers_of : (T : Table) (service : List ℕ) (n : ℕ) → n ≡ length (methods_of T service) → n ≢ 0 → HasMethodOf T service
offers_of T service n count some = some_offers T service (omega (arith, count, some))

pub service_refusal : (T U : Table) (service : List ℕ) (version m n : ℕ) → m ≡ length (methods_of T service) → n ≡ length (methods_of U service) → (0 < m → 0 < n → ⊥)
    → IsDisagreement T U service version (NoService (ltb 0 m) (ltb 0 n))
service_refusal T U service version m n count_m count_n not_both =
    no_service (ltb 0 m) (ltb 0 n) (offers_is T service m count_m) (offers_is U service n count_n) (λ e f. not_both (ltb-true 0 m e) (ltb-true 0 n f)) refl

-- why they don't agree, or `Memory`
abbrev pub MayRefuse : Table → Table → List ℕ → ℕ → AgreeFault → Type 0
MayRefuse T U service version fault = (fault ≡ NoMemory) ⊎ IsDisagreement T U service version fault

pub text_refusal : (T U : Table) (service : List ℕ) (version : ℕ) (fault : AgreeFault) → version ≡ 1 → HasMethodOf T service → HasMethodOf U service
    → (fault ≡ NoMemory) ⊎ HaveDifferentTexts T U fault → MayRefuse T U service version fault
text_refusal T U service version fault one o p (inl memory) = inl memory
text_refusal T U service version fault one o p (inr (byte, ours, theirs, d, is)) = inr (other_text byte ours theirs one o p d is)

pub methods_refusal : (T U : Table) (service : List ℕ) (version : ℕ) (fault : AgreeFault) → version ≡ 2 → HasMethodOf T service → HasMethodOf U service
    → HaveDifferentMethods T U service fault → IsDisagreement T U service version fault
methods_refusal T U service version fault two o p (at, (ours, theirs, d), is) = other_methods at ours theirs two o p d is

pub fields_refusal : (T U : Table) (service : List ℕ) (version : ℕ) (fault : AgreeFault) → version ≡ 2
    → HasMethodOf T service → HasMethodOf U service → methods_of T service ≡ methods_of U service
    → (fault ≡ NoMemory) ⊎ HaveDifferentFields T U service fault → MayRefuse T U service version fault
fields_refusal T U service version fault two o p same (inl memory) = inl memory
fields_refusal T U service version fault two o p same (inr (type, number, d, is)) = inr (other_field type number two o p same d is)

pub no_other_refusal : (T U : Table) (service : List ℕ) (version : ℕ) (fault why : AgreeFault) → MayRefuse T U service version fault → IsDisagreement T U service version why
    → (fault ≡ NoMemory) ⊎ (fault ≡ why)
no_other_refusal T U service version fault why (inl memory) r = inl memory
no_other_refusal T U service version fault why (inr h) r = inr (refuse_once T U service version fault why h r)

pub memory_alone : (T U : Table) (service : List ℕ) (version : ℕ) (fault : AgreeFault) → MayRefuse T U service version fault → AreInAgreement T U service version → fault ≡ NoMemory
memory_alone T U service version fault (inl memory) a = memory
memory_alone T U service version fault (inr h) a = absurd (never_both T U service version fault a h)

pub second : (version : ℕ) → (version ≡ 1) ⊎ (version ≡ 2) → version ≢ 1 → version ≡ 2
second version (inl one) other = absurd (other one)
second version (inr two) other = two
