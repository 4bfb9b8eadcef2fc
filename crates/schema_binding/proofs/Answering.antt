-- Two tables agree or differ, never both, and differ for at most one reason.
use Rattle.std.proofs.Common.{◌≡◌, ℕ, zero, suc, ◌+◌, ◌<◌, ◌↔◌, Bool, true, false, List, length, ◌⊎◌, inl, inr, refl, sym, ap, subst, ◌∙◌, arith}
use Rattle.std.specs.Prelude.{IsTrue}
use Rattle.std.proofs.lemmas.Bool.{cases_order, cases_lt, true≢false}
use Rattle.mrpc_table.specs.Text.{message_name, table_text}
use Rattle.mrpc_table.specs.Valid.{IsValid, IsBelow}
use Rattle.mrpc_table.specs.declared.table.Table.{Table}
use Rattle.schema_binding.specs.Agreement.{by_text, by_fields, no_service, other_text, other_methods, other_field}
use Rattle.schema_binding.specs.Agreement.{HasMethodOf, methods_of, IsDifference, IsFirstDifference, IsAgreementExclusive, IsDisagreementUnique}
use Rattle.schema_binding.specs.Agreement.{IsAgreementDecided}
use Rattle.schema_binding.specs.declared.fault.AgreeFault.TheVariants.{NoService, Mismatch, Methods, Field as FieldFault}
use Rattle.schema_binding.proofs.Differences.{one_place, one_left, one_right, equal_never_differ, differ_or_equal}
use Rattle.schema_binding.proofs.Order.{never_below_both, below_is_other, names_rise, message_name_is}

-- ---- never both

both_versions : (version : ℕ) → version ≡ 1 → version ≡ 2 → ⊥
both_versions version one two = omega (arith, one, two)

pub never_both : IsAgreementExclusive
never_both T U service version fault (by_text one o p same) (no_service ours theirs is_o is_p not_both at) = not_both (is_o.1 o) (is_p.1 p)
never_both T U service version fault (by_text one o p same) (other_text byte x y one' o' p' d at) = equal_never_differ (table_text T) (table_text U) byte x y same d
never_both T U service version fault (by_text one o p same) (other_methods place x y two o' p' d at) = both_versions version one two
never_both T U service version fault (by_text one o p same) (other_field type number two o' p' same' d at) = both_versions version one two
never_both T U service version fault (by_fields two o p same none) (no_service ours theirs is_o is_p not_both at) = not_both (is_o.1 o) (is_p.1 p)
never_both T U service version fault (by_fields two o p same none) (other_text byte x y one o' p' d at) = both_versions version one two
never_both T U service version fault (by_fields two o p same none) (other_methods place x y two' o' p' d at) =
    equal_never_differ (methods_of T service) (methods_of U service) place x y same d
never_both T U service version fault (by_fields two o p same none) (other_field type number two' o' p' same' d at) = none type number d.differs

-- ---- at most one reason

one_answer : (P : Type 0) (a b : Bool) → IsTrue a ↔ P → IsTrue b ↔ P → a ≡ b
one_answer P true true h k = refl
one_answer P false false h k = refl
one_answer P true false h k = sym (k.1 (h.0 refl))
one_answer P false true h k = h.1 (k.0 refl)

one_type : (T U : Table) (service type other : List ℕ) (n m : ℕ) → IsFirstDifference T U service type n → IsFirstDifference T U service other m → (type ≡ other) × (n ≡ m)
one_type T U service type other n m d e = elim (d.least other m e.differs) [
  | inl below ↦ elim (e.least type n d.differs) [
    | inl above ↦ absurd (never_below_both type other below above)
    | inr same ↦ absurd (below_is_other type other below (sym same.0))
  ]
  | inr same ↦ elim (e.least type n d.differs) [
    | inl above ↦ absurd (below_is_other other type above (sym same.0))
    | inr same' ↦ (same.0, omega (arith, same.1, same'.1))
  ]
]

pub refuse_once : IsDisagreementUnique
refuse_once T U service version f g (no_service a b is_a is_b not_both at) (no_service c d is_c is_d not_both' at') =
    let ours : a ≡ c = one_answer (HasMethodOf T service) a c is_a is_c in
    let theirs : b ≡ d = one_answer (HasMethodOf U service) b d is_b is_d in
    at ∙ (λ i. NoService (ours i) (theirs i)) ∙ sym at'
refuse_once T U service version f g (no_service a b is_a is_b not_both at) (other_text byte x y one o p d at') = absurd (not_both (is_a.1 o) (is_b.1 p))
refuse_once T U service version f g (no_service a b is_a is_b not_both at) (other_methods place x y two o p d at') = absurd (not_both (is_a.1 o) (is_b.1 p))
refuse_once T U service version f g (no_service a b is_a is_b not_both at) (other_field type number two o p same d at') = absurd (not_both (is_a.1 o) (is_b.1 p))
refuse_once T U service version f g (other_text byte x y one o p d at) (no_service a b is_a is_b not_both at') = absurd (not_both (is_a.1 o) (is_b.1 p))
refuse_once T U service version f g (other_text byte x y one o p d at) (other_text byte' x' y' one' o' p' d' at') =
    let place : byte ≡ byte' = one_place (table_text T) (table_text U) byte byte' x y x' y' d d' in
    let ours : x ≡ x' = one_left (table_text T) (table_text U) byte byte' x y x' y' d d' in
    let theirs : y ≡ y' = one_right (table_text T) (table_text U) byte byte' x y x' y' d d' in
    at ∙ (λ i. Mismatch (place i) (ours i) (theirs i)) ∙ sym at'
refuse_once T U service version f g (other_text byte x y one o p d at) (other_methods place x' y' two o' p' d' at') = absurd (both_versions version one two)
refuse_once T U service version f g (other_text byte x y one o p d at) (other_field type number two o' p' same d' at') = absurd (both_versions version one two)
refuse_once T U service version f g (other_methods place x y two o p d at) (no_service a b is_a is_b not_both at') = absurd (not_both (is_a.1 o) (is_b.1 p))
refuse_once T U service version f g (other_methods place x y two o p d at) (other_text byte x' y' one o' p' d' at') = absurd (both_versions version one two)
refuse_once T U service version f g (other_methods place x y two o p d at) (other_methods place' x' y' two' o' p' d' at') =
    at ∙ ap Methods (one_place (methods_of T service) (methods_of U service) place place' x y x' y' d d') ∙ sym at'
refuse_once T U service version f g (other_methods place x y two o p d at)
    (other_field type number two' o' p' same d' at') =
    absurd (equal_never_differ (methods_of T service) (methods_of U service) place x y same d)
refuse_once T U service version f g (other_field type number two o p same d at) (no_service a b is_a is_b not_both at') = absurd (not_both (is_a.1 o) (is_b.1 p))
refuse_once T U service version f g (other_field type number two o p same d at) (other_text byte x y one o' p' d' at') = absurd (both_versions version one two)
refuse_once T U service version f g (other_field type number two o p same d at)
    (other_methods place x y two' o' p' d' at') =
    absurd (equal_never_differ (methods_of T service) (methods_of U service) place x y same d')
refuse_once T U service version f g (other_field type number two o p same d at) (other_field type' number' two' o' p' same' d' at') =
    let one = one_type T U service type type' number number' d d' in
    at ∙ (λ i. FieldFault (one.0 i) (one.1 i)) ∙ sym at'

-- ---- never neither

-- if no number is the least with a property, none has it
none_without_least : (P : ℕ → Type 0) → ((n : ℕ) → P n → ((m : ℕ) → m < n → P m → ⊥) → ⊥) → (n : ℕ) → P n → ⊥
none_without_least P never n p = below (n + 1) n (omega arith) p
  where
    below : (b n : ℕ) → n < b → P n → ⊥
    below zero n within p = omega (arith, within)
    below (suc b) n within p = never n p (λ m lt q. below b m (omega (arith, lt, within)) q)

-- in our message at this index a number differs
abbrev DiffersAt : Table → Table → List ℕ → ℕ → Type 0
DiffersAt T U service i = (i < length T.messages) × ((n : ℕ) × IsDifference T U service (message_name T i) n)

either_answer : (P : Type 0) → (P ⊎ (P → ⊥) → ⊥) → ⊥
either_answer P never = never (inr (λ p. never (inl p)))

-- the index of the message in which a number differs
place_of_difference : (T U : Table) (service type : List ℕ) (n : ℕ) → IsDifference T U service type n → (i : ℕ) × (i < length T.messages) × (message_name T i ≡ type)
place_of_difference T U service type n d =
    let p = d.ours_prints in
    (p.known.0, p.known.1, message_name_is T p.known.0 p.message p.known.1 ∙ ap (λ m. m.name) p.known.2 ∙ p.named)

first_difference : (T U : Table) (service : List ℕ) → IsValid T → (i n : ℕ) → i < length T.messages → IsDifference T U service (message_name T i) n
    → ((j : ℕ) → j < i → DiffersAt T U service j → ⊥) → ((m : ℕ) → m < n → IsDifference T U service (message_name T i) m
    → ⊥) → IsFirstDifference T U service (message_name T i) n
first_difference T U service valid i n within d none_before none_below = record {
  differs = d;
  least = λ type m e.
      let at = place_of_difference T U service type m e in
      let here : IsDifference T U service (message_name T at.0) m = subst (λ (name : List ℕ). IsDifference T U service name m) (sym at.2) e in
      elim (cases_order i at.0) [
        | inl same ↦ inr (
          ap (message_name T) same ∙ at.2,
          elim (cases_lt m n) [
            | inl below ↦ absurd (none_below m below (subst (λ j. IsDifference T U service (message_name T j) m) (sym same) here))
            | inr above ↦ above
          ],
        )
        | inr other ↦ elim other [
          | inl above ↦ inl (subst (IsBelow (message_name T i)) at.2 (names_rise T valid i at.0 above at.1))
          | inr below ↦ absurd (none_before at.0 below (at.1, (m, here)))
        ]
      ];
}

-- a number differs, or none does: then there is a first one
some_or_none : (T U : Table) (service : List ℕ) → IsValid T
    → ((type : List ℕ) (n : ℕ) → IsFirstDifference T U service type n → ⊥) → (type : List ℕ) (n : ℕ)
    → IsDifference T U service type n → ⊥
some_or_none T U service valid never type n d =
    let at = place_of_difference T U service type n d in
    none_without_least (DiffersAt T U service)
    (λ i h none_before. none_without_least (IsDifference T U service (message_name T i))
    (λ m e none_below. never (message_name T i) m (first_difference T U service valid i m h.0 e none_before none_below))
    h.1.0 h.1.1)
    at.0 (at.1, (n, subst (λ (name : List ℕ). IsDifference T U service name n) (sym at.2) d))

pub agree_or_refuse : IsAgreementDecided
agree_or_refuse T U service version valid_T valid_U which no_agreement no_refusal =
    either_answer (HasMethodOf T service) (λ ours. either_answer (HasMethodOf U service) (λ theirs. offered ours theirs))
  where
    both : HasMethodOf T service → HasMethodOf U service → ⊥
    both o p = elim which [
      | inl one ↦ differ_or_equal (table_text T) (table_text U) (λ same. no_agreement (by_text one o p same))
          (λ at x y d. no_refusal (Mismatch at x y) (other_text at x y one o p d refl))
      | inr two ↦ differ_or_equal (methods_of T service) (methods_of U service)
          (λ same. no_agreement (by_fields two o p same (some_or_none T U service valid_T (λ type n d. no_refusal (FieldFault type n) (other_field type n two o p same d refl)))))
          (λ at x y d. no_refusal (Methods at) (other_methods at x y two o p d refl))
    ]

    refused : (a b : Bool) → IsTrue a ↔ HasMethodOf T service → IsTrue b ↔ HasMethodOf U service → (IsTrue a → IsTrue b → ⊥) → ⊥
    refused a b is_a is_b not_both = no_refusal (NoService a b) (no_service a b is_a is_b not_both refl)

    never : (P : Type 0) → IsTrue false → P
    never P e = absurd (true≢false (sym e))

    offered : HasMethodOf T service ⊎ (HasMethodOf T service → ⊥) → HasMethodOf U service ⊎ (HasMethodOf U service → ⊥) → ⊥
    offered (inl o) (inl p) = both o p
    offered (inl o) (inr q) = refused true false ((λ _. o), (λ _. refl)) (never (HasMethodOf U service), (λ p. absurd (q p))) (λ _ e. never ⊥ e)
    offered (inr q) (inl p) = refused false true (never (HasMethodOf T service), (λ o. absurd (q o))) ((λ _. p), (λ _. refl)) (λ e _. never ⊥ e)
    offered (inr q) (inr r) = refused false false (never (HasMethodOf T service), (λ o. absurd (q o))) (never (HasMethodOf U service), (λ p. absurd (r p))) (λ e _. never ⊥ e)
