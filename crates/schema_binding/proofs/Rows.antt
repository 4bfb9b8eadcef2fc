-- Agreement and differences of small tables, as terms. One table is a message M with a field a, and the method Get of
-- the service S on it. In another the field is named b, and a third has both fields.
use Rattle.std.proofs.Common.{◌≡◌, ◌≢◌, ℕ, zero, suc, false, List, [], ◌∷◌, codes, get_or, Some, inr, refl, sym, ap, subst, ◌∙◌, arith}
use Rattle.std.specs.Prelude.{Contains, IsTrue}
use Rattle.std.specs.Fmt.{digits}
use Rattle.std.proofs.lemmas.Option.{same_Some}
use Rattle.mrpc_table.specs.Text.{table_text}
use Rattle.mrpc_table.specs.declared.table.Kind.TheVariants.{Uint64}
use Rattle.mrpc_table.specs.declared.table.Label.TheVariants.{Plain}
use Rattle.mrpc_table.specs.declared.table.Field.{Field}
use Rattle.mrpc_table.specs.declared.table.Message.{Message}
use Rattle.mrpc_table.specs.declared.table.Table.{Table}
use Rattle.schema_binding.specs.Agreement.{Signature, methods_of, HasMethodOf, FieldText, field_text, IsPrintedAs, message_kind_text}
use Rattle.schema_binding.specs.Agreement.{IsReachedByBoth, as_input, as_output, through, IsDifference, IsFirstDifference, AreFirstDifferentAt}
use Rattle.schema_binding.specs.Agreement.{AreInAgreement, by_fields, IsDisagreement, no_service, other_text, other_field}
use Rattle.schema_binding.specs.declared.fault.AgreeFault.TheVariants.{NoService, Mismatch, Field as FieldFault}

abbrev field_named : ℕ → List ℕ → Field
field_named number name = record { number = number; name = name; kind = Uint64; label = Plain }

abbrev message_of : List Field → Message
message_of fields = record { name = codes "M"; fields = fields; oneofs = [] }

abbrev of_fields : List Field → Table
of_fields fields = record {
  messages = message_of fields ∷ [];
  enums = [];
  methods = record { service = codes "S"; name = codes "Get"; input = 0; output = 0 } ∷ [];
}

abbrev a_only : List Field
a_only = field_named 1 (codes "a") ∷ []

abbrev b_only : List Field
b_only = field_named 1 (codes "b") ∷ []

abbrev a_and_b : List Field
a_and_b = field_named 1 (codes "a") ∷ field_named 2 (codes "b") ∷ []

abbrev get : Signature
get = record { index = 0; name = codes "Get"; input = codes "M"; output = codes "M" }

-- ---- the service

offers_S : (fields : List Field) → HasMethodOf (of_fields fields) (codes "S")
offers_S fields = (0, omega arith, refl)

offers_no_T : (fields : List Field) → HasMethodOf (of_fields fields) (codes "T") → ⊥
offers_no_T fields (zero, within, same) = let apart : 83 ≡ 84 = ap (λ (w : List ℕ). get_or w 0 0) same in omega (arith, apart)
offers_no_T fields (suc k, within, same) = absurd (omega (arith, within))

methods_of_S : (fields : List Field) → methods_of (of_fields fields) (codes "S") ≡ get ∷ []
methods_of_S fields = refl

no_methods_of_T : (fields : List Field) → methods_of (of_fields fields) (codes "T") ≡ []
no_methods_of_T fields = refl

-- of T neither table has a method
refuses_T : IsDisagreement (of_fields a_only) (of_fields a_only) (codes "T") 2 (NoService false false)
refuses_T =
    let not_true : IsTrue false → HasMethodOf (of_fields a_only) (codes "T") = λ e. absurd cc in
    let never : HasMethodOf (of_fields a_only) (codes "T") → IsTrue false = λ h. absurd (offers_no_T a_only h) in
    no_service false false (not_true, never) (not_true, never) (λ h k. absurd cc) refl

-- ---- the texts

-- they differ first in the name of the field
other_name : AreFirstDifferentAt (table_text (of_fields a_only)) (table_text (of_fields b_only)) 31 (Some 97) (Some 98)
unfolding digits
other_name = record { same = refl; ours = refl; theirs = refl; other = λ e. let apart : 97 ≡ 98 = same_Some 97 98 e in omega (arith, apart) }

refuses_b : IsDisagreement (of_fields a_only) (of_fields b_only) (codes "S") 1 (Mismatch 31 (Some 97) (Some 98))
refuses_b = other_text 31 (Some 97) (Some 98) refl (offers_S a_only) (offers_S b_only) other_name refl

-- if one table has a further field, they first differ in `m` of `method` against `f` of `field`
further_field : AreFirstDifferentAt (table_text (of_fields a_only)) (table_text (of_fields a_and_b)) 33 (Some 109) (Some 102)
unfolding digits
further_field = record { same = refl; ours = refl; theirs = refl; other = λ e. let apart : 109 ≡ 102 = same_Some 109 102 e in omega (arith, apart) }

refuses_further : IsDisagreement (of_fields a_only) (of_fields a_and_b) (codes "S") 1 (Mismatch 33 (Some 109) (Some 102))
refuses_further = other_text 33 (Some 109) (Some 102) refl (offers_S a_only) (offers_S a_and_b) further_field refl

-- ---- what both reach is M

one_get : (s : Signature) → Contains (get ∷ []) s → get ≡ s
one_get s (zero, within, same) = same
one_get s (suc k, within, same) = absurd (omega (arith, within))

-- the fields that the message M has
one_message : (fields : List Field) (m : Message) → Contains (message_of fields ∷ []) m → message_of fields ≡ m
one_message fields m (zero, within, same) = same
one_message fields m (suc k, within, same) = absurd (omega (arith, within))

-- the print of the only field of M
abbrev a_text : FieldText
a_text = record { label = codes "plain"; kind = codes "uint64"; name = codes "a" }

abbrev b_text : FieldText
b_text = record { label = codes "plain"; kind = codes "uint64"; name = codes "b" }

one_field : (name : List ℕ) (f : Field) → Contains (field_named 1 name ∷ []) f → field_named 1 name ≡ f
one_field name f (zero, within, same) = same
one_field name f (suc k, within, same) = absurd (omega (arith, within))

only_field : (name type : List ℕ) (number : ℕ) (text : FieldText) → IsPrintedAs (of_fields (field_named 1 name ∷ [])) type number text
    → (number ≡ 1) × (text ≡ record { label = codes "plain"; kind = codes "uint64"; name = name })
only_field name type number text p =
    let m : message_of (field_named 1 name ∷ []) ≡ p.message = one_message (field_named 1 name ∷ []) p.message p.known in
    let has : Contains (field_named 1 name ∷ []) p.field = subst (λ (n : Message). Contains n.fields p.field) (sym m) p.has in
    let f : field_named 1 name ≡ p.field = one_field name p.field has in (
      sym p.numbered ∙ sym (ap (λ (g : Field). g.number) f),
      sym p.printed ∙ sym (λ i. field_text (of_fields (field_named 1 name ∷ [])) (m i) (f i)),
    )

both_reach_M : (fields : List Field) → IsReachedByBoth (of_fields a_only) (of_fields fields) (codes "S") (codes "M")
both_reach_M fields = as_input get (0, omega arith, refl) (0, omega arith, refl)

only_M : (fields : List Field) (type : List ℕ) → IsReachedByBoth (of_fields a_only) (of_fields fields) (codes "S") type → codes "M" ≡ type
only_M fields type (as_input s ours theirs) = ap (λ (g : Signature). g.input) (one_get s ours)
only_M fields type (as_output s ours theirs) = ap (λ (g : Signature). g.output) (one_get s ours)
only_M fields type (through outer inner number ours theirs reached prints other our_kind their_kind) =
    let text = only_field (codes "a") outer number ours prints in
    let apart : codes "uint64" ≡ message_kind_text type = sym (ap (λ (t : FieldText). t.kind) text.1) ∙ our_kind in
    let first : 117 ≡ 109 = ap (λ (w : List ℕ). get_or w 0 0) apart in
    absurd (omega (arith, first))

-- ---- a field of another name

a_prints : IsPrintedAs (of_fields a_only) (codes "M") 1 a_text
a_prints = record {
  message = message_of a_only;
  field = field_named 1 (codes "a");
  known = (0, omega arith, refl);
  named = refl;
  has = (0, omega arith, refl);
  numbered = refl;
  printed = refl;
}

b_prints : IsPrintedAs (of_fields b_only) (codes "M") 1 b_text
b_prints = record {
  message = message_of b_only;
  field = field_named 1 (codes "b");
  known = (0, omega arith, refl);
  named = refl;
  has = (0, omega arith, refl);
  numbered = refl;
  printed = refl;
}

a_is_not_b : a_text ≢ b_text
a_is_not_b e = let apart : 97 ≡ 98 = ap (λ (t : FieldText). get_or t.name 0 0) e in omega (arith, apart)

a_differs : IsDifference (of_fields a_only) (of_fields b_only) (codes "S") (codes "M") 1
a_differs = record { reached = both_reach_M b_only; ours = a_text; theirs = b_text; ours_prints = a_prints; theirs_prints = b_prints; other = a_is_not_b }

a_differs_first : IsFirstDifference (of_fields a_only) (of_fields b_only) (codes "S") (codes "M") 1
a_differs_first = record {
  differs = a_differs;
  least = λ type n d. let one : n ≡ 1 = (only_field (codes "a") type n d.ours d.ours_prints).0 in inr (only_M b_only type d.reached, omega arith);
}

refuses_a : IsDisagreement (of_fields a_only) (of_fields b_only) (codes "S") 2 (FieldFault (codes "M") 1)
refuses_a = other_field (codes "M") 1 refl (offers_S a_only) (offers_S b_only) refl a_differs_first refl

-- ---- a field that one side alone knows

-- the print of the first field of M, if it has two
first_text : (type : List ℕ) (text : FieldText) → IsPrintedAs (of_fields a_and_b) type 1 text → text ≡ a_text
first_text type text p =
    let m : message_of a_and_b ≡ p.message = one_message a_and_b p.message p.known in
    let has : Contains a_and_b p.field = subst (λ (n : Message). Contains n.fields p.field) (sym m) p.has in
    let f : field_named 1 (codes "a") ≡ p.field = first_field p.field p.numbered has in
    sym p.printed ∙ sym (λ i. field_text (of_fields a_and_b) (m i) (f i))
  where
    first_field : (f : Field) → f.number ≡ 1 → Contains a_and_b f → field_named 1 (codes "a") ≡ f
    first_field f one (zero, within, same) = same
    first_field f one (suc zero, within, same) = let two : 2 ≡ f.number = ap (λ (g : Field). g.number) same in absurd (omega (arith, two, one))
    first_field f one (suc (suc k), within, same) = absurd (omega (arith, within))

pub agree_a : AreInAgreement (of_fields a_only) (of_fields a_and_b) (codes "S") 2
agree_a = by_fields refl (offers_S a_only) (offers_S a_and_b) refl (λ type number d.
    let ours = only_field (codes "a") type number d.ours d.ours_prints in
    let theirs : d.theirs ≡ a_text = first_text type d.theirs (subst (λ n. IsPrintedAs (of_fields a_and_b) type n d.theirs) ours.0 d.theirs_prints) in
    d.other (ours.1 ∙ sym theirs))
