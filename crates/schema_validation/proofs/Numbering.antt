-- The violations of the numbers of fields and values are those that their checks record.
use Rattle.std.proofs.Common.{◌≡◌, ◌≢◌, ℕ, ◌+◌, ◌^◌, ◌<◌, ◌⊎◌, inl, inr, Bool, true, false, not, ◌||◌, List, []}
use Rattle.std.proofs.Common.{length, refl, sym, ap, ◌∙◌, eqb-true, subst, arith}
use Rattle.std.specs.Prelude.{ℤ, pos, ◌==◌, Some, is_some, slice_get, FitsSigned}
use Rattle.std.specs.Int.{w32}
use Rattle.std.specs.Ordering.{nat_cmp, is_eq}
use Rattle.std.specs.BTreeMap.{BTreeMap}
use Rattle.std.specs.Map.{lookup}
use Rattle.std.proofs.lemmas.Bool.{cases_lt, false≢true}
use Rattle.std.proofs.lemmas.Bool.Decides.{nat_tests}
use Rattle.std.proofs.lemmas.Int.{ints}
use Rattle.std.proofs.lemmas.Option.{same_Some, slice_get_within}
use Rattle.proto_ast.specs.declared.file.Span.{Span}
use Rattle.proto_ast.specs.declared.file.FieldDecl.{FieldDecl}
use Rattle.proto_ast.specs.declared.file.MessageDecl.{MessageDecl}
use Rattle.proto_ast.specs.declared.file.ValueDecl.{ValueDecl}
use Rattle.proto_ast.specs.declared.file.EnumDecl.{EnumDecl}
use Rattle.schema_validation.specs.Types.{signed_value}
use Rattle.schema_validation.specs.Members
use Rattle.schema_validation.specs.Members.{Is, IsFieldNumberOf, IsReserved, IsNumberViolation, IsValueViolation}
use Rattle.schema_validation.specs.Ranges.{IsPositionOf}
use Rattle.schema_validation.specs.Recording.{has_seen, IsWhere}
use Rattle.schema_validation.specs.declared.reason.ResolveReason.{ResolveReason}
use Rattle.schema_validation.specs.declared.reason.ResolveReason.TheVariants.{NumberRange, DuplicateNumber, Reserved, FirstEnum}
use Rattle.schema_validation.proofs.Places.{number_same, place_same}

-- ---- the numbers that were seen

-- the positions of the numbers of the first n fields were seen, and no others
pub record HaveMet (fields : List FieldDecl) (n : ℕ) (met : BTreeMap ℕ (Unit {0})) : Type 0 where
  pub sound : (p : ℕ) → has_seen met p ≡ true
      → (j : ℕ) × (j < n) × ((g : FieldDecl) × (slice_get fields j ≡ Some g) × IsPositionOf p (signed_value g.number))
  pub whole : (j p : ℕ) (g : FieldDecl) → j < n → slice_get fields j ≡ Some g → IsPositionOf p (signed_value g.number)
      → has_seen met p ≡ true

none_at : (met : BTreeMap ℕ (Unit {0})) (p : ℕ) → met.entries ≡ [] → has_seen met p ≡ false
none_at met p e = ap (λ es. is_some (lookup (λ (k : ℕ). is_eq (nat_cmp p k)) es)) e

pub met_none : (fields : List FieldDecl) (met : BTreeMap ℕ (Unit {0})) → met.entries ≡ []
    → HaveMet fields 0 met
met_none fields met none = record {
  sound = λ p e. absurd (false≢true (sym (none_at met p none) ∙ e));
  whole = λ j p g l. absurd (omega arith);
}

now_or_before : (p place : ℕ) (b : Bool) → (p == place || b) ≡ true → (p ≡ place) ⊎ (b ≡ true)
now_or_before p place true e = inr refl
now_or_before p place false e = inl (grind (arith, nat_tests))

met_now : (p place : ℕ) (b : Bool) → p ≡ place → (p == place || b) ≡ true
met_now p place b e = grind (arith, nat_tests)

met_before : (p place : ℕ) (b : Bool) → b ≡ true → (p == place || b) ≡ true
met_before p place b e = grind (arith, nat_tests)

pub met_more : (fields : List FieldDecl) (i place : ℕ) (f : FieldDecl) (old new : BTreeMap ℕ (Unit {0}))
    → slice_get fields i ≡ Some f → IsPositionOf place (signed_value f.number)
    → ((p : ℕ) → has_seen new p ≡ (p == place || has_seen old p)) → HaveMet fields i old → HaveMet fields (i + 1) new
met_more fields i place f old new at is changed known = record {
  sound = λ p e. elim (now_or_before p place (has_seen old p) (sym (changed p) ∙ e)) [
    | inl same ↦ (i, omega arith, (f, at, subst (λ (x : ℕ). IsPositionOf x (signed_value f.number)) (sym same) is))
    | inr before ↦
        let o = known.sound p before in
        let l : o.0 < i = o.1 in
        (o.0, omega arith, o.2)
  ];
  whole = λ j p g l gat gis. elim (cases_lt j i) [
    | inl less ↦ changed p ∙ met_before p place (has_seen old p) (known.whole j p g less gat gis)
    | inr least ↦
        let e : j ≡ i = omega arith in
        let same : g ≡ f = same_Some g f (sym gat ∙ (ap (slice_get fields) e ∙ at)) in
        let one : signed_value g.number ≡ signed_value f.number = ap (λ (x : FieldDecl). signed_value x.number) same in
        changed p ∙ met_now p place (has_seen old p) (place_same p place (signed_value g.number) (signed_value f.number) gis is
        one)
  ];
}

-- ---- fields

abbrev pub NumberParts : FieldDecl → Bool → Bool → ResolveReason → Span → Type 0
NumberParts f is_met is_reserved q s =
    (((IsFieldNumberOf (signed_value f.number) → ⊥) × Is NumberRange f.number.span q s)
    ⊎ IsWhere is_met DuplicateNumber f.number.span q s) ⊎ IsWhere is_reserved Reserved f.number.span q s

module _ (m : MessageDecl) (i place : ℕ) (f : FieldDecl) (met : BTreeMap ℕ (Unit {0})) (is_met is_reserved : Bool)
    (at : slice_get m.fields i ≡ Some f) (is : IsPositionOf place (signed_value f.number)) (known : HaveMet m.fields i met)
    (same : is_met ≡ has_seen met place) where
  pub number_to : (is_reserved ≡ true → IsReserved m.ranges (signed_value f.number))
      → (q : ResolveReason) (s : Span) → NumberParts f is_met is_reserved q s → IsNumberViolation m i q s
  number_to reserved q s (inl (inl p)) = Members.number_out_of_range f at p.0 p.1
  number_to reserved q s (inl (inr p)) =
      let o = known.sound place (sym same ∙ p.0) in
      Members.number_met_before f o.2.0 o.0 at o.1 o.2.1
      (number_same place place (signed_value o.2.0.number) (signed_value f.number) o.2.2 is refl) p.1
  number_to reserved q s (inr p) = Members.number_reserved f at (reserved p.0) p.1

  pub number_from : (IsReserved m.ranges (signed_value f.number) → is_reserved ≡ true)
      → (q : ResolveReason) (s : Span) → IsNumberViolation m i q s → NumberParts f is_met is_reserved q s
  number_from reserved q s (Members.number_out_of_range g gat p here) =
      let one : g ≡ f = same_Some g f (sym gat ∙ at) in
      inl (inl (subst (λ (x : FieldDecl). (IsFieldNumberOf (signed_value x.number) → ⊥) × Is NumberRange x.number.span q s)
      one
      (p, here)))
  number_from reserved q s (Members.number_met_before g h j gat l hat e here) =
      let one : g ≡ f = same_Some g f (sym gat ∙ at) in
      let there : Is DuplicateNumber f.number.span q s =
      subst (λ (x : FieldDecl). Is DuplicateNumber x.number.span q s) one here in
      let number : signed_value f.number ≡ signed_value h.number = sym (e ∙ ap (λ (x : FieldDecl). signed_value x.number) one) in
      inl (inr (same ∙ known.whole j place h l hat (subst (IsPositionOf place) number is), there))
  number_from reserved q s (Members.number_reserved g gat p here) =
      let one : g ≡ f = same_Some g f (sym gat ∙ at) in
      inr (
        reserved (subst (λ (x : FieldDecl). IsReserved m.ranges (signed_value x.number)) one p),
        subst (λ (x : FieldDecl). Is Reserved x.number.span q s) one here,
      )

-- ---- values

-- the position of 0
place_zero : (p : ℕ) (v : ℤ) → IsPositionOf p v → v ≡ pos 0 → p ≡ 2 ^ 64
place_zero p v is z = omega (arith, ints)

zero_place : (p : ℕ) (v : ℤ) → IsPositionOf p v → p ≡ 2 ^ 64 → v ≡ pos 0
zero_place p v is e = omega (arith, ints)

pub zero_to : (p : ℕ) (v : ℤ) → IsPositionOf p v → not (p == 2 ^ 64) ≡ true → v ≢ pos 0
zero_to p v is t z = let e : p ≡ 2 ^ 64 = place_zero p v is z in grind (arith, nat_tests)

unless : (p n : ℕ) (b : Bool) → (p == n) ≡ b → (p ≡ n → ⊥) → not b ≡ true
unless p n true e apart = absurd (apart (eqb-true p n e))
unless p n false e apart = refl

pub zero_from : (p : ℕ) (v : ℤ) → IsPositionOf p v → v ≢ pos 0 → not (p == 2 ^ 64) ≡ true
zero_from p v is apart = unless p (2 ^ 64) (p == 2 ^ 64) refl (λ e. apart (zero_place p v is e))

abbrev pub ValueParts : ValueDecl → Bool → Bool → ResolveReason → Span → Type 0
ValueParts v is_reserved is_first q s =
    (((FitsSigned w32 (signed_value v.number) → ⊥) × Is NumberRange v.number.span q s)
    ⊎ IsWhere is_reserved Reserved v.number.span q s)
    ⊎ ((is_first ≡ true) × (signed_value v.number ≢ pos 0) × Is FirstEnum v.number.span q s)

module _ (e : EnumDecl) (i : ℕ) (v : ValueDecl) (is_reserved is_first : Bool) (at : slice_get e.values i ≡ Some v) where
  pub value_to : (is_reserved ≡ true → IsReserved e.ranges (signed_value v.number)) → (is_first ≡ true → i ≡ 0)
      → (q : ResolveReason) (s : Span) → ValueParts v is_reserved is_first q s → IsValueViolation e i q s
  value_to reserved first q s (inl (inl p)) = Members.value_out_of_range v at p.0 p.1
  value_to reserved first q s (inl (inr p)) = Members.value_reserved v at (reserved p.0) p.1
  value_to reserved first q s (inr p) = Members.first_not_zero v at (first p.0) p.1 p.2

  pub value_from : (IsReserved e.ranges (signed_value v.number) → is_reserved ≡ true) → (i ≡ 0 → is_first ≡ true)
      → (q : ResolveReason) (s : Span) → IsValueViolation e i q s → ValueParts v is_reserved is_first q s
  value_from reserved first q s (Members.value_out_of_range w wat p here) =
      let one : w ≡ v = same_Some w v (sym wat ∙ at) in
      inl (inl (subst (λ (x : ValueDecl). (FitsSigned w32 (signed_value x.number) → ⊥) × Is NumberRange x.number.span q s)
      one
      (p, here)))
  value_from reserved first q s (Members.value_reserved w wat p here) =
      let one : w ≡ v = same_Some w v (sym wat ∙ at) in
      inl (inr (
        reserved (subst (λ (x : ValueDecl). IsReserved e.ranges (signed_value x.number)) one p),
        subst (λ (x : ValueDecl). Is Reserved x.number.span q s) one here,
      ))
  value_from reserved first q s (Members.first_not_zero w wat z p here) =
      let one : w ≡ v = same_Some w v (sym wat ∙ at) in
      inr (subst (λ (x : ValueDecl). (is_first ≡ true) × (signed_value x.number ≢ pos 0) × Is FirstEnum x.number.span q s)
      one
      (first z, p, here))

-- ---- indices within their lists

pub number_within : (m : MessageDecl) (i : ℕ) (q : ResolveReason) (s : Span) → IsNumberViolation m i q s
    → i < length m.fields
number_within m i q s (Members.number_out_of_range f at o is) = slice_get_within m.fields i f at
number_within m i q s (Members.number_met_before f g j at l gat e is) = slice_get_within m.fields i f at
number_within m i q s (Members.number_reserved f at o is) = slice_get_within m.fields i f at

pub value_within : (e : EnumDecl) (i : ℕ) (q : ResolveReason) (s : Span) → IsValueViolation e i q s → i < length e.values
value_within e i q s (Members.value_out_of_range v at o is) = slice_get_within e.values i v at
value_within e i q s (Members.value_reserved v at o is) = slice_get_within e.values i v at
value_within e i q s (Members.first_not_zero v at z o is) = slice_get_within e.values i v at
