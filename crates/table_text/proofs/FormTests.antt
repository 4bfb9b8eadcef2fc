-- Each test of a line against the open part, and what it implies about the lines before.
use Rattle.std.proofs.Common.{◌≡◌, ℕ, ℤ, pos, ◌^◌, ◌<◌, ◌≤◌, not, Bool, true, false, List, [], ◌∷◌, ◌++◌, length, map}
use Rattle.std.proofs.Common.{Option, refl, ap, sym, subst, ◌∙◌, append_assoc, length-append, arith, inl, inr, ◌⊎◌}
use Rattle.std.specs.Prelude.{nat_le, FitsSigned}
use Rattle.std.specs.Int.{w32}
use Rattle.std.specs.List.{Contains, filter_map, list_any}
use Rattle.std.specs.Option.{option_map_or}
use Rattle.std.specs.Ordering.{int_eq}
use Rattle.std.proofs.lemmas.Bool.{lt-ltb, le-leb, leb-true, ltb-true, eq-eqb, eqb-true}
use Rattle.std.proofs.lemmas.List.{length-map}
use Rattle.std.proofs.lemmas.List.Elements.{All-contains, filter_map-append}
use Rattle.mrpc_table.specs.Valid.{IsBelow, IsValueBelow}
use Rattle.table_text.specs.Faults.{IsPreviousLine, IsEarlierInPart, AreInner, HasNoValue, HasNoZero}
use Rattle.table_text.specs.Forms.{TableLineForm, enum, value, message, field, method, is_method_line, is_enum_or_value, is_message_or_field}
use Rattle.table_text.specs.LineTests.{OpenNames, nothing, values, fields, is_below, is_below_last, last_of, is_value_below}
use Rattle.table_text.specs.LineTests.{is_value_out_of_order, is_field_below, is_field_out_of_order, is_index, repeats_number}
use Rattle.table_text.specs.LineTests.{is_value_before, is_field_before, lacks_value, lacks_zero, open_count}
use Rattle.table_text.specs.Lines.{in_32_bits}
use Rattle.table_text.specs.declared.line.EnumNumber.{EnumNumber}
use Rattle.table_text.proofs.FormLines.{kept_whole, in_32}
use Rattle.table_text.proofs.FormParts.{value_form, Parts, field_form, field_key, InEnum, InMessage, PartIs, IsOrdered, enum_name, message_name, no_longer, in_map, mapped_in}
use Rattle.table_text.proofs.FormPlaces.{is_not, below_said, said_below, falls_at, none_last, any_in, in_any}
use Rattle.table_text.proofs.FormPlaces.{values_go, fields_go, is_last_above, the_enum, a_value, of_enum, the_message}
use Rattle.table_text.proofs.FormPlaces.{a_field, of_message, ends_method, of_nothing, value_above, field_above}
use Rattle.table_text.proofs.FormPlaces.{at_enum, at_value, enum_ends, at_message, at_field, message_ends, same_last}
use Rattle.table_text.proofs.FormPlaces.{value_below_said, said_value_below}
use Rattle.table_text.proofs.OrderLemmas.{contains_among, among_contains, int_equal}

-- ---- what may be last

-- directly after a line of an enum, the open part is one
pub last_of_enum : (fs : List TableLineForm) (part : OpenNames) → PartIs fs part → (f : TableLineForm) → IsPreviousLine fs f → is_enum_or_value f ≡ true → (vs : List (ℤ × List ℕ)) × (part ≡ values vs)
last_of_enum fs (values vs) p f last is = (vs, refl)
last_of_enum fs (fields ns) p f last is = elim (of_message fs ns p f (is_last_above fs f last)) [
  | the_message same ↦ let other : is_enum_or_value (message p.name) ≡ true = ap is_enum_or_value same ∙ is in absurd cc
  | a_field q c same ↦ let other : is_enum_or_value (field_form q) ≡ true = ap is_enum_or_value same ∙ is in absurd cc
]
last_of_enum fs nothing p f last is = absurd (no_enum f is (of_nothing fs p f (is_last_above fs f last)))
  where
    no_enum : (f : TableLineForm) → is_enum_or_value f ≡ true → is_method_line f ≡ true → ⊥
    no_enum (enum n) e m = absurd cc
    no_enum (value z n) e m = absurd cc
    no_enum (message n) e m = absurd cc
    no_enum (field n l k x) e m = absurd cc
    no_enum (method i s n x y) e m = absurd cc

pub last_of_message : (fs : List TableLineForm) (part : OpenNames) → PartIs fs part → (f : TableLineForm) → IsPreviousLine fs f → is_message_or_field f ≡ true → (ns : List (ℕ × List ℕ)) × (part ≡ fields ns)
last_of_message fs (fields ns) p f last is = (ns, refl)
last_of_message fs (values vs) p f last is = elim (of_enum fs vs p f (is_last_above fs f last)) [
  | the_enum same ↦ let other : is_message_or_field (enum p.name) ≡ true = ap is_message_or_field same ∙ is in absurd cc
  | a_value v c same ↦ let other : is_message_or_field (value_form v) ≡ true = ap is_message_or_field same ∙ is in absurd cc
]
last_of_message fs nothing p f last is = absurd (no_message f is (of_nothing fs p f (is_last_above fs f last)))
  where
    no_message : (f : TableLineForm) → is_message_or_field f ≡ true → is_method_line f ≡ true → ⊥
    no_message (enum n) e m = absurd cc
    no_message (value z n) e m = absurd cc
    no_message (message n) e m = absurd cc
    no_message (field n l k x) e m = absurd cc
    no_message (method i s n x y) e m = absurd cc

-- an enum's last line, if an enum is open
pub enum_last : (fs : List TableLineForm) (vs : List (ℤ × List ℕ)) → InEnum fs vs → (f : TableLineForm) × IsPreviousLine fs f × (is_enum_or_value f ≡ true)
enum_last fs vs p = elim (enum_ends fs vs p) [
  | at_enum e last ↦ (enum p.name, last, refl)
  | at_value v e c last ↦ (value_form v, last, refl)
]

pub message_last : (fs : List TableLineForm) (ns : List (ℕ × List ℕ)) → InMessage fs ns → (f : TableLineForm) × IsPreviousLine fs f × (is_message_or_field f ≡ true)
message_last fs ns p = elim (message_ends fs ns p) [
  | at_message e last ↦ (message p.name, last, refl)
  | at_field q e small last ↦ (field_form q, last, refl)
]

-- ---- an enum without a value

pub lacks_value_said : (fs : List TableLineForm) (part : OpenNames) → PartIs fs part → lacks_value part ≡ true → HasNoValue fs
lacks_value_said fs (values vs) p e = elim (enum_ends fs vs p) [
  | at_enum none last ↦ (p.name, last)
  | at_value v at c last ↦ let none : length vs ≡ 0 = eqb-true (length vs) 0 e in absurd (omega (arith, c.1, none))
]
lacks_value_said fs (fields ns) p e = absurd cc
lacks_value_said fs nothing p e = absurd cc

same_enum : (n m : List ℕ) → enum n ≡ enum m → n ≡ m
same_enum n m e = cc

same_message : (n m : List ℕ) → message n ≡ message m → n ≡ m
same_message n m e = cc

pub said_lacks_value : (fs : List TableLineForm) (part : OpenNames) → PartIs fs part → HasNoValue fs → lacks_value part ≡ true
said_lacks_value fs part p h = go part p (last_of_enum fs part p (enum h.0) h.1 refl)
  where
    go : (part : OpenNames) → PartIs fs part → (vs : List (ℤ × List ℕ)) × (part ≡ values vs) → lacks_value part ≡ true
    go (values vs) p known = elim (enum_ends fs vs p) [
      | at_enum none last ↦ rw none refl
      | at_value v at c last ↦ let same = same_last fs (value_form v) (enum h.0) last h.1 in absurd cc
    ]
    go (fields ns) p known = let same = known.1 in absurd cc
    go nothing p known = let same = known.1 in absurd cc

-- ---- an enum without a value 0

is_zero_value : (v : ℤ × List ℕ) (n : List ℕ) → value_form v ≡ value (pos 0) n → v.0 ≡ pos 0
is_zero_value v n e = cc

pub lacks_zero_said : (fs : List TableLineForm) (part : OpenNames) → PartIs fs part → lacks_zero part ≡ true → HasNoZero fs
lacks_zero_said fs (values vs) p e =
    let last = enum_last fs vs p in
    let none : list_any (λ v. int_eq v.0 (pos 0)) vs ≡ false = is_not (list_any (λ v. int_eq v.0 (pos 0)) vs) e in
    record {
      last = last.0;
      is_last = last.1;
      of_enum = last.2;
      no_zero = λ n above. elim (of_enum fs vs p (value (pos 0) n) above) [
        | the_enum same ↦ absurd cc
        | a_value v c same ↦
            let zero : int_eq v.0 (pos 0) ≡ true = ap (λ (z : ℤ). int_eq z (pos 0)) (is_zero_value v n same) in
            let some = in_any (λ v. int_eq v.0 (pos 0)) vs v c zero in absurd cc
      ];
    }
lacks_zero_said fs (fields ns) p e = absurd cc
lacks_zero_said fs nothing p e = absurd cc

pub said_lacks_zero : (fs : List TableLineForm) (part : OpenNames) → PartIs fs part → HasNoZero fs → lacks_zero part ≡ true
said_lacks_zero fs part p h = go part p (last_of_enum fs part p h.last h.is_last h.of_enum)
  where
    none : (vs : List (ℤ × List ℕ)) → InEnum fs vs → (b : Bool) → list_any (λ v. int_eq v.0 (pos 0)) vs ≡ b → not b ≡ true
    none vs p false e = refl
    none vs p true e =
        let v = any_in (λ (v : ℤ × List ℕ). int_eq v.0 (pos 0)) vs e in
        let zero : v.0.0 ≡ pos 0 = int_equal v.0.0 (pos 0) v.2 in
        absurd (h.no_zero v.0.1 (subst (λ (z : ℤ). IsEarlierInPart fs (value z v.0.1)) zero (value_above fs vs p v.0 v.1)))

    go : (part : OpenNames) → PartIs fs part → (vs : List (ℤ × List ℕ)) × (part ≡ values vs) → lacks_zero part ≡ true
    go (values vs) p known = none vs p (list_any (λ v. int_eq v.0 (pos 0)) vs) refl
    go (fields ns) p known = let same = known.1 in absurd cc
    go nothing p known = let same = known.1 in absurd cc

-- ---- a value out of order

pub data ValueFalls (fs : List TableLineForm) (z : ℤ) (n : List ℕ) : Type 0 where
  outside : ((f : TableLineForm) → IsPreviousLine fs f → is_enum_or_value f ≡ true → ⊥) → ValueFalls fs z n
  below : (v : ℤ × List ℕ) → IsPreviousLine fs (value_form v) → IsValueBelow (z, n) v → ValueFalls fs z n

not_values : (fs : List TableLineForm) (part : OpenNames) → PartIs fs part → ((vs : List (ℤ × List ℕ)) → part ≡ values vs → ⊥)
    → (f : TableLineForm) → IsPreviousLine fs f → is_enum_or_value f ≡ true → ⊥
not_values fs part p other f last is = let known = last_of_enum fs part p f last is in other known.0 known.1

pub value_falls_said : (fs : List TableLineForm) (part : OpenNames) (z : ℤ) (n : List ℕ) → PartIs fs part → is_value_out_of_order part (kept_whole z) n ≡ true → ValueFalls fs z n
value_falls_said fs (values vs) z n p e = elim (enum_ends fs vs p) [
  | at_enum none last ↦
      let given : false ≡ true = ap (λ (xs : List (ℤ × List ℕ)). option_map_or (is_value_below (kept_whole z) n) (last_of xs) false) (sym none) ∙ e in absurd cc
  | at_value v at c last ↦
      let given : is_value_below (kept_whole z) n v ≡ true = ap (λ (o : Option (ℤ × List ℕ)). option_map_or (is_value_below (kept_whole z) n) o false) (sym at) ∙ e in
      below v last (value_below_said z n v (All-contains (λ (v : ℤ × List ℕ). FitsSigned w32 v.0) vs v p.fits c) given)
]
value_falls_said fs (fields ns) z n p e = outside (not_values fs (fields ns) p (λ vs same. absurd cc))
value_falls_said fs nothing z n p e = outside (not_values fs nothing p (λ vs same. absurd cc))

pub outside_falls : (fs : List TableLineForm) (part : OpenNames) (w : EnumNumber) (n : List ℕ) → PartIs fs part
    → ((f : TableLineForm) → IsPreviousLine fs f → is_enum_or_value f ≡ true → ⊥) → is_value_out_of_order part w n ≡ true
outside_falls fs (values vs) w n p no_line = let last = enum_last fs vs p in absurd (no_line last.0 last.1 last.2)
outside_falls fs (fields ns) w n p no_line = refl
outside_falls fs nothing w n p no_line = refl

value_in : TableLineForm → ℤ × List ℕ
value_in (value z n) = (z, n)
value_in _ = (pos 0, [])

same_value : (u v : ℤ × List ℕ) → value_form u ≡ value_form v → u ≡ v
unfolding value_in
same_value u v e = ap value_in e

pub below_falls : (fs : List TableLineForm) (part : OpenNames) (z : ℤ) (n : List ℕ) (v : ℤ × List ℕ) → PartIs fs part
    → IsPreviousLine fs (value_form v) → IsValueBelow (z, n) v → is_value_out_of_order part (kept_whole z) n ≡ true
below_falls fs (values vs) z n v p last is = elim (enum_ends fs vs p) [
  | at_enum none here ↦ let same = same_last fs (enum p.name) (value_form v) here last in absurd cc
  | at_value u at c here ↦
      let same = same_last fs (value_form u) (value_form v) here last in
      let pair : u ≡ v = same_value u v same in
      let fits = All-contains (λ (v : ℤ × List ℕ). FitsSigned w32 v.0) vs u p.fits c in
      let less = said_value_below z n u fits (subst (λ (w : ℤ × List ℕ). IsValueBelow (z, n) w) (sym pair) is) in
      ap (λ (o : Option (ℤ × List ℕ)). option_map_or (is_value_below (kept_whole z) n) o false) at ∙ less
]
below_falls fs (fields ns) z n v p last is = refl
below_falls fs nothing z n v p last is = refl

-- ---- a field out of order

pub data FieldFalls (fs : List TableLineForm) (n : ℕ) : Type 0 where
  outside_message : ((f : TableLineForm) → IsPreviousLine fs f → is_message_or_field f ≡ true → ⊥) → FieldFalls fs n
  below_field : (q : Parts) → IsPreviousLine fs (field_form q) → n < q.number → FieldFalls fs n

not_fields : (fs : List TableLineForm) (part : OpenNames) → PartIs fs part → ((ns : List (ℕ × List ℕ)) → part ≡ fields ns → ⊥)
    → (f : TableLineForm) → IsPreviousLine fs f → is_message_or_field f ≡ true → ⊥
not_fields fs part p other f last is = let known = last_of_message fs part p f last is in other known.0 known.1

below_number : (n m : ℕ) (name : List ℕ) → is_field_below (in_32_bits n) (m, name) ≡ true → n < m
below_number n m name e = elim (in_32 n) [
  | inl small ↦ ltb-true n m (ap (λ (o : Option ℕ). is_field_below o (m, name)) (sym small.0) ∙ e)
  | inr large ↦ let given : false ≡ true = ap (λ (o : Option ℕ). is_field_below o (m, name)) (sym large.0) ∙ e in absurd cc
]

number_below : (n m : ℕ) (name : List ℕ) → m < 2 ^ 32 → n < m → is_field_below (in_32_bits n) (m, name) ≡ true
number_below n m name small less = elim (in_32 n) [
  | inl fits ↦ ap (λ (o : Option ℕ). is_field_below o (m, name)) fits.0 ∙ lt-ltb n m less
  | inr large ↦ absurd (omega (arith, small, less, large.1))
]

pub field_falls_said : (fs : List TableLineForm) (part : OpenNames) (n : ℕ) → PartIs fs part → is_field_out_of_order part (in_32_bits n) ≡ true → FieldFalls fs n
field_falls_said fs (fields ns) n p e = elim (message_ends fs ns p) [
  | at_message none last ↦
      let no_keys : ns ≡ [] = sym p.keys ∙ ap (map field_key) none in
      let given : false ≡ true = ap (λ (xs : List (ℕ × List ℕ)). option_map_or (is_field_below (in_32_bits n)) (last_of xs) false) (sym no_keys) ∙ e in absurd cc
  | at_field q at small last ↦
      let given : is_field_below (in_32_bits n) (field_key q) ≡ true = ap (λ (o : Option (ℕ × List ℕ)). option_map_or (is_field_below (in_32_bits n)) o false) (sym at) ∙ e in
      below_field q last (below_number n q.number q.name given)
]
field_falls_said fs (values vs) n p e = outside_message (not_fields fs (values vs) p (λ ns same. absurd cc))
field_falls_said fs nothing n p e = outside_message (not_fields fs nothing p (λ ns same. absurd cc))

pub outside_field_falls : (fs : List TableLineForm) (part : OpenNames) (o : Option ℕ) → PartIs fs part
    → ((f : TableLineForm) → IsPreviousLine fs f → is_message_or_field f ≡ true → ⊥) → is_field_out_of_order part o ≡ true
outside_field_falls fs (fields ns) o p no_line = let last = message_last fs ns p in absurd (no_line last.0 last.1 last.2)
outside_field_falls fs (values vs) o p no_line = refl
outside_field_falls fs nothing o p no_line = refl

same_number : (q r : Parts) → field_form q ≡ field_form r → q.number ≡ r.number
same_number q r e = cc

pub below_field_falls : (fs : List TableLineForm) (part : OpenNames) (n : ℕ) (r : Parts) → PartIs fs part → IsPreviousLine fs (field_form r) → n < r.number → is_field_out_of_order part (in_32_bits n) ≡ true
below_field_falls fs (fields ns) n r p last less = elim (message_ends fs ns p) [
  | at_message none here ↦ let same = same_last fs (message p.name) (field_form r) here last in absurd cc
  | at_field q at small here ↦
      let same : q.number ≡ r.number = same_number q r (same_last fs (field_form q) (field_form r) here last) in
      ap (λ (o : Option (ℕ × List ℕ)). option_map_or (is_field_below (in_32_bits n)) o false) at ∙ number_below n q.number q.name small (omega (arith, same, less))
]
below_field_falls fs (values vs) n r p last less = refl
below_field_falls fs nothing n r p last less = refl

-- ---- names and numbers that occur twice

pub value_before_said : (fs : List TableLineForm) (part : OpenNames) (n : List ℕ) → PartIs fs part → is_value_before part n ≡ true → (z : ℤ) × IsEarlierInPart fs (value z n)
value_before_said fs (values vs) n p e =
    let v = mapped_in (λ (v : ℤ × List ℕ). v.1) vs n (among_contains n (map (λ v. v.1) vs) e) in
    (v.0.0, subst (λ (m : List ℕ). IsEarlierInPart fs (value v.0.0 m)) v.2 (value_above fs vs p v.0 v.1))
value_before_said fs (fields ns) n p e = absurd cc
value_before_said fs nothing n p e = absurd cc

pub said_value_before : (fs : List TableLineForm) (part : OpenNames) (w : EnumNumber) (z : ℤ) (n : List ℕ) → PartIs fs part
    → IsEarlierInPart fs (value z n) → (is_value_out_of_order part w n ≡ true) ⊎ (is_value_before part n ≡ true)
said_value_before fs (values vs) w z n p above = elim (of_enum fs vs p (value z n) above) [
  | the_enum same ↦ absurd cc
  | a_value v c same ↦
      let name : v.1 ≡ n = cc in
      inr (contains_among n (map (λ v. v.1) vs) (subst (λ (m : List ℕ). Contains (map (λ (v : ℤ × List ℕ). v.1) vs) m) name (in_map (λ (v : ℤ × List ℕ). v.1) vs v c)))
]
said_value_before fs (fields ns) w z n p above = inl refl
said_value_before fs nothing w z n p above = inl refl

pub field_before_said : (fs : List TableLineForm) (part : OpenNames) (n : List ℕ) → PartIs fs part → is_field_before part n ≡ true → (q : Parts) × (q.name ≡ n) × IsEarlierInPart fs (field_form q)
field_before_said fs (fields ns) n p e =
    let key = mapped_in (λ (f : ℕ × List ℕ). f.1) ns n (among_contains n (map (λ f. f.1) ns) e) in
    let q = mapped_in field_key p.parts key.0 (subst (λ (xs : List (ℕ × List ℕ)). Contains xs key.0) (sym p.keys) key.1) in
    (q.0, ap (λ (f : ℕ × List ℕ). f.1) q.2 ∙ key.2, field_above fs ns p q.0 q.1)
field_before_said fs (values vs) n p e = absurd cc
field_before_said fs nothing n p e = absurd cc

same_field_name : (q r : Parts) → field_form q ≡ field_form r → q.name ≡ r.name
same_field_name q r e = cc

pub said_field_before : (fs : List TableLineForm) (part : OpenNames) (o : Option ℕ) (r : Parts) → PartIs fs part
    → IsEarlierInPart fs (field_form r) → (is_field_out_of_order part o ≡ true) ⊎ (is_field_before part r.name ≡ true)
said_field_before fs (fields ns) o r p above = elim (of_message fs ns p (field_form r) above) [
  | the_message same ↦ absurd cc
  | a_field q c same ↦
      let key : Contains ns (field_key q) = subst (λ (xs : List (ℕ × List ℕ)). Contains xs (field_key q)) p.keys (in_map field_key p.parts q c) in
      let name : Contains (map (λ (f : ℕ × List ℕ). f.1) ns) q.name = in_map (λ (f : ℕ × List ℕ). f.1) ns (field_key q) key in
      inr (contains_among r.name (map (λ f. f.1) ns) (subst (λ (m : List ℕ). Contains (map (λ (f : ℕ × List ℕ). f.1) ns) m) (same_field_name q r same) name))
]
said_field_before fs (values vs) o r p above = inl refl
said_field_before fs nothing o r p above = inl refl

pub repeats_said : (fs : List TableLineForm) (part : OpenNames) (n : ℕ) → PartIs fs part → repeats_number part (in_32_bits n) ≡ true → (q : Parts) × (q.number ≡ n) × IsPreviousLine fs (field_form q)
repeats_said fs (fields ns) n p e = elim (message_ends fs ns p) [
  | at_message none last ↦
      let no_keys : ns ≡ [] = sym p.keys ∙ ap (map field_key) none in
      let given : false ≡ true =
      ap (λ (xs : List (ℕ × List ℕ)). option_map_or (λ (l : ℕ × List ℕ). is_index (in_32_bits n) l.0)
      (last_of xs) false) (sym no_keys) ∙ e in absurd cc
  | at_field q at small last ↦
      let given : is_index (in_32_bits n) q.number ≡ true =
      ap (λ (o : Option (ℕ × List ℕ)). option_map_or (λ (l : ℕ × List ℕ). is_index (in_32_bits n) l.0) o false)
      (sym at) ∙ e in
      elim (in_32 n) [
        | inl fits ↦ let same : n ≡ q.number = eqb-true n q.number (ap (λ (o : Option ℕ). is_index o q.number) (sym fits.0) ∙ given) in (q, sym same, last)
        | inr large ↦ let clash : false ≡ true = ap (λ (o : Option ℕ). is_index o q.number) (sym large.0) ∙ given in absurd cc
      ]
]
repeats_said fs (values vs) n p e = absurd cc
repeats_said fs nothing n p e = absurd cc

pub said_repeats : (fs : List TableLineForm) (part : OpenNames) (r : Parts) → PartIs fs part → IsPreviousLine fs (field_form r) → repeats_number part (in_32_bits r.number) ≡ true
said_repeats fs part r p last = go part p (last_of_message fs part p (field_form r) last refl)
  where
    go : (part : OpenNames) → PartIs fs part → (ns : List (ℕ × List ℕ)) × (part ≡ fields ns) → repeats_number part (in_32_bits r.number) ≡ true
    go (fields ns) p known = elim (message_ends fs ns p) [
      | at_message none here ↦ let same = same_last fs (message p.name) (field_form r) here last in absurd cc
      | at_field q at small here ↦
          let same : q.number ≡ r.number = same_number q r (same_last fs (field_form q) (field_form r) here last) in
          elim (in_32 r.number) [
            | inl fits ↦
                ap (λ (o : Option (ℕ × List ℕ)). option_map_or (λ (l : ℕ × List ℕ). is_index (in_32_bits r.number) l.0) o false) at
                ∙ ap (λ (o : Option ℕ). is_index o q.number) fits.0 ∙ eq-eqb r.number q.number (sym same)
            | inr large ↦ absurd (omega (arith, large.1, small, same))
          ]
    ]
    go (values vs) p known = let same = known.1 in absurd cc
    go nothing p known = let same = known.1 in absurd cc

-- ---- how many values or fields there are

pub many_said : (fs : List TableLineForm) (part : OpenNames) (most : ℕ) → 0 < most → PartIs fs part → nat_le most (open_count part) ≡ true → AreInner fs most
many_said fs (values vs) most some p e = record {
  front = p.front ++ enum p.name ∷ [];
  inner = map value_form vs;
  before_is = p.is ∙ sym (append_assoc p.front (enum p.name ∷ []) (map value_form vs));
  each = values_go vs;
  many = omega (arith, leb-true most (length vs) e, length-map vs value_form);
}
many_said fs (fields ns) most some p e = record {
  front = p.front ++ message p.name ∷ [];
  inner = map field_form p.parts;
  before_is = p.is ∙ sym (append_assoc p.front (message p.name ∷ []) (map field_form p.parts));
  each = fields_go p.parts;
  many = omega (arith, leb-true most (length ns) e, length-map p.parts field_form, length-map p.parts field_key, ap length p.keys);
}
many_said fs nothing most some p e = let le : most ≤ 0 = leb-true most 0 e in absurd (omega (arith, some, le))

pub said_many : (fs : List TableLineForm) (part : OpenNames) (most : ℕ) → 0 < most → PartIs fs part → AreInner fs most → nat_le most (open_count part) ≡ true
said_many fs (values vs) most some p a =
    let few = no_longer p.front a.front (enum p.name) (map value_form vs) a.inner (sym p.is ∙ a.before_is) refl a.each in
    le-leb most (length vs) (omega (arith, few, a.many, length-map vs value_form))
said_many fs (fields ns) most some p a =
    let few = no_longer p.front a.front (message p.name) (map field_form p.parts) a.inner (sym p.is ∙ a.before_is) refl a.each in
    le-leb most (length ns) (omega (arith, few, a.many, length-map p.parts field_form, length-map p.parts field_key, ap length p.keys))
said_many fs nothing most some (inl empty) a = absurd (omega (arith, some, a.many, ap length a.before_is, ap length empty, length-append a.front a.inner))
said_many fs nothing most some (inr p) a =
    let few = no_longer p.front a.front p.last [] a.inner (sym p.is ∙ a.before_is) (ends_method p.last p.a_method) a.each in
    absurd (omega (arith, some, few, a.many))

-- ---- names below the last one

no_enums : (vs : List (ℤ × List ℕ)) → filter_map enum_name (map value_form vs) ≡ []
no_enums [] = refl
no_enums (v ∷ vs) = no_enums vs

no_messages : (ps : List Parts) → filter_map message_name (map field_form ps) ≡ []
no_messages [] = refl
no_messages (p ∷ ps) = no_messages ps

enums_end : (fs : List TableLineForm) (vs : List (ℤ × List ℕ)) (p : InEnum fs vs) → filter_map enum_name fs ≡ filter_map enum_name p.front ++ p.name ∷ []
enums_end fs vs p =
    ap (filter_map enum_name) p.is ∙ filter_map-append enum_name p.front (enum p.name ∷ map value_form vs)
    ∙ ap (λ (ns : List (List ℕ)). filter_map enum_name p.front ++ p.name ∷ ns) (no_enums vs)

messages_end : (fs : List TableLineForm) (ns : List (ℕ × List ℕ)) (p : InMessage fs ns) → filter_map message_name fs ≡ filter_map message_name p.front ++ p.name ∷ []
messages_end fs ns p =
    ap (filter_map message_name) p.is ∙ filter_map-append message_name p.front (message p.name ∷ map field_form p.parts)
    ∙ ap (λ (ns : List (List ℕ)). filter_map message_name p.front ++ p.name ∷ ns) (no_messages p.parts)

pub enum_falls_said : (fs : List TableLineForm) (es ms ks : List (List ℕ)) (part : OpenNames) (n : List ℕ)
    → filter_map enum_name fs ≡ es → filter_map message_name fs ≡ ms → IsOrdered part fs ms ks → PartIs fs part
    → ms ≡ [] → ks ≡ [] → is_below_last n es ≡ true → (other : List ℕ) × IsEarlierInPart fs (enum other) × IsBelow n other
enum_falls_said fs es ms ks (values vs) n enums messages ordered p no_ms no_ks e =
    let last : is_below_last n es ≡ is_below n p.name = falls_at n es (filter_map enum_name p.front) p.name (sym enums ∙ enums_end fs vs p) in (
      p.name,
      record { front = p.front; between = map value_form vs; before_is = p.is; inner = values_go vs },
      below_said n p.name (sym last ∙ e),
    )
enum_falls_said fs es ms ks (fields ns) n enums messages ordered p no_ms no_ks e =
    absurd (none_last (filter_map message_name p.front) p.name (sym no_ms ∙ sym messages ∙ messages_end fs ns p))
enum_falls_said fs es ms ks nothing n enums messages ordered p no_ms no_ks e =
    let none : es ≡ [] = sym enums ∙ ap (filter_map enum_name) (ordered no_ks) in
    let given : false ≡ true = ap (is_below_last n) (sym none) ∙ e in absurd cc

pub message_falls_said : (fs : List TableLineForm) (ms ks : List (List ℕ)) (part : OpenNames) (n : List ℕ) → filter_map message_name fs ≡ ms → IsOrdered part fs ms ks → PartIs fs part
    → ks ≡ [] → is_below_last n ms ≡ true → (other : List ℕ) × IsEarlierInPart fs (message other) × IsBelow n other
message_falls_said fs ms ks (fields ns) n messages ordered p no_ks e =
    let last : is_below_last n ms ≡ is_below n p.name = falls_at n ms (filter_map message_name p.front) p.name (sym messages ∙ messages_end fs ns p) in (
      p.name,
      record { front = p.front; between = map field_form p.parts; before_is = p.is; inner = fields_go p.parts },
      below_said n p.name (sym last ∙ e),
    )
message_falls_said fs ms ks (values vs) n messages ordered p no_ks e = let given : false ≡ true = ap (is_below_last n) (sym ordered.0) ∙ e in absurd cc
message_falls_said fs ms ks nothing n messages ordered p no_ks e =
    let none : ms ≡ [] = sym messages ∙ ap (filter_map message_name) (ordered no_ks) in
    let given : false ≡ true = ap (is_below_last n) (sym none) ∙ e in absurd cc

pub said_enum_falls : (fs : List TableLineForm) (es : List (List ℕ)) (part : OpenNames) (n other : List ℕ)
    → filter_map enum_name fs ≡ es → PartIs fs part → IsEarlierInPart fs (enum other) → IsBelow n other → is_below_last n es ≡ true
said_enum_falls fs es (values vs) n other enums p above less = elim (of_enum fs vs p (enum other) above) [
  | the_enum same ↦
      let name : p.name ≡ other = same_enum p.name other same in
      falls_at n es (filter_map enum_name p.front) p.name (sym enums ∙ enums_end fs vs p) ∙ ap (is_below n) name ∙ said_below n other less
  | a_value v c same ↦ absurd cc
]
said_enum_falls fs es (fields ns) n other enums p above less = elim (of_message fs ns p (enum other) above) [ the_message same ↦ absurd cc | a_field q c same ↦ absurd cc ]
said_enum_falls fs es nothing n other enums p above less = let wrong : is_method_line (enum other) ≡ true = of_nothing fs p (enum other) above in absurd cc

pub said_message_falls : (fs : List TableLineForm) (ms : List (List ℕ)) (part : OpenNames) (n other : List ℕ)
    → filter_map message_name fs ≡ ms → PartIs fs part → IsEarlierInPart fs (message other) → IsBelow n other
    → is_below_last n ms ≡ true
said_message_falls fs ms (fields ns) n other messages p above less = elim (of_message fs ns p (message other) above) [
  | the_message same ↦
      let name : p.name ≡ other = same_message p.name other same in
      falls_at n ms (filter_map message_name p.front) p.name (sym messages ∙ messages_end fs ns p) ∙ ap (is_below n) name ∙ said_below n other less
  | a_field q c same ↦ absurd cc
]
said_message_falls fs ms (values vs) n other messages p above less = elim (of_enum fs vs p (message other) above) [ the_enum same ↦ absurd cc | a_value v c same ↦ absurd cc ]
said_message_falls fs ms nothing n other messages p above less = let wrong : is_method_line (message other) ≡ true = of_nothing fs p (message other) above in absurd cc
