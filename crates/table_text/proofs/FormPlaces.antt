-- Where a line is among those before it, and what the open part implies about that.
use Rattle.std.proofs.Common.{◌≡◌, ℕ, ℤ, pos, negsuc, ◌+◌, ◌^◌, ◌<◌, ◌≤◌, ◌||◌, ◌&&◌, not, Bool, true, false, List}
use Rattle.std.proofs.Common.{[], ◌∷◌, ◌++◌, map, Option, Some, refl, ap, sym, subst, ◌∙◌, append_assoc, arith, inl}
use Rattle.std.proofs.Common.{inr, ◌⊎◌}
use Rattle.std.specs.Prelude.{FitsSigned, int_lt}
use Rattle.std.specs.Int.{w32}
use Rattle.std.specs.List.{All, Contains, list_any}
use Rattle.std.specs.Option.{option_map_or}
use Rattle.std.specs.Ordering.{nat_cmp, int_eq, is_lt}
use Rattle.std.specs.Cmp.Lexicographic.{slice_cmp}
use Rattle.std.specs.declared.cmp.Ordering.{Ordering}
use Rattle.std.specs.declared.cmp.Ordering.TheVariants.{Less, Equal, Greater}
use Rattle.std.proofs.lemmas.Bool.Decides.{leb_tells}
use Rattle.std.proofs.lemmas.Int.{ints}
use Rattle.std.proofs.lemmas.List.Elements.{All-contains, All-nil, All-map, Contains-push}
use Rattle.mrpc_table.specs.Valid.{IsBelow, IsValueBelow}
use Rattle.table_text.specs.Faults.{IsPreviousLine, IsEarlierInPart}
use Rattle.table_text.specs.Forms.{TableLineForm, enum, value, message, field, method, continues, is_method_line}
use Rattle.table_text.specs.LineTests.{nothing, is_below, is_below_last, last_of, is_value_below}
use Rattle.table_text.specs.declared.line.EnumNumber.{EnumNumber}
use Rattle.table_text.specs.declared.line.EnumNumber.TheVariants.{Low, Within, High}
use Rattle.table_text.proofs.FormLines.{kept_whole}
use Rattle.table_text.proofs.FormParts.{value_form, Parts, field_form, field_key, InEnum, InMessage, PartIs, around, none, with_last, ended, mapped_in}
use Rattle.table_text.proofs.KeptLemmas.{map_push}
use Rattle.table_text.proofs.OrderLemmas.{last_push, contains_first, contains_later, contains_nothing, contains_cases, less_is, int_equal, int_self}
use Rattle.table_text.proofs.ParseLemmas.{unsome, ltb_tells}
use Rattle.table_text.proofs.TableFacts.{both_left, both_right}

-- ---- tests

pub either_true : (a b : Bool) → (a || b) ≡ true → (a ≡ true) ⊎ ((a ≡ false) × (b ≡ true))
either_true true b e = inl refl
either_true false b e = inr (refl, e)

pub left_true : (a b : Bool) → a ≡ true → (a || b) ≡ true
left_true true b e = refl
left_true false b e = absurd cc

pub right_true : (a b : Bool) → b ≡ true → (a || b) ≡ true
right_true true b e = refl
right_true false b e = e

pub is_not : (b : Bool) → not b ≡ true → b ≡ false
is_not true e = absurd cc
is_not false e = refl

pub not_is : (b : Bool) → b ≡ false → not b ≡ true
not_is true e = absurd cc
not_is false e = refl

lt_less : (o : Ordering) → is_lt o ≡ true → o ≡ Less
lt_less Less e = refl
lt_less Equal e = absurd cc
lt_less Greater e = absurd cc

pub below_said : (n m : List ℕ) → is_below n m ≡ true → IsBelow n m
below_said n m e = lt_less (slice_cmp nat_cmp n m) e

pub said_below : (n m : List ℕ) → IsBelow n m → is_below n m ≡ true
said_below n m h = ap is_lt h

pub falls_at : (n : List ℕ) (ns init : List (List ℕ)) (m : List ℕ) → ns ≡ init ++ m ∷ [] → is_below_last n ns ≡ is_below n m
falls_at n ns init m e = ap (λ (o : Option (List ℕ)). option_map_or (λ (l : List ℕ). is_below n l) o false) (ap last_of e ∙ last_push init m)

pub last_is : {X : Type 0} (xs ys : List X) (x y : X) → xs ++ x ∷ [] ≡ ys ++ y ∷ [] → x ≡ y
last_is xs ys x y e = unsome (sym (last_push xs x) ∙ ap last_of e ∙ last_push ys y)

pub none_last : {X : Type 0} (xs : List X) (x : X) → [] ≡ xs ++ x ∷ [] → ⊥
none_last [] x e = absurd cc
none_last (y ∷ ys) x e = absurd cc

none_above : (xs ys : List TableLineForm) (x : TableLineForm) → [] ≡ xs ++ x ∷ ys → ⊥
none_above [] ys x e = absurd cc
none_above (y ∷ zs) ys x e = absurd cc

pub split_at : {X : Type 0} (xs : List X) (x : X) → Contains xs x → (front : List X) × (rest : List X) × (xs ≡ front ++ x ∷ rest)
split_at [] x c = absurd (contains_nothing x c)
split_at (y ∷ ys) x c = elim (contains_cases y x ys c) [
  | inl same ↦ ([], ys, ap (λ z. z ∷ ys) same)
  | inr later ↦ let r = split_at ys x later in (y ∷ r.0, r.1, ap (λ zs. y ∷ zs) r.2)
]

pub any_in : {X : Type 0} (p : X → Bool) (xs : List X) → list_any p xs ≡ true → (x : X) × Contains xs x × (p x ≡ true)
any_in p [] e = absurd cc
any_in p (x ∷ xs) e = elim (either_true (p x) (list_any p xs) e) [
  | inl here ↦ (x, contains_first x xs, here)
  | inr later ↦ let r = any_in p xs later.1 in (r.0, contains_later x r.0 xs r.1, r.2)
]

pub in_any : {X : Type 0} (p : X → Bool) (xs : List X) (x : X) → Contains xs x → p x ≡ true → list_any p xs ≡ true
in_any p [] x c e = absurd (contains_nothing x c)
in_any p (y ∷ ys) x c e = elim (contains_cases y x ys c) [
  | inl same ↦ left_true (p y) (list_any p ys) (ap p same ∙ e)
  | inr later ↦ right_true (p y) (list_any p ys) (in_any p ys x later e)
]

-- ---- lines of one part

pub values_go : (vs : List (ℤ × List ℕ)) → All (λ g. continues g ≡ true) (map value_form vs)
values_go vs = All-map (λ g. continues g ≡ true) value_form vs (λ k d within. refl)

pub fields_go : (ps : List Parts) → All (λ g. continues g ≡ true) (map field_form ps)
fields_go ps = All-map (λ g. continues g ≡ true) field_form ps (λ k d within. refl)

map_around : {X : Type 0} (h : X → TableLineForm) (xs : List X) (y : X) (ys : List X) → map h (xs ++ y ∷ ys) ≡ map h xs ++ h y ∷ map h ys
map_around h [] y ys = refl
map_around h (x ∷ xs) y ys = ap (λ (zs : List TableLineForm). h x ∷ zs) (map_around h xs y ys)

pub is_last_above : (fs : List TableLineForm) (f : TableLineForm) → IsPreviousLine fs f → IsEarlierInPart fs f
is_last_above fs f h = record { front = h.0; between = []; before_is = h.1; inner = All-nil (λ g. continues g ≡ true) }

-- what is above in an enum is the enum or one of its values
pub data OfEnum (name : List ℕ) (vs : List (ℤ × List ℕ)) (f : TableLineForm) : Type 0 where
  the_enum : enum name ≡ f → OfEnum name vs f
  a_value : (v : ℤ × List ℕ) → Contains vs v → value_form v ≡ f → OfEnum name vs f

pub of_enum : (fs : List TableLineForm) (vs : List (ℤ × List ℕ)) (p : InEnum fs vs) (f : TableLineForm) → IsEarlierInPart fs f → OfEnum p.name vs f
of_enum fs vs p f a = elim (around p.front a.front (enum p.name) f (map value_form vs) a.between (sym p.is ∙ a.before_is) refl a.inner) [
  | inl same ↦ the_enum same
  | inr inside ↦ let r = mapped_in value_form vs f inside in a_value r.0 r.1 r.2
]

pub data OfMessage (name : List ℕ) (ps : List Parts) (f : TableLineForm) : Type 0 where
  the_message : message name ≡ f → OfMessage name ps f
  a_field : (p : Parts) → Contains ps p → field_form p ≡ f → OfMessage name ps f

pub of_message : (fs : List TableLineForm) (ns : List (ℕ × List ℕ)) (p : InMessage fs ns) (f : TableLineForm) → IsEarlierInPart fs f → OfMessage p.name p.parts f
of_message fs ns p f a = elim (around p.front a.front (message p.name) f (map field_form p.parts) a.between (sym p.is ∙ a.before_is) refl a.inner) [
  | inl same ↦ the_message same
  | inr inside ↦ let r = mapped_in field_form p.parts f inside in a_field r.0 r.1 r.2
]

pub ends_method : (f : TableLineForm) → is_method_line f ≡ true → continues f ≡ false
ends_method (enum n) e = absurd cc
ends_method (value z n) e = absurd cc
ends_method (message n) e = absurd cc
ends_method (field n l k m) e = absurd cc
ends_method (method i s n x y) e = refl

-- if nothing is open, a method is above, or nothing
pub of_nothing : (fs : List TableLineForm) → PartIs fs nothing → (f : TableLineForm) → IsEarlierInPart fs f → is_method_line f ≡ true
of_nothing fs (inl empty) f a = absurd (none_above a.front a.between f (sym empty ∙ a.before_is))
of_nothing fs (inr p) f a = elim (around p.front a.front p.last f [] a.between (sym p.is ∙ a.before_is) (ends_method p.last p.a_method) a.inner) [
  | inl same ↦ subst (λ g. is_method_line g ≡ true) same p.a_method
  | inr inside ↦ absurd (contains_nothing f inside)
]

pub value_above : (fs : List TableLineForm) (vs : List (ℤ × List ℕ)) (p : InEnum fs vs) (v : ℤ × List ℕ) → Contains vs v → IsEarlierInPart fs (value_form v)
value_above fs vs p v c =
    let parts = split_at vs v c in
    record {
      front = p.front ++ enum p.name ∷ map value_form parts.0;
      between = map value_form parts.1;
      before_is = p.is ∙ ap (λ (xs : List TableLineForm). p.front ++ enum p.name ∷ xs) (ap (map value_form) parts.2 ∙ map_around value_form parts.0 v parts.1)
          ∙ sym (append_assoc p.front (enum p.name ∷ map value_form parts.0) (value_form v ∷ map value_form parts.1));
      inner = values_go parts.1;
    }

pub field_above : (fs : List TableLineForm) (ns : List (ℕ × List ℕ)) (p : InMessage fs ns) (q : Parts) → Contains p.parts q → IsEarlierInPart fs (field_form q)
field_above fs ns p q c =
    let parts = split_at p.parts q c in
    record {
      front = p.front ++ message p.name ∷ map field_form parts.0;
      between = map field_form parts.1;
      before_is = p.is ∙ ap (λ (xs : List TableLineForm). p.front ++ message p.name ∷ xs) (ap (map field_form) parts.2 ∙ map_around field_form parts.0 q parts.1)
          ∙ sym (append_assoc p.front (message p.name ∷ map field_form parts.0) (field_form q ∷ map field_form parts.1));
      inner = fields_go parts.1;
    }

-- the last line of an enum, or of a message
pub data EnumEnds (fs : List TableLineForm) (name : List ℕ) (vs : List (ℤ × List ℕ)) : Type 0 where
  at_enum : vs ≡ [] → IsPreviousLine fs (enum name) → EnumEnds fs name vs
  at_value : (v : ℤ × List ℕ) → last_of vs ≡ Some v → Contains vs v → IsPreviousLine fs (value_form v) → EnumEnds fs name vs

pub enum_ends : (fs : List TableLineForm) (vs : List (ℤ × List ℕ)) (p : InEnum fs vs) → EnumEnds fs p.name vs
enum_ends fs vs p = elim (ended vs) [
  | none e ↦ at_enum e (p.front, p.is ∙ ap (λ (xs : List (ℤ × List ℕ)). p.front ++ enum p.name ∷ map value_form xs) e)
  | with_last init v e ↦
      at_value v (ap last_of e ∙ last_push init v) (subst (λ (xs : List (ℤ × List ℕ)). Contains xs v) (sym e) (Contains-push init v)) (
        p.front ++ enum p.name ∷ map value_form init,
        p.is ∙ ap (λ (xs : List TableLineForm). p.front ++ enum p.name ∷ xs)
            (ap (map value_form) e ∙ map_push value_form init v)
            ∙ sym (append_assoc p.front (enum p.name ∷ map value_form init) (value_form v ∷ [])),
      )
]

pub data MessageEnds (fs : List TableLineForm) (name : List ℕ) (ps : List Parts) (ns : List (ℕ × List ℕ)) : Type 0 where
  at_message : ps ≡ [] → IsPreviousLine fs (message name) → MessageEnds fs name ps ns
  at_field : (q : Parts) → last_of ns ≡ Some (field_key q) → q.number < 2 ^ 32 → IsPreviousLine fs (field_form q) → MessageEnds fs name ps ns

pub message_ends : (fs : List TableLineForm) (ns : List (ℕ × List ℕ)) (p : InMessage fs ns) → MessageEnds fs p.name p.parts ns
message_ends fs ns p = elim (ended p.parts) [
  | none e ↦ at_message e (p.front, p.is ∙ ap (λ (xs : List Parts). p.front ++ message p.name ∷ map field_form xs) e)
  | with_last init q e ↦
      let keys : ns ≡ map field_key init ++ field_key q ∷ [] = sym p.keys ∙ ap (map field_key) e ∙ map_push field_key init q in
      let inside : Contains ns (field_key q) = subst (λ (xs : List (ℕ × List ℕ)). Contains xs (field_key q)) (sym keys) (Contains-push (map field_key init) (field_key q)) in
      at_field q (ap last_of keys ∙ last_push (map field_key init) (field_key q)) (All-contains (λ (n : ℕ × List ℕ). n.0 < 2 ^ 32) ns (field_key q) p.small inside) (
        p.front ++ message p.name ∷ map field_form init,
        p.is ∙ ap (λ (xs : List TableLineForm). p.front ++ message p.name ∷ xs)
            (ap (map field_form) e ∙ map_push field_form init q)
            ∙ sym (append_assoc p.front (message p.name ∷ map field_form init) (field_form q ∷ [])),
      )
]

pub same_last : (fs : List TableLineForm) (f g : TableLineForm) → IsPreviousLine fs f → IsPreviousLine fs g → f ≡ g
same_last fs f g h k = last_is h.0 k.0 f g (sym h.1 ∙ k.1)

-- ---- numbers of values

pub data Kept (z : ℤ) : Type 0 where
  low : kept_whole z ≡ Low → ((y : ℤ) → FitsSigned w32 y → int_lt z y ≡ true) → Kept z
  within : kept_whole z ≡ Within z → Kept z
  high : kept_whole z ≡ High → ((y : ℤ) → FitsSigned w32 y → (int_lt z y ≡ false) × (z ≡ y → ⊥)) → Kept z

above_all : (n : ℕ) (y : ℤ) → 2 ^ 31 ≤ n → FitsSigned w32 y → (int_lt (pos n) y ≡ false) × (pos n ≡ y → ⊥)
above_all n (pos m) up fits =
    let small : m < 2 ^ 31 = omega (arith, ints, fits) in
    let less : m < n = omega arith in
    (grind (arith, ints), λ same. absurd (omega (arith, ints, same, less)))
above_all n (negsuc m) up fits = (grind (arith, ints), λ same. absurd cc)

below_all : (n : ℕ) (y : ℤ) → 2 ^ 31 < n + 1 → FitsSigned w32 y → int_lt (negsuc n) y ≡ true
below_all n (pos m) down fits = grind (arith, ints)
below_all n (negsuc m) down fits =
    let small : m + 1 ≤ 2 ^ 31 = omega (arith, ints, fits) in
    let less : m < n = omega arith in
    grind (arith, ints)

pub kept_tells : (z : ℤ) → Kept z
kept_tells (pos n) = elim (ltb_tells n (2 ^ 31)) [
  | inl lt ↦ within (rw lt.0 refl)
  | inr ge ↦ high (rw ge.0 refl) (λ y fits. above_all n y ge.1 fits)
]
kept_tells (negsuc n) = elim (leb_tells (n + 1) (2 ^ 31)) [
  | inl le ↦ within (rw le.0 refl)
  | inr gt ↦ low (rw gt.0 refl) (λ y fits. below_all n y gt.1 fits)
]

pub value_below_said : (z : ℤ) (n : List ℕ) (v : ℤ × List ℕ) → FitsSigned w32 v.0 → is_value_below (kept_whole z) n v ≡ true → IsValueBelow (z, n) v
value_below_said z n v fits e = elim (kept_tells z) [
  | low is less ↦ let lt = less v.0 fits in inl (rw lt refl)
  | within is ↦
      let given : is_value_below (Within z) n v ≡ true = ap (λ (w : EnumNumber). is_value_below w n v) (sym is) ∙ e in
      elim (either_true (int_lt z v.0) (int_eq z v.0 && is_below n v.1) given) [
        | inl lt ↦ inl (rw lt refl)
        | inr same ↦ inr (int_equal z v.0 (both_left (int_eq z v.0) (is_below n v.1) same.1), below_said n v.1 (both_right (int_eq z v.0) (is_below n v.1) same.1))
      ]
  | high is more ↦ let given : is_value_below High n v ≡ true = ap (λ (w : EnumNumber). is_value_below w n v) (sym is) ∙ e in absurd cc
]

pub said_value_below : (z : ℤ) (n : List ℕ) (v : ℤ × List ℕ) → FitsSigned w32 v.0 → IsValueBelow (z, n) v → is_value_below (kept_whole z) n v ≡ true
said_value_below z n v fits h = elim (kept_tells z) [
  | low is less ↦ rw is refl
  | within is ↦ rw is (elim h [
    | inl lt ↦ left_true (int_lt z v.0) (int_eq z v.0 && is_below n v.1) (less_is z v.0 lt)
    | inr same ↦
        let equal : int_eq z v.0 ≡ true = ap (int_eq z) (sym same.0) ∙ int_self z in
        let name : is_below n v.1 ≡ true = said_below n v.1 same.1 in
        right_true (int_lt z v.0) (int_eq z v.0 && is_below n v.1) (rw (equal, name) refl)
  ])
  | high is more ↦
      let m = more v.0 fits in
      elim h [
        | inl lt ↦ let yes : int_lt z v.0 ≡ true = less_is z v.0 lt in let no_way : int_lt z v.0 ≡ false = m.0 in absurd cc
        | inr same ↦ absurd (m.1 same.0)
      ]
]
