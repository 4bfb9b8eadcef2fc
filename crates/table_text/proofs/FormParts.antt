-- The forms of the lines before a line, while none of them is at fault, and what is kept of them.
use Rattle.std.proofs.Common.{◌≡◌, ℕ, ℤ, ◌+◌, ◌^◌, ◌<◌, ◌≤◌, ◌||◌, ◌&&◌, not, Bool, true, false, cond, List, [], ◌∷◌}
use Rattle.std.proofs.Common.{◌++◌, length, map, Option, Some, None, refl, ap, sym, subst, ◌∙◌, append_assoc, arith}
use Rattle.std.proofs.Common.{inl, inr, ◌⊎◌}
use Rattle.std.specs.Prelude.{IsTrue, FitsSigned, option_to_list, nat_le, nat_lt}
use Rattle.std.specs.Int.{w32}
use Rattle.std.specs.List.{All, Contains, filter_map, cons_option, count_by}
use Rattle.std.proofs.lemmas.List.{append-nil}
use Rattle.std.proofs.lemmas.List.Sums.{sum_by-append}
use Rattle.std.proofs.lemmas.List.Elements.{All-push, All-nil, All-contains, Contains-append_right, Contains-push_cases, filter_map-append}
use Rattle.mrpc_table.specs.Names.{is_name_form, is_full_form, is_short, is_short_full}
use Rattle.table_text.specs.Forms.{TableLineForm, enum, value, message, field, method, continues, is_method_line}
use Rattle.table_text.specs.LineTests.{TypeNames, NamesBefore, OpenNames, nothing, values, fields, names_after, names_with_value, names_with_field, lacks_value, is_empty, is_below_last, is_enum_number, has_field_number, clashes}
use Rattle.table_text.specs.Lines.{in_32_bits}
use Rattle.table_text.specs.declared.line.KindWord.{KindWord}
use Rattle.table_text.specs.declared.line.LabelWord.{LabelWord}
use Rattle.table_text.specs.declared.line.EnumNumber.{EnumNumber}
use Rattle.table_text.specs.declared.line.TableLine.TheVariants.{Value}
use Rattle.table_text.proofs.Clean.{IsClean, left_no, right_no, not_no}
use Rattle.table_text.proofs.FormLines.{kept, kept_whole, kept_within, in_32}
use Rattle.table_text.proofs.KeptLemmas.{map_push}
use Rattle.table_text.proofs.OrderLemmas.{contains_first, contains_later, contains_nothing, contains_cases}
use Rattle.table_text.proofs.Soundness.{empty_is, not_le, length_push}

-- ---- lines of an enum and of a message

abbrev pub value_form : ℤ × List ℕ → TableLineForm
value_form v = value v.0 v.1

pub record Parts : Type 0 where
  pub number : ℕ
  pub label : LabelWord
  pub kind : KindWord
  pub name : List ℕ

abbrev pub field_form : Parts → TableLineForm
field_form p = field p.number p.label p.kind p.name

abbrev pub field_key : Parts → ℕ × List ℕ
field_key p = (p.number, p.name)

pub record InEnum (fs : List TableLineForm) (vs : List (ℤ × List ℕ)) : Type 0 where
  pub front : List TableLineForm
  pub name : List ℕ
  pub is : fs ≡ front ++ enum name ∷ map value_form vs
  pub fits : All (λ v. FitsSigned w32 v.0) vs

pub record InMessage (fs : List TableLineForm) (ns : List (ℕ × List ℕ)) : Type 0 where
  pub front : List TableLineForm
  pub name : List ℕ
  pub parts : List Parts
  pub is : fs ≡ front ++ message name ∷ map field_form parts
  pub keys : map field_key parts ≡ ns
  pub small : All (λ n. n.0 < 2 ^ 32) ns

pub record InNothing (fs : List TableLineForm) : Type 0 where
  pub front : List TableLineForm
  pub last : TableLineForm
  pub is : fs ≡ front ++ last ∷ []
  pub a_method : is_method_line last ≡ true

abbrev pub PartIs : List TableLineForm → OpenNames → Type 0
PartIs fs nothing = (fs ≡ []) ⊎ InNothing fs
PartIs fs (values vs) = InEnum fs vs
PartIs fs (fields ns) = InMessage fs ns

abbrev pub IsOrdered : OpenNames → List TableLineForm → List (List ℕ) → List (List ℕ) → Type 0
IsOrdered nothing fs ms ks = ks ≡ [] → fs ≡ []
IsOrdered (values vs) fs ms ks = (ms ≡ []) × (ks ≡ [])
IsOrdered (fields ns) fs ms ks = ks ≡ []

abbrev pub enum_name : TableLineForm → Option (List ℕ)
enum_name (enum name) = Some name
enum_name _ = None

abbrev pub message_name : TableLineForm → Option (List ℕ)
message_name (message name) = Some name
message_name _ = None

abbrev pub method_key_of : TableLineForm → Option (List ℕ)
method_key_of (method i s n x y) = Some (s ++ 32 ∷ n)
method_key_of _ = None

abbrev pub IsFormed : TableLineForm → Type 0
IsFormed (method i s n x y) = IsTrue (is_full_form s) × IsTrue (is_name_form n)
IsFormed _ = Unit {0}

pub record Fits (fs : List TableLineForm) (b : NamesBefore) : Type 0 where
  pub enums : filter_map enum_name fs ≡ b.enums
  pub messages : filter_map message_name fs ≡ b.messages
  pub methods : filter_map method_key_of fs ≡ b.methods
  pub few : length b.methods ≤ 256
  pub part : PartIs fs b.open_part
  pub ordered : IsOrdered b.open_part fs b.messages b.methods
  pub formed : (f : TableLineForm) → Contains fs f → IsFormed f

-- ---- one line more

one : (o : Option (List ℕ)) → cons_option o [] ≡ option_to_list o
one None = refl
one (Some n) = refl

names_push : (h : TableLineForm → Option (List ℕ)) (fs : List TableLineForm) (ns : List (List ℕ)) (f : TableLineForm) → filter_map h fs ≡ ns → filter_map h (fs ++ f ∷ []) ≡ ns ++ option_to_list (h f)
names_push h fs ns f e = filter_map-append h fs (f ∷ []) ∙ ap (λ (xs : List (List ℕ)). filter_map h fs ++ xs)
    (one (h f)) ∙ ap (λ (xs : List (List ℕ)). xs ++ option_to_list (h f)) e

names_stay : (h : TableLineForm → Option (List ℕ)) (fs : List TableLineForm) (ns : List (List ℕ)) (f : TableLineForm) → h f ≡ None → filter_map h fs ≡ ns → filter_map h (fs ++ f ∷ []) ≡ ns
names_stay h fs ns f none e = names_push h fs ns f e ∙ ap (λ (o : Option (List ℕ)). ns ++ option_to_list o) none ∙ append-nil ns

formed_push : (fs : List TableLineForm) (f : TableLineForm) → ((g : TableLineForm) → Contains fs g → IsFormed g) → IsFormed f → (g : TableLineForm) → Contains (fs ++ f ∷ []) g → IsFormed g
formed_push fs f all ok g h = elim (Contains-push_cases fs f g h) [ inl old ↦ all g old | inr same ↦ subst IsFormed same ok ]

value_step : (t : TypeNames) (fs : List TableLineForm) (es ms ks : List (List ℕ)) (part : OpenNames) (bytes : ℕ) (z : ℤ) (n : List ℕ)
    → Fits fs (record { enums = es; messages = ms; methods = ks; open_part = part })
    → IsClean t (record { enums = es; messages = ms; methods = ks; open_part = part }) bytes (Value (kept_whole z) n)
    → Fits (fs ++ value z n ∷ []) (record { enums = es; messages = ms; methods = ks; open_part = names_with_value part (kept_whole z) n })
value_step t fs es ms ks (values vs) bytes z n s h =
    let w = kept_within z (not_no (is_enum_number (kept_whole z)) h.number) in
    let p = s.part in
    let more : fs ++ value z n ∷ [] ≡ p.front ++ enum p.name ∷ map value_form (vs ++ (z, n) ∷ []) =
    ap (λ (xs : List TableLineForm). xs ++ value z n ∷ []) p.is
    ∙ append_assoc p.front (enum p.name ∷ map value_form vs) (value z n ∷ [])
    ∙ ap (λ (xs : List TableLineForm). p.front ++ enum p.name ∷ xs) (sym (map_push value_form vs (z, n))) in
    subst (λ (x : EnumNumber). Fits (fs ++ value z n ∷ []) (record { enums = es; messages = ms; methods = ks; open_part = names_with_value (values vs) x n })) (sym w.0) (record {
      enums = names_stay enum_name fs es (value z n) refl s.enums;
      messages = names_stay message_name fs ms (value z n) refl s.messages;
      methods = names_stay method_key_of fs ks (value z n) refl s.methods;
      few = s.few;
      part = record { front = p.front; name = p.name; is = more; fits = All-push (λ (v : ℤ × List ℕ). FitsSigned w32 v.0) vs (z, n) p.fits w.1 };
      ordered = s.ordered;
      formed = formed_push fs (value z n) s.formed tt;
    })
value_step t fs es ms ks (fields ns) bytes z n s h = let clash = h.syntax in absurd cc
value_step t fs es ms ks nothing bytes z n s h = let clash = h.syntax in absurd cc

field_step : (t : TypeNames) (fs : List TableLineForm) (es ms ks : List (List ℕ)) (part : OpenNames) (bytes : ℕ) (p : Parts)
    → Fits fs (record { enums = es; messages = ms; methods = ks; open_part = part })
    → IsClean t (record { enums = es; messages = ms; methods = ks; open_part = part }) bytes (kept (field_form p))
    → Fits (fs ++ field_form p ∷ []) (record { enums = es; messages = ms; methods = ks; open_part = names_with_field part (in_32_bits p.number) p.name })
field_step t fs es ms ks (fields ns) bytes p s h =
    elim (in_32 p.number) [
      | inl small ↦
          let q = s.part in
          let more : fs ++ field_form p ∷ [] ≡ q.front ++ message q.name ∷ map field_form (q.parts ++ p ∷ []) =
          ap (λ (xs : List TableLineForm). xs ++ field_form p ∷ []) q.is
          ∙ append_assoc q.front (message q.name ∷ map field_form q.parts) (field_form p ∷ [])
          ∙ ap (λ (xs : List TableLineForm). q.front ++ message q.name ∷ xs) (sym (map_push field_form q.parts p)) in
          subst (λ (o : Option ℕ). Fits (fs ++ field_form p ∷ []) (record {
            enums = es;
            messages = ms;
            methods = ks;
            open_part = names_with_field (fields ns) o p.name;
          })) (sym small.0) (record {
            enums = names_stay enum_name fs es (field_form p) refl s.enums;
            messages = names_stay message_name fs ms (field_form p) refl s.messages;
            methods = names_stay method_key_of fs ks (field_form p) refl s.methods;
            few = s.few;
            part = record {
              front = q.front;
              name = q.name;
              parts = q.parts ++ p ∷ [];
              is = more;
              keys = map_push field_key q.parts p ∙ ap (λ (xs : List (ℕ × List ℕ)). xs ++ field_key p ∷ []) q.keys;
              small = All-push (λ (n : ℕ × List ℕ). n.0 < 2 ^ 32) ns (field_key p) q.small small.1;
            };
            ordered = s.ordered;
            formed = formed_push fs (field_form p) s.formed tt;
          })
      | inr large ↦
          let number : has_field_number None ≡ true = ap has_field_number (sym large.0) ∙ not_no (has_field_number (in_32_bits p.number)) h.number in absurd cc
    ]
field_step t fs es ms ks (values vs) bytes p s h = let clash = right_no (clashes p.label p.kind) true h.syntax in absurd cc
field_step t fs es ms ks nothing bytes p s h = let clash = right_no (clashes p.label p.kind) true h.syntax in absurd cc

pub fits_step : (t : TypeNames) (fs : List TableLineForm) (b : NamesBefore) (bytes : ℕ) (f : TableLineForm) → IsFormed f → Fits fs b → IsClean t b bytes (kept f) → Fits (fs ++ f ∷ []) (names_after b (kept f))
fits_step t fs b bytes (enum n) ok s h =
    let front = left_no ((lacks_value b.open_part || not (is_empty b.messages)) || not (is_empty b.methods)) (is_below_last n b.enums) h.syntax in
    let parts = left_no (lacks_value b.open_part || not (is_empty b.messages)) (not (is_empty b.methods)) front in
    record {
      enums = names_push enum_name fs b.enums (enum n) s.enums;
      messages = names_stay message_name fs b.messages (enum n) refl s.messages;
      methods = names_stay method_key_of fs b.methods (enum n) refl s.methods;
      few = s.few;
      part = record { front = fs; name = n; is = refl; fits = All-nil (λ v. FitsSigned w32 v.0) };
      ordered = (
        empty_is b.messages (right_no (lacks_value b.open_part) (not (is_empty b.messages)) parts),
        empty_is b.methods (right_no (lacks_value b.open_part || not (is_empty b.messages)) (not (is_empty b.methods)) front),
      );
      formed = formed_push fs (enum n) s.formed tt;
    }
fits_step t fs b bytes (value z n) ok s h = value_step t fs b.enums b.messages b.methods b.open_part bytes z n s h
fits_step t fs b bytes (message n) ok s h =
    let front = left_no (lacks_value b.open_part || not (is_empty b.methods)) (is_below_last n b.messages) h.syntax in
    record {
      enums = names_stay enum_name fs b.enums (message n) refl s.enums;
      messages = names_push message_name fs b.messages (message n) s.messages;
      methods = names_stay method_key_of fs b.methods (message n) refl s.methods;
      few = s.few;
      part = record { front = fs; name = n; parts = []; is = refl; keys = refl; small = All-nil (λ n. n.0 < 2 ^ 32) };
      ordered = empty_is b.methods (right_no (lacks_value b.open_part) (not (is_empty b.methods)) front);
      formed = formed_push fs (message n) s.formed tt;
    }
fits_step t fs b bytes (field n l k name) ok s h =
    field_step t fs b.enums b.messages b.methods b.open_part bytes (record { number = n; label = l; kind = k; name = name }) s h
fits_step t fs b bytes (method i s n x y) ok fits h =
    let shorts = ((is_short_full s && is_short n) && is_short_full x) && is_short_full y in
    let limits = left_no (not shorts || nat_le 256 (length b.methods)) (nat_lt 65536 bytes) h.limit in
    let room = not_le 256 (length b.methods) (right_no (not shorts) (nat_le 256 (length b.methods)) limits) in
    record {
      enums = names_stay enum_name fs b.enums (method i s n x y) refl fits.enums;
      messages = names_stay message_name fs b.messages (method i s n x y) refl fits.messages;
      methods = names_push method_key_of fs b.methods (method i s n x y) fits.methods;
      few = omega (arith, length_push b.methods (s ++ 32 ∷ n), room);
      part = inr (record { front = fs; last = method i s n x y; is = refl; a_method = refl });
      ordered = λ none. absurd (omega (arith, ap length none, length_push b.methods (s ++ 32 ∷ n)));
      formed = formed_push fs (method i s n x y) fits.formed ok;
    }

-- ---- where a line is among them

goes_inside : (xs : List TableLineForm) (h : TableLineForm) (inner : List TableLineForm) → continues h ≡ false → All (λ g. continues g ≡ true) (xs ++ h ∷ inner) → ⊥
goes_inside xs h inner ends all =
    let goes : continues h ≡ true = All-contains (λ g. continues g ≡ true) (xs ++ h ∷ inner) h all (Contains-append_right xs (h ∷ inner) h (contains_first h inner)) in
    absurd cc

pub first_same : {X : Type 0} {x y : X} {xs ys : List X} → x ∷ xs ≡ y ∷ ys → x ≡ y
first_same e = cc

pub rest_same : {X : Type 0} {x y : X} {xs ys : List X} → x ∷ xs ≡ y ∷ ys → xs ≡ ys
rest_same e = cc

-- what is above the last line that starts a part is that line, or in the part
pub around : (xs ys : List TableLineForm) (h f : TableLineForm) (inner between : List TableLineForm) → xs ++ h ∷ inner ≡ ys ++ f ∷ between
    → continues h ≡ false → All (λ g. continues g ≡ true) between → (h ≡ f) ⊎ Contains inner f
around [] [] h f inner between e ends all = inl (first_same e)
around [] (y ∷ ys) h f inner between e ends all =
    inr (subst (λ (zs : List TableLineForm). Contains zs f) (sym (rest_same e))
    (Contains-append_right ys (f ∷ between) f (contains_first f between)))
around (x ∷ xs) [] h f inner between e ends all = absurd (goes_inside xs h inner ends (subst (All (λ g. continues g ≡ true)) (sym (rest_same e)) all))
around (x ∷ xs) (y ∷ ys) h f inner between e ends all = around xs ys h f inner between (rest_same e) ends all

-- and no more lines continue the part than it has
pub no_longer : (xs ys : List TableLineForm) (h : TableLineForm) (inner tail : List TableLineForm) → xs ++ h ∷ inner ≡ ys ++ tail
    → continues h ≡ false → All (λ g. continues g ≡ true) tail → length tail ≤ length inner
no_longer [] [] h inner tail e ends all = absurd (goes_inside [] h inner ends (subst (All (λ g. continues g ≡ true)) (sym e) all))
no_longer [] (y ∷ ys) h inner tail e ends all = long ys tail inner (rest_same e)
  where
    long : (ys tail inner : List TableLineForm) → inner ≡ ys ++ tail → length tail ≤ length inner
    long [] tail inner e = omega (arith, ap length e)
    long (y ∷ ys) tail inner e = let less = long ys tail (ys ++ tail) refl in omega (arith, ap length e)
no_longer (x ∷ xs) [] h inner tail e ends all = absurd (goes_inside (x ∷ xs) h inner ends (subst (All (λ g. continues g ≡ true)) (sym e) all))
no_longer (x ∷ xs) (y ∷ ys) h inner tail e ends all = no_longer xs ys h inner tail (rest_same e) ends all

-- a list is empty, or it ends
pub data Ended {X : Type 0} (xs : List X) : Type 0 where
  none : xs ≡ [] → Ended xs
  with_last : (init : List X) (x : X) → xs ≡ init ++ x ∷ [] → Ended xs

pub ended : {X : Type 0} (xs : List X) → Ended xs
ended [] = none refl
ended (x ∷ xs) = elim (ended xs) [
  | none e ↦ with_last [] x (ap (λ ys. x ∷ ys) e)
  | with_last init y e ↦ with_last (x ∷ init) y (ap (λ ys. x ∷ ys) e)
]

pub mapped_in : {X Y : Type 0} (h : X → Y) (xs : List X) (y : Y) → Contains (map h xs) y → (x : X) × Contains xs x × (h x ≡ y)
mapped_in h [] y c = absurd (contains_nothing y c)
mapped_in h (x ∷ xs) y c = elim (contains_cases (h x) y (map h xs) c) [
  | inl same ↦ (x, contains_first x xs, same)
  | inr later ↦ let r = mapped_in h xs y later in (r.0, contains_later x r.0 xs r.1, r.2)
]

pub in_map : {X Y : Type 0} (h : X → Y) (xs : List X) (x : X) → Contains xs x → Contains (map h xs) (h x)
in_map h [] x c = absurd (contains_nothing x c)
in_map h (y ∷ ys) x c = elim (contains_cases y x ys c) [
  | inl same ↦ subst (λ z. Contains (h y ∷ map h ys) (h z)) same (contains_first (h y) (map h ys))
  | inr later ↦ contains_later (h y) (h x) (map h ys) (in_map h ys x later)
]

pub named_in : {X : Type 0} (h : X → Option (List ℕ)) (xs : List X) (n : List ℕ) → Contains (filter_map h xs) n → (x : X) × Contains xs x × (h x ≡ Some n)
named_in h [] n c = absurd (contains_nothing n c)
named_in h (x ∷ xs) n c = named_first h x xs n (λ d. named_in h xs n d) (h x) refl c
  where
    named_first : {X : Type 0} (h : X → Option (List ℕ)) (x : X) (xs : List X) (n : List ℕ)
        → (Contains (filter_map h xs) n → (y : X) × Contains xs y × (h y ≡ Some n)) → (o : Option (List ℕ)) → h x ≡ o
        → Contains (cons_option o (filter_map h xs)) n → (y : X) × Contains (x ∷ xs) y × (h y ≡ Some n)
    named_first h x xs n rest None e c = let r = rest c in (r.0, contains_later x r.0 xs r.1, r.2)
    named_first h x xs n rest (Some m) e c = elim (contains_cases m n (filter_map h xs) c) [
      | inl same ↦ (x, contains_first x xs, e ∙ ap Some same)
      | inr later ↦ let r = rest later in (r.0, contains_later x r.0 xs r.1, r.2)
    ]

pub in_names : {X : Type 0} (h : X → Option (List ℕ)) (xs : List X) (x : X) (n : List ℕ) → Contains xs x → h x ≡ Some n → Contains (filter_map h xs) n
in_names h [] x n c e = absurd (contains_nothing x c)
in_names h (y ∷ ys) x n c e = elim (contains_cases y x ys c) [
  | inl same ↦ subst (λ (o : Option (List ℕ)). Contains (cons_option o (filter_map h ys)) n) (sym (ap h same ∙ e)) (contains_first n (filter_map h ys))
  | inr later ↦ more (filter_map h ys) n (h y) (in_names h ys x n later e)
]
  where
    more : (ns : List (List ℕ)) (n : List ℕ) (o : Option (List ℕ)) → Contains ns n → Contains (cons_option o ns) n
    more ns n None c = c
    more ns n (Some m) c = contains_later m n ns c

-- how many there are of a form
pub counted : (p : TableLineForm → Bool) (h : TableLineForm → Option (List ℕ)) (fs : List TableLineForm)
    → ((f : TableLineForm) → length (option_to_list (h f)) ≡ count_by p (f ∷ [])) → length (filter_map h fs) ≡ count_by p fs
counted p h [] each = refl
counted p h (f ∷ fs) each = omega (arith, first (h f) (filter_map h fs), each f, counted p h fs each, sum_by-append (λ (g : TableLineForm). cond (p g) 1 0) (f ∷ []) fs)
  where
    first : (o : Option (List ℕ)) (ns : List (List ℕ)) → length (cons_option o ns) ≡ length (option_to_list o) + length ns
    first None ns = omega arith
    first (Some n) ns = omega arith
