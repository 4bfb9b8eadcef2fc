-- Names of messages and numbers of fields ascend, so each is at only one index.
use Rattle.std.proofs.Common.{◌≡◌, ◌≢◌, ℕ, zero, suc, ◌<◌, ◌==◌, true, false, List, [], ◌∷◌, length, get_or, Some, inl, inr, sym, ap, subst, ◌∙◌, arith}
use Rattle.std.specs.Prelude.{Contains, slice_get, option_map, unwrap_or}
use Rattle.std.specs.Ordering.{ordering_reverse}
use Rattle.std.specs.declared.cmp.Ordering.TheVariants.{Less, Greater}
use Rattle.std.proofs.lemmas.Bool.{cases_order, cases_Bool, cond-true, cond-false, eqb-true, eq-eqb, ne_eqb}
use Rattle.std.proofs.lemmas.Cmp.{nat_list_cmp_total}
use Rattle.std.proofs.lemmas.Option.{slice_get-get_or, same_Some, none-some}
use Rattle.mrpc_table.specs.Ascending.{AreFieldsAscending}
use Rattle.mrpc_table.specs.Normal.{field_at}
use Rattle.mrpc_table.specs.Text.{message_name}
use Rattle.mrpc_table.specs.Valid.{IsAscendingBy, IsBelow, IsValid}
use Rattle.mrpc_table.specs.declared.table.Field.{Field}
use Rattle.mrpc_table.specs.declared.table.Message.{Message}
use Rattle.mrpc_table.specs.declared.table.Table.{Table}

-- ---- lists that ascend

ascends_tail : {X : Type 0} (R : X → X → Type 0) (x : X) (xs : List X) → IsAscendingBy R (x ∷ xs) → IsAscendingBy R xs
ascends_tail R x [] up = tt
ascends_tail R x (y ∷ ys) up = up.1

above_first : {X : Type 0} (R : X → X → Type 0) → ((x y z : X) → R x y → R y z → R x z) → (x : X) (xs : List X) → IsAscendingBy R (x ∷ xs)
    → (k : ℕ) (d : X) → k < length xs → R x (get_or xs k d)
above_first R trans x [] up k d within = absurd (omega arith)
above_first R trans x (y ∷ ys) up zero d within = up.0
above_first R trans x (y ∷ ys) up (suc k) d within = trans x y (get_or ys k d) up.0 (above_first R trans y ys up.1 k d (omega arith))

pub rises : {X : Type 0} (R : X → X → Type 0) → ((x y z : X) → R x y → R y z → R x z) → (xs : List X) → IsAscendingBy R xs
    → (i j : ℕ) (d : X) → i < j → j < length xs → R (get_or xs i d) (get_or xs j d)
rises R trans [] up i j d below within = absurd (omega arith)
rises R trans (x ∷ xs) up i zero d below within = absurd (omega arith)
rises R trans (x ∷ xs) up zero (suc j) d below within = above_first R trans x xs up j d (omega arith)
rises R trans (x ∷ xs) up (suc i) (suc j) d below within = rises R trans xs (ascends_tail R x xs up) i j d (omega arith) (omega arith)

-- ---- names

below_trans : (a b c : List ℕ) → IsBelow a b → IsBelow b c → IsBelow a c
below_trans a b c h k = nat_list_cmp_total.trans a b c h k

pub never_below_both : (a b : List ℕ) → IsBelow a b → IsBelow b a → ⊥
never_below_both a b h k = let e : Less ≡ Greater = sym h ∙ nat_list_cmp_total.antisymm a b ∙ ap ordering_reverse k in cc

pub below_is_other : (a b : List ℕ) → IsBelow a b → a ≢ b
below_is_other a b h e = never_below_both a b h (subst (λ (c : List ℕ). IsBelow b c) (sym e) (subst (λ (c : List ℕ). IsBelow c b) e h))

-- ---- messages

abbrev pub no_message : Message
no_message = record { name = []; fields = []; oneofs = [] }

pub message_name_is : (T : Table) (i : ℕ) (d : Message) → i < length T.messages → message_name T i ≡ (get_or T.messages i d).name
message_name_is T i d within = ap (λ o. unwrap_or (option_map (λ (m : Message). m.name) o) []) (slice_get-get_or T.messages i d within)

pub names_rise : (T : Table) → IsValid T → (i j : ℕ) → i < j → j < length T.messages → IsBelow (message_name T i) (message_name T j)
names_rise T valid i j below within =
    let h : IsBelow (get_or T.messages i no_message).name (get_or T.messages j no_message).name =
    rises (λ m n. IsBelow m.name n.name) (λ l m n. below_trans l.name m.name n.name) T.messages valid.messages_ascend i j no_message below within in
    subst (λ (a : List ℕ). IsBelow a (message_name T j)) (sym (message_name_is T i no_message (omega arith)))
    (subst (λ (b : List ℕ). IsBelow (get_or T.messages i no_message).name b) (sym (message_name_is T j no_message within)) h)

pub one_name : (T : Table) → IsValid T → (i j : ℕ) → i < length T.messages → j < length T.messages → message_name T i ≡ message_name T j → i ≡ j
one_name T valid i j hi hj same = elim (cases_order i j) [
  | inl equal ↦ equal
  | inr other ↦ elim other [
    | inl below ↦ absurd (below_is_other (message_name T i) (message_name T j) (names_rise T valid i j below hj) same)
    | inr above ↦ absurd (below_is_other (message_name T j) (message_name T i) (names_rise T valid j i above hi) (sym same))
  ]
]

-- the index of a message that the table has
pub place_of : (T : Table) → IsValid T → (m : Message) → Contains T.messages m → (i : ℕ) → i < length T.messages
    → m.name ≡ message_name T i → slice_get T.messages i ≡ Some m
place_of T valid m has i within named =
    let here : message_name T has.0 ≡ m.name = message_name_is T has.0 m has.1 ∙ ap (λ (n : Message). n.name) has.2 in
    let same : has.0 ≡ i = one_name T valid has.0 i has.1 within (here ∙ named) in
    subst (λ k. slice_get T.messages k ≡ Some m) same (slice_get-get_or T.messages has.0 m has.1 ∙ ap Some has.2)

-- ---- fields

number_trans : (f g h : Field) → f.number < g.number → g.number < h.number → f.number < h.number
number_trans f g h a b = omega arith

pub numbers_rise : (fs : List Field) → AreFieldsAscending fs → (i j : ℕ) (d : Field) → i < j → j < length fs → (get_or fs i d).number < (get_or fs j d).number
numbers_rise fs up i j d below within = rises (λ f g. f.number < g.number) number_trans fs up i j d below within

field_found_at : (fs : List Field) → AreFieldsAscending fs → (f : Field) (k : ℕ) → k < length fs → get_or fs k f ≡ f → field_at fs f.number ≡ Some f
field_found_at [] up f k within at = absurd (omega arith)
field_found_at (g ∷ gs) up f zero within at =
    let hit : (g.number == f.number) ≡ true = eq-eqb g.number f.number (ap (λ (h : Field). h.number) at) in
    cond-true (g.number == f.number) (Some g) (field_at gs f.number) hit ∙ ap Some at
field_found_at (g ∷ gs) up f (suc k) within at =
    let low : g.number < (get_or gs k f).number = above_first (λ f g. f.number < g.number) number_trans g gs up k f (omega arith) in
    let same : (get_or gs k f).number ≡ f.number = ap (λ (h : Field). h.number) at in
    let miss : (g.number == f.number) ≡ false = ne_eqb g.number f.number (λ e. omega arith) in
    cond-false (g.number == f.number) (Some g) (field_at gs f.number) miss ∙ field_found_at gs (ascends_tail (λ f g. f.number < g.number) g gs up) f k (omega arith) at

pub field_found : (fs : List Field) → AreFieldsAscending fs → (f : Field) → Contains fs f → field_at fs f.number ≡ Some f
field_found fs up f has = field_found_at fs up f has.0 has.1 has.2

-- a field that is found is in the list, under the number
pub record IsFound (fs : List Field) (n : ℕ) (f : Field) : Type 0 where
  pub has : Contains fs f
  pub numbered : f.number ≡ n

pub field_known : (fs : List Field) (n : ℕ) (f : Field) → field_at fs n ≡ Some f → IsFound fs n f
field_known [] n f e = absurd (none-some f e)
field_known (g ∷ gs) n f e = elim (cases_Bool (g.number == n)) [
  | inl hit ↦
      let same : g ≡ f = same_Some g f (sym (cond-true (g.number == n) (Some g) (field_at gs n) hit) ∙ e) in
      record { has = (0, omega arith, same); numbered = ap (λ (h : Field). h.number) (sym same) ∙ eqb-true g.number n hit }
  | inr miss ↦
      let later : IsFound gs n f = field_known gs n f (sym (cond-false (g.number == n) (Some g) (field_at gs n) miss) ∙ e) in
      let within : later.has.0 < length gs = later.has.1 in
      record { has = (suc later.has.0, omega arith, later.has.2); numbered = later.numbered }
]
