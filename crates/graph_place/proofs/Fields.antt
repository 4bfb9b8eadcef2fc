-- The content of a normal tree at a number, and the fields of its message that have slots of their own.
use Rattle.std.proofs.Common.{◌≡◌, ℕ, zero, suc, ◌+◌, ◌<◌, ◌≤◌, Bool, true, false, cond, ◌||◌, ◌==◌, List, [], ◌∷◌}
use Rattle.std.proofs.Common.{length, Option, Some, None, refl, sym, ap, subst, ◌∙◌, arith, inl, inr}
use Rattle.std.specs.Prelude.{option_map, unwrap_or, slice_get, All}
use Rattle.std.proofs.lemmas.Bool.{ne_eqb, cases_Bool, or_from, or_left, or_right, true≢false}
use Rattle.std.proofs.lemmas.Bool.Decides.{eqb_tells}
use Rattle.std.proofs.lemmas.Option.{slice_get_cases}
use Rattle.std.proofs.lemmas.List.Elements.{All-head, All-tail}
use Rattle.mrpc_table.specs.Node.{Node, no_fields, field, Content, one, many, pairs, content_at, AreNumbersAscending}
use Rattle.mrpc_table.specs.Normal.{fields_of, field_at, HasFields, HasContent, depth, content_depth}
use Rattle.mrpc_table.specs.Valid.{IsValid, IsMessage, IsField, IsAscendingBy as InOrder, IsNextOneof, AreOneofsInOrder, IsLabelFor}
use Rattle.mrpc_table.specs.declared.table.Field.{Field}
use Rattle.mrpc_table.specs.declared.table.Label.{Label}
use Rattle.mrpc_table.specs.declared.table.Label.TheVariants.{Plain, Optional, Repeated, Packed, Map, Member}
use Rattle.mrpc_table.specs.declared.table.Message.{Message}
use Rattle.mrpc_table.specs.declared.table.Table.{Table}
use Rattle.graph_form.specs.Roles.{own_slots, oneof_count, is_member}
use Rattle.graph_place.specs.Content.{is_of, is_member_of}
use Rattle.graph_place.specs.Laid.{is_member_at, keep, members}
use Rattle.graph_place.proofs.Keeping.{Each, each_weaker, each_always, keep_same, keep_all, or_none}

-- ---- a tree

pub fields_ascend : (T : Table) (fs : List Field) (last : ℕ) (t : Node) → HasFields T fs last t → AreNumbersAscending last t
fields_ascend T fs last no_fields h = tt
fields_ascend T fs last (field n c t) h = (h.0, fields_ascend T fs n t h.2)

pub content_has : (T : Table) (fs : List Field) (last n : ℕ) (c : Content) (t : Node) → HasFields T fs last t → content_at t n ≡ Some c → HasContent T fs n c
content_has T fs last n c no_fields h at = absurd (cc)
content_has T fs last n c (field m d t) h at =
    elim (eqb_tells m n) [
      | inl same ↦
          let e : Some d ≡ Some c = sym (ap (λ b. cond b (Some d) (content_at t n)) same.0) ∙ at in
          let is : d ≡ c = cc in
          subst (HasContent T fs n) is (subst (λ k. HasContent T fs k d) same.1 h.1)
      | inr other ↦ content_has T fs m n c t h.2 (sym (ap (λ b. cond b (Some d) (content_at t n)) other.0) ∙ at)
    ]

pub content_within : (n : ℕ) (c : Content) (t : Node) → content_at t n ≡ Some c → content_depth c ≤ depth t
content_within n c no_fields at = absurd (cc)
content_within n c (field m d t) at =
    elim (eqb_tells m n) [
      | inl same ↦
          let e : Some d ≡ Some c = sym (ap (λ b. cond b (Some d) (content_at t n)) same.0) ∙ at in
          let is : d ≡ c = cc in
          omega (arith, ap content_depth is)
      | inr other ↦
          let rest = content_within n c t (sym (ap (λ b. cond b (Some d) (content_at t n)) other.0) ∙ at) in
          omega (arith, rest)
    ]

known_content : (T : Table) (fs : List Field) (n : ℕ) (c : Content) → HasContent T fs n c → (f : Field) × (field_at fs n ≡ Some f)
known_content T fs n (one i) h = (h.0, h.1)
known_content T fs n (many is) h = (h.0, h.1)
known_content T fs n (pairs ps) h = (h.0, h.2)

abbrev pub IsKnownAt : List Field → ℕ → Type 0
IsKnownAt fs n = (f : Field) × (field_at fs n ≡ Some f)

pub fields_known : (T : Table) (fs : List Field) (last : ℕ) (t : Node) → HasFields T fs last t → Each (IsKnownAt fs) t
fields_known T fs last no_fields h = tt
fields_known T fs last (field n c t) h = (known_content T fs n c h.1, fields_known T fs n t h.2)

-- ---- slots of fields

pub member_at : (fs : List Field) (n : ℕ) (f : Field) → field_at fs n ≡ Some f → is_member_at fs n ≡ is_member f.label
member_at [] n f at = absurd (cc)
member_at (g ∷ fs) n f at =
    elim (eqb_tells g.number n) [
      | inl same ↦
          let e : Some g ≡ Some f = sym (ap (λ b. cond b (Some g) (field_at fs n)) same.0) ∙ at in
          let h : g ≡ f = cc in
          ap (λ b. cond b (is_member g.label) (is_member_at fs n)) same.0 ∙ ap (λ x. is_member x.label) h
      | inr other ↦
          ap (λ b. cond b (is_member g.label) (is_member_at fs n)) other.0 ∙ member_at fs n f (sym (ap (λ b. cond b (Some g) (field_at fs n)) other.0) ∙ at)
    ]

-- whether one of some fields has the number
abbrev pub has_number : List Field → ℕ → Bool
has_number [] n = false
has_number (f ∷ fs) n = (f.number == n) || has_number fs n

-- whether a number is a member's, or that of one of these slots
abbrev pub is_left : List Field → List Field → ℕ → Bool
is_left fs slots n = is_member_at fs n || has_number slots n

or_turned : (a b c : Bool) → (a || (b || c)) ≡ ((a || c) || b)
or_turned true b c = refl
or_turned false true true = refl
or_turned false true false = refl
or_turned false false true = refl
or_turned false false false = refl

pub left_step : (fs slots : List Field) (f : Field) (n : ℕ) → is_left fs (f ∷ slots) n ≡ (is_left fs slots n || f.number == n)
left_step fs slots f n = or_turned (is_member_at fs n) (f.number == n) (has_number slots n)

pub own_here : (f : Field) (fs : List Field) → is_member f.label ≡ false → own_slots (f ∷ fs) ≡ f ∷ own_slots fs
own_here f fs fails = ap (λ b. cond (cond b false true) (f ∷ own_slots fs) (own_slots fs)) fails

pub own_past : (f : Field) (fs : List Field) → is_member f.label ≡ true → own_slots (f ∷ fs) ≡ own_slots fs
own_past f fs holds = ap (λ b. cond (cond b false true) (f ∷ own_slots fs) (own_slots fs)) holds

known_left : (fs : List Field) (n : ℕ) (f : Field) → field_at fs n ≡ Some f → is_left fs (own_slots fs) n ≡ true
known_left [] n f at = absurd (cc)
known_left (g ∷ fs) n f at =
    elim (eqb_tells g.number n) [
      | inl same ↦
          let is : is_member_at (g ∷ fs) n ≡ is_member g.label = ap (λ b. cond b (is_member g.label) (is_member_at fs n)) same.0 in
          elim (cases_Bool (is_member g.label)) [
            | inl holds ↦ or_left (is_member_at (g ∷ fs) n) (has_number (own_slots (g ∷ fs)) n) (is ∙ holds)
            | inr fails ↦
                let there : has_number (own_slots (g ∷ fs)) n ≡ true =
                ap (λ gs. has_number gs n) (own_here g fs fails)
                ∙ or_left (g.number == n) (has_number (own_slots fs) n) same.0 in
                or_right (is_member_at (g ∷ fs) n) (has_number (own_slots (g ∷ fs)) n) there
          ]
      | inr other ↦
          let rest = known_left fs n f (sym (ap (λ b. cond b (Some g) (field_at fs n)) other.0) ∙ at) in
          let is : is_member_at (g ∷ fs) n ≡ is_member_at fs n = ap (λ b. cond b (is_member g.label) (is_member_at fs n)) other.0 in
          let there : has_number (own_slots (g ∷ fs)) n ≡ has_number (own_slots fs) n =
          elim (cases_Bool (is_member g.label)) [
            | inl holds ↦ ap (λ gs. has_number gs n) (own_past g fs holds)
            | inr fails ↦ ap (λ gs. has_number gs n) (own_here g fs fails) ∙ ap (λ b. b || has_number (own_slots fs) n) other.0
          ] in
          ap (λ b. b || has_number (own_slots (g ∷ fs)) n) is ∙ ap (λ b. is_member_at fs n || b) there ∙ rest
    ]

-- before the first slot all fields remain
pub all_left : (T : Table) (fs : List Field) (t : Node) → HasFields T fs 0 t → keep (is_left fs (own_slots fs)) t ≡ t
all_left T fs t h =
    keep_all (is_left fs (own_slots fs)) t (each_weaker (IsKnownAt fs) (λ n. is_left fs (own_slots fs) n ≡ true) t
    (λ n k. known_left fs n k.0 k.1) (fields_known T fs 0 t h))

-- after the last slot the members remain
pub members_left : (fs : List Field) (t : Node) → keep (is_left fs []) t ≡ members fs t
members_left fs t = keep_same (is_left fs []) (is_member_at fs) t (each_always (λ n. is_left fs [] n ≡ is_member_at fs n) t (λ n. or_none (is_member_at fs n)))

-- ---- fields of a valid table

all_got : {X : Type 0} (P : X → Type 0) (xs : List X) (i : ℕ) (x : X) → All P xs → slice_get xs i ≡ Some x → P x
all_got P xs i x all got =
    elim (slice_get_cases xs i).1 [
      | inl in_range ↦ let same : in_range.0 ≡ x = cc (in_range.2, got) in subst P same (subst P in_range.3 (all i in_range.0 in_range.1))
      | inr past ↦ absurd (cc (past.1, got))
    ]

pub message_valid : (T : Table) (i : ℕ) (m : Message) → IsValid T → slice_get T.messages i ≡ Some m → IsMessage T m
message_valid T i m valid got = all_got (IsMessage T) T.messages i m valid.messages got

pub fields_at : (T : Table) (i : ℕ) (m : Message) → slice_get T.messages i ≡ Some m → fields_of T i ≡ m.fields
fields_at T i m got = ap (λ o. unwrap_or (option_map (λ x. x.fields) o) []) got

pub no_fields_at : (T : Table) (i : ℕ) → slice_get T.messages i ≡ None → fields_of T i ≡ []
no_fields_at T i got = ap (λ (o : Option Message). unwrap_or (option_map (λ x. x.fields) o) []) got

pub oneofs_at : (T : Table) (i : ℕ) (m : Message) → slice_get T.messages i ≡ Some m → oneof_count T i ≡ length m.oneofs
oneofs_at T i m got = ap (λ o. unwrap_or (option_map (λ x. length x.oneofs) o) 0) got

pub no_oneofs_at : (T : Table) (i : ℕ) → slice_get T.messages i ≡ None → oneof_count T i ≡ 0
no_oneofs_at T i got = ap (λ (o : Option Message). unwrap_or (option_map (λ x. length x.oneofs) o) 0) got

joined_le : (met all n : ℕ) (l : Label) (Same Next : Type 0) → (Same → all ≤ met + n) → (Next → all ≤ met + 1 + n) → IsNextOneof met l Same Next → all ≤ met + suc n
joined_le met all n Plain Same Next same next h = omega (arith, same h)
joined_le met all n Optional Same Next same next h = omega (arith, same h)
joined_le met all n Repeated Same Next same next h = omega (arith, same h)
joined_le met all n Packed Same Next same next h = omega (arith, same h)
joined_le met all n (Map k) Same Next same next h = omega (arith, same h)
joined_le met all n (Member o) Same Next same next h = elim h [ inl old ↦ omega (arith, same old.1) | inr new ↦ omega (arith, next new.1) ]

follow_le : (met all : ℕ) (fs : List Field) → AreOneofsInOrder met all fs → all ≤ met + length fs
follow_le met all [] h = omega (arith, h)
follow_le met all (f ∷ fs) h = joined_le met all (length fs) f.label (AreOneofsInOrder met all fs) (AreOneofsInOrder (met + 1) all fs) (follow_le met all fs) (follow_le (met + 1) all fs) h

pub few_oneofs : (T : Table) (m : Message) → IsMessage T m → length m.oneofs ≤ 128
few_oneofs T m h = omega (arith, follow_le 0 (length m.oneofs) m.fields h.oneof_order, h.few)

abbrev pub InNumbers : List Field → Type 0
InNumbers fs = InOrder (λ f g. f.number < g.number) fs

-- the fields of any message of a valid table
pub record AreFields (T : Table) (oneofs : ℕ) (fs : List Field) : Type 0 where
  pub each : All (IsField T oneofs) fs
  pub ascend : InNumbers fs

pub are_fields : (T : Table) (i : ℕ) → IsValid T → AreFields T (oneof_count T i) (fields_of T i)
are_fields T i valid =
    elim (slice_get_cases T.messages i).1 [
      | inl in_range ↦
          let m = in_range.0 in
          let is = message_valid T i m valid in_range.2 in
          let fields = fields_at T i m in_range.2 in
          let oneofs = oneofs_at T i m in_range.2 in
          let here : AreFields T (length m.oneofs) m.fields = record { each = is.fields; ascend = is.ascend } in
          subst (AreFields T (oneof_count T i)) (sym fields) (subst (λ k. AreFields T k m.fields) (sym oneofs) here)
      | inr out ↦
          let none = no_fields_at T i out.1 in
          let empty : AreFields T (oneof_count T i) [] = record { each = λ k d below. absurd (omega (arith, below)); ascend = tt } in
          subst (AreFields T (oneof_count T i)) (sym none) empty
    ]

pub field_is : (T : Table) (oneofs : ℕ) (fs : List Field) (n : ℕ) (f : Field) → All (IsField T oneofs) fs → field_at fs n ≡ Some f → IsField T oneofs f
field_is T oneofs [] n f each at = absurd (cc)
field_is T oneofs (g ∷ fs) n f each at =
    elim (eqb_tells g.number n) [
      | inl same ↦
          let e : Some g ≡ Some f = sym (ap (λ b. cond b (Some g) (field_at fs n)) same.0) ∙ at in
          let h : g ≡ f = cc in
          subst (IsField T oneofs) h (All-head (IsField T oneofs) g fs each)
      | inr other ↦ field_is T oneofs fs n f (All-tail (IsField T oneofs) g fs each) (sym (ap (λ b. cond b (Some g) (field_at fs n)) other.0) ∙ at)
    ]

-- ---- oneofs

-- whether a number is that of a member of one of the oneofs in a range
abbrev pub in_oneofs : List Field → ℕ → ℕ → ℕ → Bool
in_oneofs fs o zero n = false
in_oneofs fs o (suc k) n = is_member_of fs o n || in_oneofs fs (o + 1) k n

abbrev label_in : ℕ → ℕ → Label → Bool
label_in o zero l = false
label_in o (suc k) l = is_of o l || label_in (o + 1) k l

in_by_label : (fs : List Field) (o k n : ℕ) (f : Field) → field_at fs n ≡ Some f → in_oneofs fs o k n ≡ label_in o k f.label
in_by_label fs o zero n f at = refl
in_by_label fs o (suc k) n f at =
    let head : is_member_of fs o n ≡ is_of o f.label = ap (λ x. unwrap_or (option_map (λ g. is_of o g.label) x) false) at in
    ap (λ b. b || in_oneofs fs (o + 1) k n) head ∙ ap (λ b. is_of o f.label || b) (in_by_label fs (o + 1) k n f at)

label_below : (o k p : ℕ) → p < o → label_in o k (Member p) ≡ false
label_below o zero p below = refl
label_below o (suc k) p below = or_from (p == o) (label_in (o + 1) k (Member p)) (ne_eqb p o (λ e. omega (arith, e, below))) (label_below (o + 1) k p (omega (arith, below)))

label_there : (o k p : ℕ) → o ≤ p → p < o + k → label_in o k (Member p) ≡ true
label_there o zero p from to = absurd (omega (arith, from, to))
label_there o (suc k) p from to =
    elim (eqb_tells p o) [
      | inl same ↦ or_left (p == o) (label_in (o + 1) k (Member p)) same.0
      | inr other ↦ or_right (p == o) (label_in (o + 1) k (Member p)) (label_there (o + 1) k p (omega (arith, from, other.1)) (omega (arith, to)))
    ]

label_none : (o k : ℕ) (l : Label) → is_member l ≡ false → label_in o k l ≡ false
label_none o zero l fails = refl
label_none o (suc k) (Member p) fails = absurd (true≢false fails)
label_none o (suc k) Plain fails = label_none (o + 1) k Plain fails
label_none o (suc k) Optional fails = label_none (o + 1) k Optional fails
label_none o (suc k) Repeated fails = label_none (o + 1) k Repeated fails
label_none o (suc k) Packed fails = label_none (o + 1) k Packed fails
label_none o (suc k) (Map key) fails = label_none (o + 1) k (Map key) fails

label_all : (oneofs : ℕ) (l : Label) → ((p : ℕ) → l ≡ Member p → p < oneofs) → is_member l ≡ label_in 0 oneofs l
label_all oneofs (Member p) within = sym (label_there 0 oneofs p (omega arith) (omega (arith, within p refl)))
label_all oneofs Plain within = sym (label_none 0 oneofs Plain refl)
label_all oneofs Optional within = sym (label_none 0 oneofs Optional refl)
label_all oneofs Repeated within = sym (label_none 0 oneofs Repeated refl)
label_all oneofs Packed within = sym (label_none 0 oneofs Packed refl)
label_all oneofs (Map key) within = sym (label_none 0 oneofs (Map key) refl)

goes_within : (T : Table) (oneofs : ℕ) (f : Field) (p : ℕ) → IsField T oneofs f → f.label ≡ Member p → p < oneofs
goes_within T oneofs f p is e = subst (λ l. IsLabelFor oneofs l f.kind) e is.label

-- the members are those of all oneofs
pub all_members : (T : Table) (oneofs : ℕ) (fs : List Field) (t : Node) → All (IsField T oneofs) fs → HasFields T fs 0 t → members fs t ≡ keep (in_oneofs fs 0 oneofs) t
all_members T oneofs fs t each has =
    keep_same (is_member_at fs) (in_oneofs fs 0 oneofs) t
    (each_weaker (IsKnownAt fs) (λ n. is_member_at fs n ≡ in_oneofs fs 0 oneofs n) t
    (λ n k. member_at fs n k.0 k.1 ∙ label_all oneofs k.0.label (λ p e. goes_within T oneofs k.0 p (field_is T oneofs fs n k.0 each k.1) e) ∙ sym (in_by_label fs 0 oneofs n k.0 k.1))
    (fields_known T fs 0 t has))

label_of : (o : ℕ) (l : Label) → is_of o l ≡ true → l ≡ Member o
label_of o (Member p) holds = elim (eqb_tells p o) [ inl same ↦ ap Member same.1 | inr other ↦ absurd (true≢false (sym holds ∙ other.0)) ]
label_of o Plain holds = absurd (true≢false (sym holds))
label_of o Optional holds = absurd (true≢false (sym holds))
label_of o Repeated holds = absurd (true≢false (sym holds))
label_of o Packed holds = absurd (true≢false (sym holds))
label_of o (Map key) holds = absurd (true≢false (sym holds))

of_found : (o : ℕ) (x : Option Field) → unwrap_or (option_map (λ g. is_of o g.label) x) false ≡ true → (f : Field) × (x ≡ Some f) × (f.label ≡ Member o)
of_found o None holds = absurd (true≢false (sym holds))
of_found o (Some f) holds = (f, refl, label_of o f.label holds)

pub member_found : (fs : List Field) (o n : ℕ) → is_member_of fs o n ≡ true → (f : Field) × (field_at fs n ≡ Some f) × (f.label ≡ Member o)
member_found fs o n holds = of_found o (field_at fs n) holds

-- a member of one oneof is none of a later oneof
pub not_behind : (fs : List Field) (o k n : ℕ) → is_member_of fs o n ≡ true → in_oneofs fs (o + 1) k n ≡ false
not_behind fs o k n holds =
    let m = member_found fs o n holds in
    in_by_label fs (o + 1) k n m.0 m.1 ∙ ap (label_in (o + 1) k) m.2 ∙ label_below (o + 1) k o (omega arith)

few_at : (T : Table) (i : ℕ) → IsValid T → oneof_count T i ≤ 128
few_at T i valid =
    elim (slice_get_cases T.messages i).1 [
      | inl in_range ↦
          let few = few_oneofs T in_range.0 (message_valid T i in_range.0 valid in_range.2) in
          omega (arith, few, oneofs_at T i in_range.0 in_range.2)
      | inr out ↦ omega (arith, no_oneofs_at T i out.1)
    ]

-- the oneof of a member is inside the array
pub member_within : (T : Table) (i n o : ℕ) (f : Field) → IsValid T → field_at (fields_of T i) n ≡ Some f → f.label ≡ Member o → o < 128
member_within T i n o f valid at label =
    let is = field_is T (oneof_count T i) (fields_of T i) n f (are_fields T i valid).each at in
    let within = goes_within T (oneof_count T i) f o is label in
    let few = few_at T i valid in
    omega (arith, within, few)
