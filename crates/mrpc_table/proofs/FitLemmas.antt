-- Parts of a tree fit if the first part and the suffix after it fit.
use Rattle.std.proofs.Common.{◌≡◌, ◌≢◌, ℕ, zero, suc, ◌+◌, ◌-◌, ◌<◌, ◌≤◌, ◌==◌, ◌↔◌, Bool, true, false, not, cond}
use Rattle.std.proofs.Common.{List, [], ◌∷◌, length, drop, get_or, set, Option, Some, refl, ap, sym, subst, ◌∙◌}
use Rattle.std.proofs.Common.{arith, inl, inr, drop-cons, get_or-set_same, get_or-set_other, IsTrue, length-drop}
use Rattle.std.proofs.Common.{replicate}
use Rattle.std.proofs.lemmas.Bool.{cases_eq, eq-eqb}
use Rattle.mrpc_table.specs.Node.{Node, no_fields, field, Content, one, many, pairs}
use Rattle.mrpc_table.specs.Normal.{fields_of, field_at, HasContent, CanHaveMany, members_in, membership, AreKeysAscending, depth}
use Rattle.mrpc_table.specs.View.{items_of, pairs_of, content_of, node_of}
use Rattle.mrpc_table.specs.NormalParts.{IsNormalWithin, IsNormalSuffix, IsContent, IsContentWithin, AreItemsWithin, ArePairsWithin, is_free, taken_after, IsOneofWithin}
use Rattle.std.specs.List.{All}
use Rattle.std.specs.Prelude.{option_map, unwrap_or}
use Rattle.std.proofs.lemmas.Option.{slice_get-get_or}
use Rattle.mrpc_table.specs.Words.{is_key}
use Rattle.mrpc_table.specs.Valid.{IsMessage, IsField, IsKnown, IsLabelFor, IsNextOneof, AreOneofsInOrder}
use Rattle.mrpc_table.specs.declared.table.Message.{Message}
use Rattle.mrpc_table.specs.declared.table.Kind.{Kind}
use Rattle.mrpc_table.specs.declared.table.Kind.TheVariants.{Int32, Int64, Uint32, Uint64, Sint32, Sint64}
use Rattle.mrpc_table.specs.declared.table.Kind.TheVariants.{Bool as TheBool, Fixed32, Fixed64, Sfixed32, Sfixed64}
use Rattle.mrpc_table.specs.declared.table.Kind.TheVariants.{Float, Double, Text, Octets, Message as OfMessage}
use Rattle.mrpc_table.specs.declared.table.Kind.TheVariants.{Choice}
use Rattle.mrpc_table.specs.declared.table.Label.{Label}
use Rattle.mrpc_table.specs.declared.table.Label.TheVariants.{Plain, Optional, Repeated, Packed, Map, Member}
use Rattle.mrpc_table.specs.declared.table.Field.{Field}
use Rattle.mrpc_table.specs.declared.table.Table.{Table}
use Rattle.mrpc_table.specs.declared.tree.FieldValue.{FieldValue}
use Rattle.mrpc_table.specs.declared.tree.Value.{Value}

-- the suffix of a list at an index is the element there and the suffix after it
from_here : {X : Type 0} (xs : List X) (i : ℕ) (x : X) → i < length xs → x ≡ get_or xs i x → drop i xs ≡ x ∷ drop (i + 1) xs
from_here xs i x within at =
    let e : i + 1 ≡ suc i = omega arith in
    drop-cons xs i x within ∙ ap (λ y. y ∷ drop (suc i) xs) (sym at) ∙ ap (λ (k : ℕ). x ∷ drop k xs) (sym e)

-- ---- keys

short_ascends : (k : Kind) (es : List (Value × Value)) → length es ≤ 1 → AreKeysAscending k (pairs_of es)
short_ascends k [] short = tt
short_ascends k (e ∷ []) short = tt
short_ascends k (e ∷ f ∷ es) short = absurd (omega arith)

pub keys_end : (k : Kind) (es : List (Value × Value)) (i : ℕ) → length es ≤ i → AreKeysAscending k (pairs_of (drop (i - 1) es))
keys_end k es i le = short_ascends k (drop (i - 1) es) (omega (arith, length-drop (i - 1) es))

-- ---- fields

-- what the first field must satisfy
pub record FirstFits (T : Table) (f : Field) (room last n : ℕ) (taken : List Bool) (c : Content) : Type 0 where
  pub above : last < n
  pub content : IsContentWithin T f room c
  pub free : is_free taken f.label ≡ true

content_down : (T : Table) (fs : List Field) (n : ℕ) (f : Field) (c : Content) → field_at fs n ≡ Some f → HasContent T fs n c → IsContent T f c
content_down T fs n f (one i) e h =
    let same : h.0 ≡ f = cc (h.1, e) in subst (λ (g : Field). IsContent T g (one i)) same (h.2, h.3)
content_down T fs n f (many is) e h =
    let same : h.0 ≡ f = cc (h.1, e) in subst (λ (g : Field). IsContent T g (many is)) same (h.2, h.3, h.4)
content_down T fs n f (pairs ps) e h =
    let same : h.0 ≡ f = cc (h.2, e) in subst (λ (g : Field). IsContent T g (pairs ps)) same (h.1, h.3, h.4, h.5, h.6)

content_up : (T : Table) (fs : List Field) (n : ℕ) (f : Field) (c : Content) → field_at fs n ≡ Some f → IsContent T f c → HasContent T fs n c
content_up T fs n f (one i) e h = (f, e, h.0, h.1)
content_up T fs n f (many is) e h = (f, e, h.0, h.1, h.2)
content_up T fs n f (pairs ps) e h = (f, h.0, e, h.1, h.2, h.3, h.4)

false_from_not : (b : Bool) → not b ≡ true → b ≡ false
false_from_not true e = absurd cc
false_from_not false e = refl

free_down : (taken : List Bool) (label : Label) (m : ℕ → ℕ) → IsOneofWithin (length taken) label
    → ((o : ℕ) → cond (get_or taken o false) 1 0 + (membership label o + m o) ≤ 1) → is_free taken label ≡ true
free_down taken Plain m placed h = refl
free_down taken Optional m placed h = refl
free_down taken Repeated m placed h = refl
free_down taken Packed m placed h = refl
free_down taken (Map k) m placed h = refl
free_down taken (Member p) m placed h =
    let self : (p == p) ≡ true = eq-eqb p p refl in
    let at : cond (get_or taken p false) 1 0 + (1 + m p) ≤ 1 = rw self at (h p) in
    elim (get_or taken p false) as (λ (b : Bool). cond b 1 0 + (1 + m p) ≤ 1 → not b ≡ true) [ true ↦ λ le. absurd (omega arith) | false ↦ λ le. refl ] at

taken_down : (taken : List Bool) (label : Label) (m : ℕ → ℕ) → IsOneofWithin (length taken) label
    → ((o : ℕ) → cond (get_or taken o false) 1 0 + (membership label o + m o) ≤ 1) → (o : ℕ)
    → cond (get_or (taken_after taken label) o false) 1 0 + m o ≤ 1
taken_down taken Plain m placed h o = omega (arith, h o)
taken_down taken Optional m placed h o = omega (arith, h o)
taken_down taken Repeated m placed h o = omega (arith, h o)
taken_down taken Packed m placed h o = omega (arith, h o)
taken_down taken (Map k) m placed h o = omega (arith, h o)
taken_down taken (Member p) m placed h o =
    elim (cases_eq p o) [
      | inl same ↦
          let at : cond (get_or taken p false) 1 0 + (1 + m p) ≤ 1 = rw (eq-eqb p p refl) at (h p) in
          let one_now : cond (get_or (set taken p true) p false) 1 0 + m p ≤ 1 = rw (get_or-set_same taken p true false placed) (omega arith) in
          subst (λ (k : ℕ). cond (get_or (set taken p true) k false) 1 0 + m k ≤ 1) same one_now
      | inr other ↦
          let differs : o ≢ p = λ e. other (sym e) in
          rw (get_or-set_other taken p o true false differs) (omega (arith, h o))
    ]

taken_up : (taken : List Bool) (label : Label) (m : ℕ → ℕ) → IsOneofWithin (length taken) label
    → is_free taken label ≡ true → ((o : ℕ) → cond (get_or (taken_after taken label) o false) 1 0 + m o ≤ 1) → (o : ℕ)
    → cond (get_or taken o false) 1 0 + (membership label o + m o) ≤ 1
taken_up taken Plain m placed free h o = omega (arith, h o)
taken_up taken Optional m placed free h o = omega (arith, h o)
taken_up taken Repeated m placed free h o = omega (arith, h o)
taken_up taken Packed m placed free h o = omega (arith, h o)
taken_up taken (Map k) m placed free h o = omega (arith, h o)
taken_up taken (Member p) m placed free h o =
    elim (cases_eq p o) [
      | inl same ↦
          let none_yet : get_or taken p false ≡ false = false_from_not (get_or taken p false) free in
          let one_now : cond true 1 0 + m p ≤ 1 = rw (get_or-set_same taken p true false placed) at (h p) in
          let before : cond (get_or taken p false) 1 0 + (cond (p == p) 1 0 + m p) ≤ 1 = rw (none_yet, eq-eqb p p refl) (omega arith) in
          subst (λ (k : ℕ). cond (get_or taken k false) 1 0 + (cond (p == k) 1 0 + m k) ≤ 1) same before
      | inr other ↦
          let differs : o ≢ p = λ e. other (sym e) in
          let kept : cond (get_or taken o false) 1 0 + m o ≤ 1 = rw (get_or-set_other taken p o true false differs) at (h o) in
          let apart : (p == o) ≡ false = grind arith in
          rw apart (omega arith)
    ]

-- ---- the first field and the suffix

pub rest_down : (T : Table) (fs : List Field) (room last n : ℕ) (taken : List Bool) (f : Field) (c : Content) (t : Node) → field_at fs n ≡ Some f → IsOneofWithin (length taken) f.label
    → IsNormalSuffix T fs room last taken (field n c t) → FirstFits T f room last n taken c × IsNormalSuffix T fs room n (taken_after taken f.label) t
rest_down T fs room last n taken f c t e placed h =
    let ones : (o : ℕ) → cond (get_or taken o false) 1 0 + (membership f.label o + members_in fs o t) ≤ 1 = λ o. rw e at (h.oneofs o) in (
      record {
        above = h.fields.0;
        content = record { content = content_down T fs n f c e h.fields.1; depth = omega (arith, h.depth) };
        free = free_down taken f.label (λ o. members_in fs o t) placed ones;
      },
      record {
        fields = h.fields.2;
        oneofs = taken_down taken f.label (λ o. members_in fs o t) placed ones;
        depth = omega (arith, h.depth);
      },
    )

pub rest_up : (T : Table) (fs : List Field) (room last n : ℕ) (taken : List Bool) (f : Field) (c : Content) (t : Node) → field_at fs n ≡ Some f → IsOneofWithin (length taken) f.label
    → FirstFits T f room last n taken c → IsNormalSuffix T fs room n (taken_after taken f.label) t → IsNormalSuffix T fs room last taken (field n c t)
rest_up T fs room last n taken f c t e placed first rest = record {
  fields = (first.above, content_up T fs n f c e first.content.content, rest.fields);
  oneofs = λ o. rw e (taken_up taken f.label (λ p. members_in fs p t) placed first.free rest.oneofs o);
  depth = omega (arith, first.content.depth, rest.depth);
}

depth_positive : (t : Node) → 0 < depth t
depth_positive no_fields = omega arith
depth_positive (field n c t) = omega (arith, depth_positive t)

pub no_room : (T : Table) (msg : ℕ) (t : Node) → IsNormalWithin T msg 0 t → ⊥
no_room T msg t h = omega (arith, h.depth, depth_positive t)

-- ---- what a message declares of the field with a number

pub found_all : (P : Field → Type 0) (fs : List Field) (n : ℕ) (f : Field) → All P fs → field_at fs n ≡ Some f → P f
found_all P [] n f all e = absurd cc
found_all P (g ∷ gs) n f all e =
    elim (g.number == n) as (λ (b : Bool). cond b (Some g) (field_at gs n) ≡ Some f → P f) [
      | true ↦ λ e. let same : g ≡ f = cc in subst P same (all 0 g (omega arith))
      | false ↦ λ e. found_all P gs n f (λ k d within. all (suc k) d (omega arith)) e
    ] e

pub key_known : (T : Table) (k : Kind) → IsTrue (is_key k) → IsKnown T k
key_known T Int32 h = tt
key_known T Int64 h = tt
key_known T Uint32 h = tt
key_known T Uint64 h = tt
key_known T Sint32 h = tt
key_known T Sint64 h = tt
key_known T TheBool h = tt
key_known T Fixed32 h = tt
key_known T Fixed64 h = tt
key_known T Sfixed32 h = tt
key_known T Sfixed64 h = tt
key_known T Float h = tt
key_known T Double h = tt
key_known T Text h = tt
key_known T Octets h = tt
key_known T (OfMessage i) h = absurd cc
key_known T (Choice i) h = absurd cc

pub kind_known : (T : Table) (m : Message) (n : ℕ) (f : Field) → IsMessage T m → field_at m.fields n ≡ Some f → IsKnown T f.kind
kind_known T m n f ok e = (found_all (IsField T (length m.oneofs)) m.fields n f ok.fields e).kind

pub map_key_known : (T : Table) (m : Message) (n : ℕ) (f : Field) → IsMessage T m → field_at m.fields n ≡ Some f → (k : Kind) → f.label ≡ Map k → IsKnown T k
map_key_known T m n f ok e k is =
    let goes : IsLabelFor (length m.oneofs) (Map k) f.kind =
    subst (λ (l : Label). IsLabelFor (length m.oneofs) l f.kind) is
    (found_all (IsField T (length m.oneofs)) m.fields n f ok.fields e).label in
    key_known T k goes

joined_le : (met all n : ℕ) (l : Label) (Same Next : Type 0) → (Same → all ≤ met + n) → (Next → all ≤ met + 1 + n) → IsNextOneof met l Same Next → all ≤ met + suc n
joined_le met all n Plain Same Next same next h = omega (arith, same h)
joined_le met all n Optional Same Next same next h = omega (arith, same h)
joined_le met all n Repeated Same Next same next h = omega (arith, same h)
joined_le met all n Packed Same Next same next h = omega (arith, same h)
joined_le met all n (Map k) Same Next same next h = omega (arith, same h)
joined_le met all n (Member o) Same Next same next h = elim h [ inl old ↦ omega (arith, same old.1) | inr new ↦ omega (arith, next new.1) ]

pub follow_le : (met all : ℕ) (fs : List Field) → AreOneofsInOrder met all fs → all ≤ met + length fs
follow_le met all [] h = omega (arith, h)
follow_le met all (f ∷ fs) h = joined_le met all (length fs) f.label (AreOneofsInOrder met all fs) (AreOneofsInOrder (met + 1) all fs) (follow_le met all fs) (follow_le (met + 1) all fs) h

placed_below : (n m : ℕ) (l : Label) (k : Kind) → n ≤ m → IsLabelFor n l k → IsOneofWithin m l
placed_below n m Plain k le h = tt
placed_below n m Optional k le h = tt
placed_below n m Repeated k le h = tt
placed_below n m Packed k le h = tt
placed_below n m (Map key) k le h = tt
placed_below n m (Member o) k le h = omega (arith, h)

pub label_placed : (T : Table) (m : Message) (n places : ℕ) (f : Field) → IsMessage T m → field_at m.fields n ≡ Some f → places ≡ 128 → IsOneofWithin places f.label
label_placed T m n places f ok e enough =
    placed_below (length m.oneofs) places f.label f.kind
    (omega (arith, follow_le 0 (length m.oneofs) m.fields ok.oneof_order, ok.few))
    (found_all (IsField T (length m.oneofs)) m.fields n f ok.fields e).label

pub rest_more : (T : Table) (fs : List Field) (room last : ℕ) (taken : List Bool) (f : Field) (items : List (ℕ × FieldValue)) (i : ℕ) (x : ℕ × FieldValue) (All : Type 0)
    → i < length items → x ≡ get_or items i x → field_at fs x.0 ≡ Some f → IsOneofWithin (length taken) f.label
    → last < x.0 → IsContentWithin T f room (content_of x.1) → is_free taken f.label ≡ true
    → All ↔ IsNormalSuffix T fs room last taken (node_of (drop i items)) → All ↔ IsNormalSuffix T fs room x.0 (taken_after taken f.label) (node_of (drop (i + 1) items))
rest_more T fs room last taken f items i x All within at e placed above fits free so_far =
    let both : All ↔ IsNormalSuffix T fs room last taken (field x.0 (content_of x.1) (node_of (drop (i + 1) items))) =
    subst (λ (xs : List (ℕ × FieldValue)). All ↔ IsNormalSuffix T fs room last taken (node_of xs))
    (from_here items i x within at) so_far in (
      λ all. (rest_down T fs room last x.0 taken f (content_of x.1) (node_of (drop (i + 1) items)) e placed (both.0 all)).1,
      λ rest. both.1 (rest_up T fs room last x.0 taken f (content_of x.1) (node_of (drop (i + 1) items)) e placed (record { above = above; content = fits; free = free }) rest),
    )

-- ---- a whole tree

fields_at : (T : Table) (msg : ℕ) (m : Message) → msg < length T.messages → m ≡ get_or T.messages msg m → fields_of T msg ≡ m.fields
fields_at T msg m within at = ap (λ (o : Option Message). unwrap_or (option_map (λ x. x.fields) o) [])
    (slice_get-get_or T.messages msg m within) ∙ ap (λ (x : Message). x.fields) (sym at)

get_or-nothing : (n i : ℕ) → get_or (replicate n false) i false ≡ false
get_or-nothing zero i = refl
get_or-nothing (suc n) zero = refl
get_or-nothing (suc n) (suc i) = get_or-nothing n i

pub whole_down : (T : Table) (msg room n : ℕ) (m : Message) (t : Node) → msg < length T.messages
    → m ≡ get_or T.messages msg m → IsNormalWithin T msg room t → IsNormalSuffix T m.fields room 0 (replicate n false) t
whole_down T msg room n m t within at h =
    subst (λ (fs : List Field). IsNormalSuffix T fs room 0 (replicate n false) t) (fields_at T msg m within at)
    (record { fields = h.fields; oneofs = λ o. let le : cond false 1 0 + members_in (fields_of T msg) o t ≤ 1 = omega (arith, h.oneofs o) in rw (get_or-nothing n o) le; depth = h.depth })

pub whole_up : (T : Table) (msg room n : ℕ) (m : Message) (t : Node) → msg < length T.messages
    → m ≡ get_or T.messages msg m → IsNormalSuffix T m.fields room 0 (replicate n false) t → IsNormalWithin T msg room t
whole_up T msg room n m t within at h =
    let k = subst (λ (fs : List Field). IsNormalSuffix T fs room 0 (replicate n false) t) (sym (fields_at T msg m within at)) h in
    record { fields = k.fields; oneofs = λ o. let le : cond false 1 0 + members_in (fields_of T msg) o t ≤ 1 = rw (get_or-nothing n o) at (k.oneofs o) in omega arith; depth = k.depth }

pub many_is : (T : Table) (f : Field) (room : ℕ) (vs : List Value) (r : Bool) → CanHaveMany f.label → vs ≢ [] → (r ≡ true) ↔ AreItemsWithin T f.kind room (items_of vs)
    → (r ≡ true) ↔ IsContentWithin T f room (many (items_of vs))
many_is T f room [] r takes some both = absurd (some refl)
many_is T f room (v ∷ vs) r takes some both = (
  λ is. let fit = both.0 is in record { content = (takes, λ e. cc, fit.items); depth = fit.depth },
  λ h. both.1 (record { items = h.content.2; depth = h.depth }),
)

pub pairs_is : (T : Table) (f : Field) (room : ℕ) (key : Kind) (ps : List (Value × Value)) (r : Bool)
    → f.label ≡ Map key → ps ≢ [] → ArePairsWithin T key f.kind room (pairs_of ps) → (r ≡ true)
    ↔ AreKeysAscending key (pairs_of ps)
    → (r ≡ true) ↔ IsContentWithin T f room (pairs (pairs_of ps))
pairs_is T f room key [] r is some fit both = absurd (some refl)
pairs_is T f room key (p ∷ ps) r is some fit both = (
  λ e. record { content = (key, is, λ e. cc, fit.pairs, both.0 e); depth = fit.depth },
  λ h. both.1 (let same : h.content.0 ≡ key = cc (h.content.1, is) in subst (λ (k : Kind). AreKeysAscending k (pairs_of (p ∷ ps))) same h.content.4),
)

-- a list whose length isn't 0 has an element
pub has_some : {X : Type 0} (shown xs : List X) (n : ℕ) → shown ≡ xs → length shown ≡ n → false ≡ (n == 0) → xs ≢ []
has_some shown xs n same len test none =
    let zero_long : n ≡ 0 = sym len ∙ ap length (same ∙ none) in
    let passes : (n == 0) ≡ true = eq-eqb n 0 zero_long in
    cc
