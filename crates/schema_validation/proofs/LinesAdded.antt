-- The lines of names, added one after another.
use Rattle.std.proofs.Common.{◌≡◌, ◌≢◌, ℕ, ◌+◌, ◌<◌, ◌≤◌, ◌⊎◌, inl, inr, List, [], ◌∷◌, ◌++◌, zero, suc, length, refl}
use Rattle.std.proofs.Common.{sym, ap, ◌∙◌, subst, arith}
use Rattle.std.specs.Prelude.{Option, Some, None, slice_get, Contains}
use Rattle.std.proofs.lemmas.Bool.{cases_lt}
use Rattle.std.proofs.lemmas.List.{append-nil}
use Rattle.std.proofs.lemmas.List.Elements.{Contains-append_left, Contains-push, Contains-push_cases}
use Rattle.std.proofs.lemmas.Option.{same_Some, slice_get_within}
use Rattle.proto_ast.specs.Order
use Rattle.proto_ast.specs.Together
use Rattle.proto_ast.specs.Order.{its_name}
use Rattle.proto_ast.specs.Together.{DeclIndex, message_decl, field_decl, enum_decl, value_decl, rpc_decl, IsOrdered, IsPartSpan}
use Rattle.proto_ast.specs.declared.file.Span.{Span}
use Rattle.proto_ast.specs.declared.file.MessageDecl.{MessageDecl}
use Rattle.proto_ast.specs.declared.file.EnumDecl.{EnumDecl}
use Rattle.proto_ast.specs.declared.file.ServiceDecl.{ServiceDecl}
use Rattle.proto_ast.specs.Joined.{Joined}
use Rattle.schema_validation.specs.Lengths
use Rattle.schema_validation.specs.Lengths.{IsNameLine, IsMeasuredLine, IsLengthAt, line_entry, class_of, decl_index, part_of, IsEarlierThan, HaveDistinctSpans, HasLinesBefore}

-- ---- declarations with lines

-- the declaration with a class, an index and a part
decl_of : ℕ → ℕ → ℕ → DeclIndex
decl_of zero i zero = message_decl i
decl_of zero i (suc j) = field_decl i j
decl_of (suc zero) i zero = enum_decl i
decl_of (suc zero) i (suc j) = value_decl i j
decl_of (suc (suc c)) i j = rpc_decl i j

back : (F : Joined) (d : DeclIndex) (s : Span) (text : List ℕ) → IsNameLine F d s text
    → decl_of (class_of d) (decl_index d) (part_of d) ≡ d
unfolding decl_of
back F d s text (Lengths.of_message i m at is) = refl
back F d s text (Lengths.of_field i j m f n at fat is e k form) = refl
back F d s text (Lengths.of_enum i e at is) = refl
back F d s text (Lengths.of_value i j e v at vat fits) = refl
back F d s text (Lengths.of_method i j n x r at rat e a b) = refl

-- a declaration that its class, index and part determine
pub data IsOwn : DeclIndex → Type 0 where
  own_message : (i : ℕ) → IsOwn (message_decl i)
  own_field : (i j : ℕ) → IsOwn (field_decl i j)
  own_enum : (i : ℕ) → IsOwn (enum_decl i)
  own_value : (i j : ℕ) → IsOwn (value_decl i j)
  own_rpc : (i j : ℕ) → IsOwn (rpc_decl i j)

own_back : (d : DeclIndex) → IsOwn d → decl_of (class_of d) (decl_index d) (part_of d) ≡ d
unfolding decl_of
own_back d (own_message i) = refl
own_back d (own_field i j) = refl
own_back d (own_enum i) = refl
own_back d (own_value i j) = refl
own_back d (own_rpc i j) = refl

same_decl : (F : Joined) (d e : DeclIndex) (s : Span) (text : List ℕ) → IsOwn d → IsNameLine F e s text
    → class_of e ≡ class_of d → decl_index e ≡ decl_index d → part_of e ≡ part_of d → e ≡ d
same_decl F d e s text own at c p q =
    sym (back F e s text at)
    ∙ ap (λ (n : ℕ). decl_of n (decl_index e) (part_of e)) c
    ∙ ap (λ (n : ℕ). decl_of (class_of d) n (part_of e)) p
    ∙ ap (λ (n : ℕ). decl_of (class_of d) (decl_index d) n) q
    ∙ own_back d own

-- the name of a line is in the text
pub line_stands : (F : Joined) (d : DeclIndex) (s : Span) (text : List ℕ) → IsNameLine F d s text
    → IsPartSpan F s d its_name
line_stands F d s text (Lengths.of_message i m at is) = Together.message i m at refl
line_stands F d s text (Lengths.of_field i j m f n at fat is e k form) =
    Together.field i j m f at fat (Order.field_name refl)
line_stands F d s text (Lengths.of_enum i e at is) = Together.enum i e at refl
line_stands F d s text (Lengths.of_value i j e v at vat fits) = Together.value i j e v at vat (Order.value_name refl)
line_stands F d s text (Lengths.of_method i j n x r at rat e a b) = Together.rpc i j x r at rat (Order.rpc_name refl)

-- ---- the order

before_next : (c i j : ℕ) (d : DeclIndex) → IsEarlierThan c i (j + 1) d
    → IsEarlierThan c i j d ⊎ ((class_of d ≡ c) × (decl_index d ≡ i) × (part_of d ≡ j))
before_next c i j d (inl l) = inl (inl l)
before_next c i j d (inr p) = elim p.1 [
  | inl l ↦ inl (inr (p.0, inl l))
  | inr q ↦
      let l : part_of d < j + 1 = q.1 in
      elim (cases_lt (part_of d) j) [
        | inl k ↦ inl (inr (p.0, inr (q.0, k)))
        | inr k ↦ inr (p.0, q.0, omega arith)
      ]
]

next_before : (c i j : ℕ) (d : DeclIndex) → IsEarlierThan c i j d → IsEarlierThan c i (j + 1) d
next_before c i j d (inl l) = inl l
next_before c i j d (inr p) = elim p.1 [
  | inl l ↦ inr (p.0, inl l)
  | inr q ↦ inr (p.0, inr (q.0, (let l : part_of d < j = q.1 in omega arith)))
]

own_before : (c i j : ℕ) (d : DeclIndex) → class_of d ≡ c → decl_index d ≡ i → part_of d ≡ j → IsEarlierThan c i (j + 1) d
own_before c i j d a b e = inr (a, inr (b, omega arith))

isnt_before : (c i j : ℕ) (d : DeclIndex) → class_of d ≡ c → decl_index d ≡ i → part_of d ≡ j → IsEarlierThan c i j d → ⊥
isnt_before c i j d a b e (inl l) = omega arith
isnt_before c i j d a b e (inr p) = elim p.1 [
  | inl l ↦ omega arith
  | inr q ↦ let l : part_of d < j = q.1 in omega arith
]

row_before : (c i j : ℕ) (d : DeclIndex) → IsEarlierThan c i j d → IsEarlierThan c (i + 1) 0 d
row_before c i j d (inl l) = inl l
row_before c i j d (inr p) = elim p.1 [
  | inl l ↦ inr (p.0, inl (omega arith))
  | inr q ↦ let e : decl_index d ≡ i = q.0 in inr (p.0, inl (omega arith))
]

before_row : (c i j : ℕ) (d : DeclIndex) → IsEarlierThan c (i + 1) 0 d
    → IsEarlierThan c i j d ⊎ ((class_of d ≡ c) × (decl_index d ≡ i) × (j ≤ part_of d))
before_row c i j d (inl l) = inl (inl l)
before_row c i j d (inr p) = elim p.1 [
  | inl l ↦ elim (cases_lt (decl_index d) i) [
    | inl k ↦ inl (inr (p.0, inl k))
    | inr k ↦ elim (cases_lt (part_of d) j) [
      | inl m ↦ inl (inr (p.0, inr (omega arith, m)))
      | inr m ↦ inr (p.0, omega arith, m)
    ]
  ]
  | inr q ↦ absurd (let l : part_of d < 0 = q.1 in omega arith)
]

class_before : (c i j : ℕ) (d : DeclIndex) → IsEarlierThan c i j d → IsEarlierThan (c + 1) 0 0 d
class_before c i j d (inl l) = inl (omega arith)
class_before c i j d (inr p) = let e : class_of d ≡ c = p.0 in inl (omega arith)

before_class : (c i : ℕ) (d : DeclIndex) → IsEarlierThan (c + 1) 0 0 d
    → IsEarlierThan c i 0 d ⊎ ((class_of d ≡ c) × (i ≤ decl_index d))
before_class c i d (inl l) = elim (cases_lt (class_of d) c) [
  | inl k ↦ inl (inl k)
  | inr k ↦ elim (cases_lt (decl_index d) i) [
    | inl m ↦ inl (inr (omega arith, inl m))
    | inr m ↦ inr (omega arith, m)
  ]
]
before_class c i d (inr p) = elim p.1 [
  | inl l ↦ absurd (omega arith)
  | inr q ↦ absurd (let l : part_of d < 0 = q.1 in omega arith)
]

-- ---- distinct names

none_in : {X : Type 0} (x : X) → Contains [] x → ⊥
none_in x c = let l : c.0 < 0 = c.1 in omega arith

here : {X : Type 0} (x : X) (xs : List X) → Contains (x ∷ xs) x
here x xs = (0, omega arith, refl)

later : {X : Type 0} (y x : X) (xs : List X) → Contains xs x → Contains (y ∷ xs) x
later y x xs c = (suc c.0, (let l : c.0 < length xs = c.1 in omega arith), c.2)

apart_push : (xs : List (Span × ℕ)) (x : Span × ℕ) → HaveDistinctSpans xs
    → ((y : Span × ℕ) → Contains xs y → y.0.start ≢ x.0.start) → HaveDistinctSpans (xs ++ x ∷ [])
apart_push [] x a h = (λ y c. absurd (none_in y c), tt)
apart_push (z ∷ zs) x a h = (
  λ y c. elim (Contains-push_cases zs x y c) [
    | inl k ↦ a.0 y k
    | inr k ↦ λ e. h z (here z zs) (e ∙ ap (λ (w : Span × ℕ). w.0.start) (sym k))
  ],
  apart_push zs x a.1 (λ y c. h y (later z y zs c)),
)

-- ---- added lines

module _ (F : Joined) (c i j : ℕ) (lines : List (Span × ℕ)) where
  -- these are the lines up to another declaration, too
  covers_as : (a b e : ℕ) → HasLinesBefore F c i j lines → ((d : DeclIndex) → IsEarlierThan c i j d → IsEarlierThan a b e d)
      → ((d : DeclIndex) (s : Span) (text : List ℕ) → IsNameLine F d s text → IsEarlierThan a b e d → IsEarlierThan c i j d)
      → HasLinesBefore F a b e lines
  covers_as a b e v up down = record {
    sound = λ x k.
        let o = v.sound x k in
        (o.0, up o.0 o.1, o.2);
    whole = λ d s text before at. v.whole d s text (down d s text at before) at;
    once = v.once;
  }

  pub covers_row : HasLinesBefore F c i j lines
      → ((d : DeclIndex) (s : Span) (text : List ℕ) → IsNameLine F d s text → class_of d ≡ c → decl_index d ≡ i
      → j ≤ part_of d → ⊥) → HasLinesBefore F c (i + 1) 0 lines
  covers_row v none =
      covers_as c (i + 1) 0 v (row_before c i j) (λ d s text at before. elim (before_row c i j d before) [
        | inl k ↦ k
        | inr k ↦ absurd (none d s text at k.0 k.1 k.2)
      ])

  -- a declaration without a line
  covers_missing : (d : DeclIndex) → IsOwn d → class_of d ≡ c → decl_index d ≡ i → part_of d ≡ j
      → ((s : Span) (text : List ℕ) → IsNameLine F d s text → ⊥) → HasLinesBefore F c i j lines → HasLinesBefore F c i (j + 1) lines
  covers_missing d own a b e none v =
      covers_as c i (j + 1) v (next_before c i j) (λ x s text at before. elim (before_next c i j x before) [
        | inl k ↦ k
        | inr k ↦
            let same : x ≡ d = same_decl F d x s text own at (k.0 ∙ sym a) (k.1 ∙ sym b) (k.2 ∙ sym e) in
            absurd (none s text (subst (λ (y : DeclIndex). IsNameLine F y s text) same at))
      ])

  -- a declaration with its line
  covers_more : IsOrdered F → (d : DeclIndex) (x : Span × ℕ) → IsOwn d → class_of d ≡ c → decl_index d ≡ i
      → part_of d ≡ j → IsMeasuredLine F d x → HasLinesBefore F c i j lines → HasLinesBefore F c i (j + 1) (lines ++ x ∷ [])
  covers_more order d x own a b e line v = record {
    sound = λ y k. elim (Contains-push_cases lines x y k) [
      | inl m ↦
          let o = v.sound y m in
          (o.0, next_before c i j o.0 o.1, o.2)
      | inr m ↦ (d, own_before c i j d a b e, subst (IsMeasuredLine F d) m line)
    ];
    whole = λ y s text before at. elim (before_next c i j y before) [
      | inl m ↦
          let o = v.whole y s text m at in
          (o.0, Contains-append_left lines (x ∷ []) o.0 o.1, o.2)
      | inr m ↦
          let same : y ≡ d = same_decl F d y s text own at (m.0 ∙ sym a) (m.1 ∙ sym b) (m.2 ∙ sym e) in
          (x, Contains-push lines x, subst (λ (z : DeclIndex). IsMeasuredLine F z x) (sym same) line)
    ];
    once = apart_push lines x v.once (λ y k h.
        let o = v.sound y k in
        let same : o.0 ≡ d =
        (order.apart o.0 d its_name its_name y.0 x.0 (line_stands F o.0 y.0 o.2.text o.2.at)
        (line_stands F d x.0 line.text line.at) h).0 in
        isnt_before c i j d a b e (subst (IsEarlierThan c i j) same o.1));
  }

  -- the next declaration, with a line or without one
  pub covers_add : IsOrdered F → (d : DeclIndex) (span : Span) (n : Option ℕ) → IsOwn d → class_of d ≡ c
      → decl_index d ≡ i → part_of d ≡ j → IsLengthAt F d span n → HasLinesBefore F c i j lines
      → HasLinesBefore F c i (j + 1) (lines ++ line_entry span n)
  covers_add order d span None own a b e is v =
      subst (HasLinesBefore F c i (j + 1)) (sym (append-nil lines)) (covers_missing d own a b e is v)
  covers_add order d span (Some n) own a b e is v = covers_more order d (span, n) own a b e is v

pub covers_class : (F : Joined) (c i : ℕ) (lines : List (Span × ℕ)) → HasLinesBefore F c i 0 lines
    → ((d : DeclIndex) (s : Span) (text : List ℕ) → IsNameLine F d s text → class_of d ≡ c → i ≤ decl_index d → ⊥)
    → HasLinesBefore F (c + 1) 0 0 lines
covers_class F c i lines v none =
    covers_as F c i 0 lines (c + 1) 0 0 v (class_before c i 0) (λ d s text at before. elim (before_class c i d before) [
      | inl k ↦ k
      | inr k ↦ absurd (none d s text at k.0 k.1)
    ])

-- ---- no further lines

module _ (F : Joined) where
  pub no_field : (i : ℕ) (m : MessageDecl) (k : ℕ) → slice_get F.messages i ≡ Some m → length m.fields ≤ k
      → (d : DeclIndex) (s : Span) (text : List ℕ) → IsNameLine F d s text → class_of d ≡ 0 → decl_index d ≡ i
      → k + 1 ≤ part_of d → ⊥
  no_field i m k at l d s text (Lengths.of_message x y xat is) c p q = omega arith
  no_field i m k at l d s text (Lengths.of_field x j y f n xat fat is e num form) c p q =
      let same : y ≡ m = same_Some y m (sym xat ∙ ap (λ (z : ℕ). slice_get F.messages z) p ∙ at) in
      let in_m : slice_get m.fields j ≡ Some f = subst (λ (z : MessageDecl). slice_get z.fields j ≡ Some f) same fat in
      omega (arith, slice_get_within m.fields j f in_m)
  no_field i m k at l d s text (Lengths.of_enum x e xat is) c p q = omega arith
  no_field i m k at l d s text (Lengths.of_value x j e v xat vat fits) c p q = omega arith
  no_field i m k at l d s text (Lengths.of_method x j n y r xat rat e a b) c p q = omega arith

  pub no_value : (i : ℕ) (x : EnumDecl) (k : ℕ) → slice_get F.enums i ≡ Some x → length x.values ≤ k
      → (d : DeclIndex) (s : Span) (text : List ℕ) → IsNameLine F d s text → class_of d ≡ 1 → decl_index d ≡ i
      → k + 1 ≤ part_of d → ⊥
  no_value i x k at l d s text (Lengths.of_message y m yat is) c p q = omega arith
  no_value i x k at l d s text (Lengths.of_field y j m f n yat fat is e num form) c p q = omega arith
  no_value i x k at l d s text (Lengths.of_enum y e yat is) c p q = omega arith
  no_value i x k at l d s text (Lengths.of_value y j e v yat vat fits) c p q =
      let same : e ≡ x = same_Some e x (sym yat ∙ ap (λ (z : ℕ). slice_get F.enums z) p ∙ at) in
      let in_x : slice_get x.values j ≡ Some v = subst (λ (z : EnumDecl). slice_get z.values j ≡ Some v) same vat in
      omega (arith, slice_get_within x.values j v in_x)
  no_value i x k at l d s text (Lengths.of_method y j n z r yat rat e a b) c p q = omega arith

  pub no_rpc : (i : ℕ) (x : ServiceDecl) (k : ℕ) → slice_get F.services i ≡ Some x → length x.rpcs ≤ k
      → (d : DeclIndex) (s : Span) (text : List ℕ) → IsNameLine F d s text → class_of d ≡ 2 → decl_index d ≡ i
      → k ≤ part_of d → ⊥
  no_rpc i x k at l d s text (Lengths.of_message y m yat is) c p q = omega arith
  no_rpc i x k at l d s text (Lengths.of_field y j m f n yat fat is e num form) c p q = omega arith
  no_rpc i x k at l d s text (Lengths.of_enum y e yat is) c p q = omega arith
  no_rpc i x k at l d s text (Lengths.of_value y j e v yat vat fits) c p q = omega arith
  no_rpc i x k at l d s text (Lengths.of_method y j n z r yat rat e a b) c p q =
      let same : z ≡ x = same_Some z x (sym yat ∙ ap (λ (w : ℕ). slice_get F.services w) p ∙ at) in
      let in_x : slice_get x.rpcs j ≡ Some r = subst (λ (w : ServiceDecl). slice_get w.rpcs j ≡ Some r) same rat in
      omega (arith, slice_get_within x.rpcs j r in_x)

  pub no_message : (i : ℕ) → length F.messages ≤ i → (d : DeclIndex) (s : Span) (text : List ℕ) → IsNameLine F d s text
      → class_of d ≡ 0 → i ≤ decl_index d → ⊥
  no_message i l d s text (Lengths.of_message x m at is) c p = omega (arith, slice_get_within F.messages x m at)
  no_message i l d s text (Lengths.of_field x j m f n at fat is e num form) c p =
      omega (arith, slice_get_within F.messages x m at)
  no_message i l d s text (Lengths.of_enum x e at is) c p = omega arith
  no_message i l d s text (Lengths.of_value x j e v at vat fits) c p = omega arith
  no_message i l d s text (Lengths.of_method x j n y r at rat e a b) c p = omega arith

  pub no_enum : (i : ℕ) → length F.enums ≤ i → (d : DeclIndex) (s : Span) (text : List ℕ) → IsNameLine F d s text
      → class_of d ≡ 1 → i ≤ decl_index d → ⊥
  no_enum i l d s text (Lengths.of_message x m at is) c p = omega arith
  no_enum i l d s text (Lengths.of_field x j m f n at fat is e num form) c p = omega arith
  no_enum i l d s text (Lengths.of_enum x e at is) c p = omega (arith, slice_get_within F.enums x e at)
  no_enum i l d s text (Lengths.of_value x j e v at vat fits) c p = omega (arith, slice_get_within F.enums x e at)
  no_enum i l d s text (Lengths.of_method x j n y r at rat e a b) c p = omega arith

  pub no_service : (i : ℕ) → length F.services ≤ i → (d : DeclIndex) (s : Span) (text : List ℕ) → IsNameLine F d s text
      → class_of d ≡ 2 → i ≤ decl_index d → ⊥
  no_service i l d s text (Lengths.of_message x m at is) c p = omega arith
  no_service i l d s text (Lengths.of_field x j m f n at fat is e num form) c p = omega arith
  no_service i l d s text (Lengths.of_enum x e at is) c p = omega arith
  no_service i l d s text (Lengths.of_value x j e v at vat fits) c p = omega arith
  no_service i l d s text (Lengths.of_method x j n y r at rat e a b) c p =
      omega (arith, slice_get_within F.services x y at)
