-- When the fields at the start of a stream have a fault, and that a fault stays.
use Rattle.std.proofs.Common.{◌≡◌, ℕ, ◌+◌, ◌<◌, ◌≤◌, List, ◌++◌, length, take, drop, ◌⊎◌, inl, inr, Option, Some}
use Rattle.std.proofs.Common.{None, refl, sym, ap, subst, ◌∙◌, arith, length-append, min}
use Rattle.std.proofs.Math.ListN.{get_or-append}
use Rattle.std.proofs.lemmas.Bool.{cases_lt, cases_eq}
use Rattle.std.proofs.lemmas.List.{get_or-take, length-take, take-append-drop}
use Rattle.byteorder.specs.Numbers.{big_from-append, big_from-take}
use Rattle.frame_transport.specs.Frames.{IsKind, HasVersion, IsFaultAt, long, no_kind, no_version, HasHeaderFault, length_field, kind_field, version_field}
use Rattle.frame_transport.specs.declared.fault.FeedFault.{FeedFault}
use Rattle.frame_transport.specs.declared.fault.FeedFault.TheVariants.{Version, Kind, TooLong, Memory}

-- ---- whether there is one

kind_or : (kind : ℕ) → IsKind kind ⊎ (IsKind kind → ⊥)
kind_or kind = elim (cases_lt kind 1) [
  | inl none ↦ inr (λ is. omega (arith, none, is.0))
  | inr least ↦ elim (cases_lt 3 kind) [
    | inl more ↦ inr (λ is. omega (arith, more, is.1))
    | inr most ↦ inl (least, most)
  ]
]

version_or : (kind version : ℕ) → HasVersion kind version ⊎ (HasVersion kind version → ⊥)
version_or kind version = elim (cases_eq version 1) [
  | inl one ↦ inl (inl one)
  | inr other ↦ elim (cases_eq kind 3) [
    | inr no_hello ↦ inr (λ has. elim has [ inl one ↦ other one | inr two ↦ no_hello two.0 ])
    | inl hello ↦ elim (cases_eq version 2) [
      | inl two ↦ inl (inr (hello, two))
      | inr neither ↦ inr (λ has. elim has [ inl one ↦ other one | inr two ↦ neither two.1 ])
    ]
  ]
]

-- before a field is complete, it isn't at fault
pub none_before_length : (place : ℕ) (bs : List ℕ) → length bs < 4 → (fault : FeedFault) → IsFaultAt place bs fault → ⊥
none_before_length place bs short fault (long there large is) = omega (arith, short, there)
none_before_length place bs short fault (no_kind there small wrong is) = omega (arith, short, there)
none_before_length place bs short fault (no_version there small kind wrong is) = omega (arith, short, there)

pub none_before_kind : (place : ℕ) (bs : List ℕ) → length bs < 5 → length_field bs ≤ 262144 → (fault : FeedFault) → IsFaultAt place bs fault → ⊥
none_before_kind place bs short size fault (long there large is) = omega (arith, size, large)
none_before_kind place bs short size fault (no_kind there small wrong is) = omega (arith, short, there)
none_before_kind place bs short size fault (no_version there small kind wrong is) = omega (arith, short, there)

pub none_before_version : (place : ℕ) (bs : List ℕ) → length bs < 6 → length_field bs ≤ 262144 → IsKind (kind_field bs) → (fault : FeedFault) → IsFaultAt place bs fault → ⊥
none_before_version place bs short size known fault (long there large is) = omega (arith, size, large)
none_before_version place bs short size known fault (no_kind there small wrong is) = wrong known
none_before_version place bs short size known fault (no_version there small kind wrong is) = omega (arith, short, there)

-- fields without a fault
pub none_of_fields : (place : ℕ) (bs : List ℕ) → length_field bs ≤ 262144 → IsKind (kind_field bs) → HasVersion (kind_field bs) (version_field bs)
    → (fault : FeedFault) → IsFaultAt place bs fault → ⊥
none_of_fields place bs size known version fault (long there large is) = omega (arith, size, large)
none_of_fields place bs size known version fault (no_kind there small wrong is) = wrong known
none_of_fields place bs size known version fault (no_version there small kind wrong is) = wrong version

-- bytes have a fault, or none so far
pub fault_or_none : (place : ℕ) (bs : List ℕ) → (fault : Option FeedFault) × HasHeaderFault place bs fault
fault_or_none place bs = elim (cases_lt (length bs) 4) [
  | inl short ↦ (None, none_before_length place bs short)
  | inr there ↦ elim (cases_lt 262144 (length_field bs)) [
    | inl large ↦ (Some (TooLong place (length_field bs)), long there large refl)
    | inr small ↦ elim (cases_lt (length bs) 5) [
      | inl short ↦ (None, none_before_kind place bs short small)
      | inr there ↦ elim (kind_or (kind_field bs)) [
        | inr wrong ↦ (Some (Kind (place + 4) (kind_field bs)), no_kind there small wrong refl)
        | inl known ↦ elim (cases_lt (length bs) 6) [
          | inl short ↦ (None, none_before_version place bs short small known)
          | inr there ↦ elim (version_or (kind_field bs) (version_field bs)) [
            | inl version ↦ (None, none_of_fields place bs small known version)
            | inr wrong ↦ (Some (Version (place + 5) (version_field bs)), no_version there small known wrong refl)
          ]
        ]
      ]
    ]
  ]
]

-- facts about six bytes without a fault
pub no_fault : (place : ℕ) (bs : List ℕ) → 6 ≤ length bs → HasHeaderFault place bs None
    → (length_field bs ≤ 262144) × IsKind (kind_field bs) × HasVersion (kind_field bs) (version_field bs)
no_fault place bs there none = elim (cases_lt 262144 (length_field bs)) [
  | inl large ↦ absurd (none (TooLong place (length_field bs)) (long (omega (arith, there)) large refl))
  | inr small ↦ elim (kind_or (kind_field bs)) [
    | inr wrong ↦ absurd (none (Kind (place + 4) (kind_field bs)) (no_kind (omega (arith, there)) small wrong refl))
    | inl known ↦ elim (version_or (kind_field bs) (version_field bs)) [
      | inr wrong ↦ absurd (none (Version (place + 5) (version_field bs)) (no_version there small known wrong refl))
      | inl version ↦ (small, known, version)
    ]
  ]
]

-- ---- at most one

pub one_fault : (place : ℕ) (bs : List ℕ) (a b : FeedFault) → IsFaultAt place bs a → IsFaultAt place bs b → a ≡ b
one_fault place bs a b (long there large is) (long there' large' is') = is ∙ sym is'
one_fault place bs a b (long there large is) (no_kind there' small wrong is') = absurd (omega (arith, large, small))
one_fault place bs a b (long there large is) (no_version there' small known wrong is') = absurd (omega (arith, large, small))
one_fault place bs a b (no_kind there small wrong is) (long there' large is') = absurd (omega (arith, large, small))
one_fault place bs a b (no_kind there small wrong is) (no_kind there' small' wrong' is') = is ∙ sym is'
one_fault place bs a b (no_kind there small wrong is) (no_version there' small' known wrong' is') = absurd (wrong known)
one_fault place bs a b (no_version there small known wrong is) (long there' large is') = absurd (omega (arith, large, small))
one_fault place bs a b (no_version there small known wrong is) (no_kind there' small' wrong' is') = absurd (wrong' known)
one_fault place bs a b (no_version there small known wrong is) (no_version there' small' known' wrong' is') = is ∙ sym is'

pub one_or_none : (place : ℕ) (bs : List ℕ) (a b : Option FeedFault) → HasHeaderFault place bs a → HasHeaderFault place bs b → a ≡ b
one_or_none place bs None None p q = refl
one_or_none place bs None (Some b) p q = absurd (p b q)
one_or_none place bs (Some a) None p q = absurd (q a p)
one_or_none place bs (Some a) (Some b) p q = ap Some (one_fault place bs a b p q)

-- ---- a fault stays

pub length_in-append : (bs more : List ℕ) → 4 ≤ length bs → length_field (bs ++ more) ≡ length_field bs
unfolding length_field
length_in-append bs more h = big_from-append 4 bs more h

pub length_in-take : (n : ℕ) (bs : List ℕ) → 4 ≤ n → length_field (take n bs) ≡ length_field bs
unfolding length_field
length_in-take n bs h = big_from-take 0 4 n bs h

-- bytes whose fields are those of others, as far as these are complete, have their fault
carried : (place : ℕ) (bs cs : List ℕ) (fault : FeedFault) → (4 ≤ length bs → 4 ≤ length cs) → (5 ≤ length bs → 5 ≤ length cs) → (6 ≤ length bs → 6 ≤ length cs)
    → (4 ≤ length bs → length_field bs ≡ length_field cs) → (5 ≤ length bs → kind_field bs ≡ kind_field cs) → (6 ≤ length bs → version_field bs ≡ version_field cs)
    → IsFaultAt place bs fault → IsFaultAt place cs fault
carried place bs cs fault a b c size kind version (long there large is) =
    long (a there) (subst (λ (n : ℕ). 262144 < n) (size there) large) (is ∙ ap (TooLong place) (size there))
carried place bs cs fault a b c size kind version (no_kind there small wrong is) =
    no_kind (b there) (subst (λ (n : ℕ). n ≤ 262144) (size (omega (arith, there))) small)
    (subst (λ (n : ℕ). IsKind n → ⊥) (kind there) wrong)
    (is ∙ ap (Kind (place + 4)) (kind there))
carried place bs cs fault a b c size kind version (no_version there small known wrong is) =
    let k : kind_field bs ≡ kind_field cs = kind (omega (arith, there)) in
    let v : version_field bs ≡ version_field cs = version there in
    no_version (c there) (subst (λ (n : ℕ). n ≤ 262144) (size (omega (arith, there))) small)
    (subst IsKind k known)
    (subst (λ (n : ℕ). HasVersion n (version_field cs) → ⊥) k (subst (λ (n : ℕ). HasVersion (kind_field bs) n → ⊥) v wrong))
    (is ∙ ap (Version (place + 5)) v)

-- a fault stays whatever follows in the stream
pub fault-append : (place : ℕ) (bs more : List ℕ) (fault : FeedFault) → IsFaultAt place bs fault → IsFaultAt place (bs ++ more) fault
fault-append place bs more fault h =
    let len : length (bs ++ more) ≡ length bs + length more = length-append bs more in
    carried place bs (bs ++ more) fault (λ l. omega (arith, l, len)) (λ l. omega (arith, l, len)) (λ l. omega (arith, l, len))
    (λ l. sym (length_in-append bs more l))
    (λ l. sym (get_or-append bs more 0 4 (omega (arith, l))))
    (λ l. sym (get_or-append bs more 0 5 (omega (arith, l))))
    h

-- and the first six bytes decide
pub fault-of_take : (place n : ℕ) (bs : List ℕ) (fault : FeedFault) → IsFaultAt place (take n bs) fault → IsFaultAt place bs fault
fault-of_take place n bs fault h = subst (λ (cs : List ℕ). IsFaultAt place cs fault) (take-append-drop n bs) (fault-append place (take n bs) (drop n bs) fault h)

pub fault-take : (place n : ℕ) (bs : List ℕ) (fault : FeedFault) → 6 ≤ n → IsFaultAt place bs fault → IsFaultAt place (take n bs) fault
fault-take place n bs fault h is =
    let len : length (take n bs) ≡ min n (length bs) = length-take n bs in
    carried place bs (take n bs) fault (λ l. omega (arith, l, len, h)) (λ l. omega (arith, l, len, h)) (λ l. omega (arith, l, len, h))
    (λ l. sym (length_in-take n bs (omega (arith, h))))
    (λ l. sym (get_or-take n bs 4 0 (omega (arith, h))))
    (λ l. sym (get_or-take n bs 5 0 (omega (arith, h))))
    is

pub has-of_take : (place n : ℕ) (bs : List ℕ) (fault : Option FeedFault) → 6 ≤ n → HasHeaderFault place (take n bs) fault → HasHeaderFault place bs fault
has-of_take place n bs (Some fault) h is = fault-of_take place n bs fault is
has-of_take place n bs None h none = λ fault is. none fault (fault-take place n bs fault h is)

pub has-take : (place n : ℕ) (bs : List ℕ) (fault : Option FeedFault) → 6 ≤ n → HasHeaderFault place bs fault → HasHeaderFault place (take n bs) fault
has-take place n bs (Some fault) h is = fault-take place n bs fault h is
has-take place n bs None h none = λ fault is. none fault (fault-of_take place n bs fault is)

-- the fault of the same bytes at the same offset
pub has_at : (place place' : ℕ) (bs cs : List ℕ) (fault : Option FeedFault) → place ≡ place' → bs ≡ cs → HasHeaderFault place bs fault → HasHeaderFault place' cs fault
has_at place place' bs cs fault p e h = subst (λ (n : ℕ). HasHeaderFault n cs fault) p (subst (λ (xs : List ℕ). HasHeaderFault place xs fault) e h)

-- `Memory` is no fault of a stream
pub not_memory : (place : ℕ) (bs : List ℕ) → IsFaultAt place bs Memory → ⊥
not_memory place bs (long there large is) = cc
not_memory place bs (no_kind there small wrong is) = cc
not_memory place bs (no_version there small known wrong is) = cc
