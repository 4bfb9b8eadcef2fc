-- The records that count leave each oneof at most one member.
use Rattle.std.proofs.Common.{◌≡◌, ◌≢◌, ℕ, ◌+◌, ◌<◌, ◌≤◌, ◌⊎◌, ◌==◌, ◌&&◌, ◌||◌, List, [], ◌∷◌, Option, Some, None}
use Rattle.std.proofs.Common.{Bool, true, false, not, cond, refl, ap, sym, subst, ◌∙◌, arith, inl, inr, ⊎_elim}
use Rattle.std.proofs.Common.{option_map, unwrap_or}
use Rattle.std.proofs.lemmas.Bool.Decides.{nat_tests, eqb_tells}
use Rattle.std.proofs.lemmas.Bool.{eq-eqb}
use Rattle.mrpc_table.specs.Node.{Node, no_fields, field, Content}
use Rattle.mrpc_table.specs.Normal.{field_at, membership, members_in}
use Rattle.mrpc_table.specs.declared.table.Label.{Label}
use Rattle.mrpc_table.specs.declared.table.Label.TheVariants.{Plain, Optional, Repeated, Packed, Map, Member}
use Rattle.mrpc_table.specs.declared.table.Field.{Field}
use Rattle.wire_decode.specs.Merged.{contents_of, field_content, with_fields, is_overtaken, counted_records}
use Rattle.wire_decode.specs.Contents.{with_content}
use Rattle.wire_decode.specs.Oneofs.{oneof_of, oneof_at, are_same_oneof, are_rivals}
use Rattle.wire_decode.proofs.Adding.{contents-other}
use Rattle.wire_decode.proofs.Merging.{content-none}
use Rattle.wire_decode.proofs.Oneofs.{oneof-found}
use Rattle.wire_decode.proofs.UsableTables.{AreFieldsFrom, IsRest, rest-first, rest-more}

-- no record of another member follows one that counts
abbrev pub HasNoRivals : List Field → Node → Type 0
HasNoRivals fs no_fields = Unit {0}
HasNoRivals fs (field n c t) = (is_overtaken fs n t ≡ false) × HasNoRivals fs t

pub or-parts : (a b : Bool) → (a || b) ≡ false → (a ≡ false) × (b ≡ false)
or-parts true b h = absurd (cc)
or-parts false b h = (refl, h)

fewer-go : (fs : List Field) (n m : ℕ) (c : Content) (u : Node) (b : Bool) → are_rivals fs n m ≡ false
    → is_overtaken fs n u ≡ false → is_overtaken fs n (cond b u (field m c u)) ≡ false
fewer-go fs n m c u true a h = h
fewer-go fs n m c u false a h = ap (λ x. x || is_overtaken fs n u) a ∙ h

-- a record that isn't overtaken by all records isn't overtaken by those that count
fewer-overtake : (fs : List Field) (n : ℕ) (t : Node) → is_overtaken fs n t ≡ false → is_overtaken fs n (counted_records fs t) ≡ false
fewer-overtake fs n no_fields h = refl
fewer-overtake fs n (field m c t) h =
    let parts = or-parts (are_rivals fs n m) (is_overtaken fs n t) h in
    fewer-go fs n m c (counted_records fs t) (is_overtaken fs m t) parts.0 (fewer-overtake fs n t parts.1)

counted-go : (fs : List Field) (n : ℕ) (c : Content) (t u : Node) (b : Bool) → is_overtaken fs n t ≡ b
    → (is_overtaken fs n t ≡ false → is_overtaken fs n u ≡ false) → HasNoRivals fs u
    → HasNoRivals fs (cond b u (field n c u))
counted-go fs n c t u true e fewer h = h
counted-go fs n c t u false e fewer h = (fewer e, h)

pub counted-no_rivals : (fs : List Field) (t : Node) → HasNoRivals fs (counted_records fs t)
counted-no_rivals fs no_fields = tt
counted-no_rivals fs (field n c t) = counted-go fs n c t (counted_records fs t) (is_overtaken fs n t) refl (fewer-overtake fs n t) (counted-no_rivals fs t)

-- a rival has no later record
none-behind : (fs : List Field) (n m : ℕ) (t : Node) → are_rivals fs n m ≡ true → is_overtaken fs n t ≡ false → contents_of m t ≡ []
none-behind fs n m no_fields rivals h = refl
none-behind fs n m (field k c t) rivals h =
    let parts = or-parts (are_rivals fs n k) (is_overtaken fs n t) h in
    ⊎_elim
    (λ s. absurd (let bad : true ≡ false = sym rivals ∙ sym (ap (are_rivals fs n) s.1) ∙ parts.0 in cc))
    (λ s. contents-other m k c t (λ e. s.1 (sym e)) ∙ none-behind fs n m t rivals parts.1)
    (eqb_tells k m)

-- one of two rivals has no record
pub rival-none : (fs : List Field) (n m : ℕ) (t : Node) → n ≢ m → are_rivals fs n m ≡ true → are_rivals fs m n ≡ true
    → HasNoRivals fs t → contents_of n t ≢ [] → contents_of m t ≡ []
rival-none fs n m no_fields differ a b h some = refl
rival-none fs n m (field k c t) differ a b h some =
    ⊎_elim
    (λ s.
    let behind : is_overtaken fs n t ≡ false = subst (λ (x : ℕ). is_overtaken fs x t ≡ false) s.1 h.0 in
    contents-other m k c t (λ e. differ (sym s.1 ∙ sym e)) ∙ none-behind fs n m t a behind)
    (λ s.
    let here : contents_of n (field k c t) ≡ contents_of n t = contents-other n k c t (λ e. s.1 (sym e)) in
    ⊎_elim
    (λ r. let behind : is_overtaken fs m t ≡ false = subst (λ (x : ℕ). is_overtaken fs x t ≡ false) r.1 h.0 in absurd (some (here ∙ none-behind fs m n t b behind)))
    (λ r. contents-other m k c t (λ e. r.1 (sym e)) ∙ rival-none fs n m t differ a b h.1 (λ e. some (here ∙ e)))
    (eqb_tells k m))
    (eqb_tells k n)

not-same : (m n : ℕ) → m ≢ n → not (m == n) ≡ true
not-same m n h = grind (arith, nat_tests)

-- two members of one oneof are rivals
pub members-rival : (fs : List Field) (n m o : ℕ) → n ≢ m → oneof_at fs n ≡ Some o → oneof_at fs m ≡ Some o → are_rivals fs n m ≡ true
members-rival fs n m o differ e f =
    ap (λ x. not (m == n) && are_same_oneof x (oneof_at fs m)) e ∙ ap (λ x. not (m == n) && are_same_oneof (Some o) x) f
    ∙ ap (λ b. b && (o == o)) (not-same m n (λ z. differ (sym z))) ∙ eq-eqb o o refl

-- a label is of a member of a oneof, or it isn't
pub is-member : (label : Label) (o : ℕ) → (membership label o ≡ 0) ⊎ ((membership label o ≡ 1) × (oneof_of label ≡ Some o))
is-member (Member p) o =
    ⊎_elim
    (λ s. inr (ap (λ b. cond b 1 0) s.0, ap Some s.1))
    (λ s. inl (ap (λ b. cond b 1 0) s.0))
    (eqb_tells p o)
is-member Plain o = inl refl
is-member Optional o = inl refl
is-member Repeated o = inl refl
is-member Packed o = inl refl
is-member (Map key) o = inl refl

pub members-first : (fs : List Field) (o n : ℕ) (f : Field) (c : Content) (t : Node) → field_at fs n ≡ Some f
    → members_in fs o (field n c t) ≡ membership f.label o + members_in fs o t
members-first fs o n f c t e = ap (λ x. unwrap_or (option_map (λ f. membership f.label o) x) 0 + members_in fs o t) e

-- no member of the oneof has a content
members-none : (inner : ℕ → Node → Node) (all : List Field) (o : ℕ) (kept : Node) (fs : List Field) (last : ℕ)
    → AreFieldsFrom last fs → IsRest all last fs
    → ((m : ℕ) → last < m → oneof_at all m ≡ Some o → contents_of m kept ≡ [])
    → members_in all o (with_fields inner kept fs) ≡ 0
members-none inner all o kept [] last h rest none = refl
members-none inner all o kept (f ∷ fs) last h rest none =
    let a = h.0 in
    let found = rest-first all last f fs h.0 rest in
    let later = members-none inner all o kept fs f.number h.2 (rest-more all last f fs h.0 rest) (λ m more e. none m (omega (arith, a, more)) e) in
    ⊎_elim
    (λ zero. go (field_content inner f.label f.kind (contents_of f.number kept)) (with_fields inner kept fs) f found zero later)
    (λ one.
    let empty = none f.number a (oneof-found all f.number f found ∙ one.1) in
    let nothing : field_content inner f.label f.kind (contents_of f.number kept) ≡ None = ap (field_content inner f.label f.kind) empty ∙ content-none inner f.label f.kind in
    ap (λ x. members_in all o (with_content f.number x (with_fields inner kept fs))) nothing ∙ later)
    (is-member f.label o)
  where
    go : (x : Option Content) (t : Node) (f : Field) → field_at all f.number ≡ Some f → membership f.label o ≡ 0
        → members_in all o t ≡ 0 → members_in all o (with_content f.number x t) ≡ 0
    go None t f found zero later = later
    go (Some c) t f found zero later = let e = members-first all o f.number f c t found in omega (arith, e, zero, later)

-- the fields have at most one member of the oneof
pub members-one : (inner : ℕ → Node → Node) (all : List Field) (o : ℕ) (kept : Node) (fs : List Field) (last : ℕ)
    → HasNoRivals all kept → AreFieldsFrom last fs → IsRest all last fs
    → members_in all o (with_fields inner kept fs) ≤ 1
members-one inner all o kept [] last quiet h rest = omega arith
members-one inner all o kept (f ∷ fs) last quiet h rest =
    let found = rest-first all last f fs h.0 rest in
    let more = rest-more all last f fs h.0 rest in
    let later = members-one inner all o kept fs f.number quiet h.2 more in
    let content = field_content inner f.label f.kind (contents_of f.number kept) in
    let none : content ≢ None → oneof_at all f.number ≡ Some o → members_in all o (with_fields inner kept fs) ≡ 0 =
    (λ some at. members-none inner all o kept fs f.number h.2 more (λ m above e. (
    let differ : f.number ≢ m = omega (arith, above) in
    let back : m ≢ f.number = omega (arith, above) in
    rival-none all f.number m kept differ (members-rival all f.number m o differ at e)
    (members-rival all m f.number o back e at) quiet
    (λ empty. some (ap (field_content inner f.label f.kind) empty ∙ content-none inner f.label f.kind))))) in
    go content (with_fields inner kept fs) f found later (λ some at. none some (oneof-found all f.number f found ∙ at))
  where
    some-none : (c : Content) → Some c ≢ None
    some-none c e = cc

    go : (x : Option Content) (t : Node) (f : Field) → field_at all f.number ≡ Some f → members_in all o t ≤ 1
        → (x ≢ None → oneof_of f.label ≡ Some o → members_in all o t ≡ 0)
        → members_in all o (with_content f.number x t) ≤ 1
    go None t f found later none = later
    go (Some c) t f found later none =
        let e = members-first all o f.number f c t found in
        ⊎_elim
        (λ zero. omega (arith, e, zero, later))
        (λ one. let m = one.0 in let z = none (some-none c) one.1 in omega (arith, e, m, z))
        (is-member f.label o)
