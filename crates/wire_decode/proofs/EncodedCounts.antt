-- Each record of an encoding counts, and those of a number have the content of that number.
use Rattle.std.proofs.Common.{◌≡◌, ◌≢◌, ℕ, ◌≤◌, ◌==◌, ◌&&◌, ◌||◌, List, [], ◌∷◌, ◌++◌, Option, Some, None, Bool, true}
use Rattle.std.proofs.Common.{false, not, cond, refl, ap, sym, subst, ◌∙◌, arith, append-nil, ⊎_elim}
use Rattle.std.proofs.lemmas.Bool.{eq-eqb}
use Rattle.std.proofs.lemmas.Bool.Decides.{eqb_tells}
use Rattle.mrpc_table.specs.Node.{Node, no_fields, field, Content, one, many, pairs, Items, no_items, item, Pairs, no_pairs, pair}
use Rattle.mrpc_table.specs.Normal.{field_at, membership, members_in, HasFields, HasContent, HasOneMemberEach, kind_at, label_at}
use Rattle.mrpc_table.specs.declared.table.Kind.{Kind}
use Rattle.mrpc_table.specs.declared.table.Label.{Label}
use Rattle.mrpc_table.specs.declared.table.Label.TheVariants.{Plain, Optional, Repeated, Packed, Map, Member}
use Rattle.mrpc_table.specs.declared.table.Field.{Field}
use Rattle.mrpc_table.specs.declared.table.Table.{Table}
use Rattle.wire_base.specs.Encoding.{is_packed}
use Rattle.mrpc_table.specs.Words.{key_kind}
use Rattle.wire_decode.specs.Merged.{contents_of, join_fields, is_overtaken, counted_records}
use Rattle.wire_decode.specs.Oneofs.{oneof_of, oneof_at, are_same_oneof, are_rivals}
use Rattle.wire_decode.proofs.Adding.{contents-here, contents-other}
use Rattle.wire_decode.proofs.Oneofs.{and-false, overtaken-none, counted-kept, oneof-found}
use Rattle.wire_decode.proofs.Members.{or-parts, is-member, members-first}
use Rattle.wire_decode.proofs.RawTree.{raw_fields, raw_content, raw_records, raw_entries}

-- the field that a content is of
pub field-of : (T : Table) (fs : List Field) (n : ℕ) (c : Content) → HasContent T fs n c → (f : Field) × (field_at fs n ≡ Some f)
field-of T fs n (one i) h = (h.0, h.1)
field-of T fs n (many is) h = (h.0, h.1)
field-of T fs n (pairs ps) h = (h.0, h.2)

-- records of one number
abbrev pub AreOf : ℕ → Node → Type 0
AreOf n no_fields = Unit {0}
AreOf n (field m c t) = (m ≡ n) × AreOf n t

records-of : (T : Table) (n : ℕ) (k : Kind) (is : Items) → AreOf n (raw_records T n k is)
records-of T n k no_items = tt
records-of T n k (item i is) = (refl, records-of T n k is)

entries-of : (T : Table) (n : ℕ) (key k : Kind) (ps : Pairs) → AreOf n (raw_entries T n key k ps)
entries-of T n key k no_pairs = tt
entries-of T n key k (pair i j ps) = (refl, entries-of T n key k ps)

many-of : (n : ℕ) (b : Bool) (t u : Node) → AreOf n t → AreOf n u → AreOf n (cond b t u)
many-of n true t u a b = a
many-of n false t u a b = b

content-of : (T : Table) (fs : List Field) (n : ℕ) (c : Content) → AreOf n (raw_content T fs n c)
content-of T fs n (one i) = (refl, tt)
content-of T fs n (many is) = many-of n (is_packed (label_at fs n)) (field n (many is) no_fields) (raw_records T n (kind_at fs n) is) (refl, tt) (records-of T n (kind_at fs n) is)
content-of T fs n (pairs ps) = entries-of T n (key_kind (label_at fs n)) (kind_at fs n) ps

-- the contents of a number
contents-join : (n : ℕ) (t u : Node) → contents_of n (join_fields t u) ≡ contents_of n t ++ contents_of n u
contents-join n no_fields u = refl
contents-join n (field m c t) u =
    ⊎_elim
    (λ s. let P : ℕ → Type 0 = λ x. contents_of n (field x c (join_fields t u)) ≡ contents_of n (field x c t) ++ contents_of n u in
    subst P (sym s.1) (contents-here n c (join_fields t u) ∙ ap (λ cs. c ∷ cs) (contents-join n t u) ∙ sym (ap (λ cs. cs ++ contents_of n u) (contents-here n c t))))
    (λ s. let e : n ≢ m = (λ z. s.1 (sym z)) in contents-other n m c (join_fields t u) e ∙ contents-join n t u ∙ sym (ap (λ cs. cs ++ contents_of n u) (contents-other n m c t e)))
    (eqb_tells m n)

of-other : (n m : ℕ) (t : Node) → n ≢ m → AreOf m t → contents_of n t ≡ []
of-other n m no_fields differ h = refl
of-other n m (field k c t) differ h = contents-other n k c t (λ e. differ (e ∙ h.0)) ∙ of-other n m t differ h.1

-- no record of a number up to the last one
pub none-below : (T : Table) (fs : List Field) (n last : ℕ) (t : Node) → n ≤ last → HasFields T fs last t → contents_of n (raw_fields T fs t) ≡ []
none-below T fs n last no_fields le h = refl
none-below T fs n last (field m c t) le h =
    let a = h.0 in
    contents-join n (raw_content T fs m c) (raw_fields T fs t)
    ∙ ap (λ cs. cs ++ contents_of n (raw_fields T fs t)) (of-other n m (raw_content T fs m c) (omega (arith, a, le)) (content-of T fs m c))
    ∙ none-below T fs n m t (omega (arith, a, le)) h.2

pub contents-first : (T : Table) (fs : List Field) (n : ℕ) (c : Content) (t : Node) → HasFields T fs n t
    → contents_of n (raw_fields T fs (field n c t)) ≡ contents_of n (raw_content T fs n c)
contents-first T fs n c t h =
    contents-join n (raw_content T fs n c) (raw_fields T fs t)
    ∙ ap (λ cs. contents_of n (raw_content T fs n c) ++ cs) (none-below T fs n n t (omega arith) h)
    ∙ append-nil (contents_of n (raw_content T fs n c))

pub contents-later : (T : Table) (fs : List Field) (n m : ℕ) (c : Content) (t : Node) → n ≢ m → contents_of n (raw_fields T fs (field m c t)) ≡ contents_of n (raw_fields T fs t)
contents-later T fs n m c t differ =
    contents-join n (raw_content T fs m c) (raw_fields T fs t)
    ∙ ap (λ cs. cs ++ contents_of n (raw_fields T fs t)) (of-other n m (raw_content T fs m c) differ (content-of T fs m c))

-- which records count
overtaken-join : (fs : List Field) (n : ℕ) (t u : Node) → is_overtaken fs n t ≡ false → is_overtaken fs n u ≡ false → is_overtaken fs n (join_fields t u) ≡ false
overtaken-join fs n no_fields u a b = b
overtaken-join fs n (field m c t) u a b =
    let parts = or-parts (are_rivals fs n m) (is_overtaken fs n t) a in
    ap (λ x. x || is_overtaken fs n (join_fields t u)) parts.0 ∙ overtaken-join fs n t u parts.1 b

of-quiet : (fs : List Field) (n m : ℕ) (t : Node) → are_rivals fs n m ≡ false → AreOf m t → is_overtaken fs n t ≡ false
of-quiet fs n m no_fields rivals h = refl
of-quiet fs n m (field k c t) rivals h = ap (λ x. x || is_overtaken fs n t) (ap (are_rivals fs n) h.0 ∙ rivals) ∙ of-quiet fs n m t rivals h.1

no-rival-itself : (fs : List Field) (n : ℕ) → are_rivals fs n n ≡ false
no-rival-itself fs n = ap (λ b. not b && are_same_oneof (oneof_at fs n) (oneof_at fs n)) (eq-eqb n n refl)

not-member : (label : Label) (o : ℕ) → membership label o ≡ 0 → are_same_oneof (Some o) (oneof_of label) ≡ false
not-member (Member p) o h =
    ⊎_elim
    (λ s. absurd (let one : membership (Member p) o ≡ 1 = ap (λ b. cond b 1 0) s.0 in omega (arith, h, one)))
    (λ s. ⊎_elim (λ r. absurd (s.1 (sym r.1))) (λ r. r.0) (eqb_tells o p))
    (eqb_tells p o)
not-member Plain o h = refl
not-member Optional o h = refl
not-member Repeated o h = refl
not-member Packed o h = refl
not-member (Map key) o h = refl

no-rival : (fs : List Field) (n m o : ℕ) (f : Field) → oneof_at fs n ≡ Some o → field_at fs m ≡ Some f → membership f.label o ≡ 0 → are_rivals fs n m ≡ false
no-rival fs n m o f at found h =
    ap (λ x. not (m == n) && are_same_oneof x (oneof_at fs m)) at ∙ ap (λ x. not (m == n) && are_same_oneof (Some o) x) (oneof-found fs m f found)
    ∙ ap (λ b. not (m == n) && b) (not-member f.label o h) ∙ and-false (not (m == n))

-- no member of the oneof has a record
none-overtakes : (T : Table) (fs : List Field) (n o last : ℕ) (t : Node) → oneof_at fs n ≡ Some o
    → HasFields T fs last t → members_in fs o t ≡ 0 → is_overtaken fs n (raw_fields T fs t) ≡ false
none-overtakes T fs n o last no_fields at h none = refl
none-overtakes T fs n o last (field m c t) at h none =
    let f = field-of T fs m c h.1 in
    let e = members-first fs o m f.0 c t f.1 in
    let zero : membership f.0.label o ≡ 0 = omega (arith, e, none) in
    let rest : members_in fs o t ≡ 0 = omega (arith, e, none) in
    overtaken-join fs n (raw_content T fs m c) (raw_fields T fs t)
    (of-quiet fs n m (raw_content T fs m c) (no-rival fs n m o f.0 at f.1 zero) (content-of T fs m c))
    (none-overtakes T fs n o m t at h.2 rest)

member-one : (label : Label) (o : ℕ) → oneof_of label ≡ Some o → membership label o ≡ 1
member-one label o e =
    ⊎_elim
    (λ zero. absurd (let bad : true ≡ false = sym (ap (are_same_oneof (Some o)) e ∙ eq-eqb o o refl) ∙ not-member label o zero in cc))
    (λ one. one.0)
    (is-member label o)

-- the oneof of a number
option-cases : (o : Option ℕ) (P : Type 0) → (o ≡ None → P) → ((n : ℕ) → o ≡ Some n → P) → P
option-cases None P a b = a refl
option-cases (Some n) P a b = b n refl

none-behind : (T : Table) (fs : List Field) (n : ℕ) (c : Content) (t : Node) → HasContent T fs n c
    → HasFields T fs n t → HasOneMemberEach fs (field n c t) → is_overtaken fs n (raw_fields T fs t) ≡ false
none-behind T fs n c t has fields members =
    let f = field-of T fs n c has in
    option-cases (oneof_at fs n) (is_overtaken fs n (raw_fields T fs t) ≡ false)
    (λ none. overtaken-none fs n (raw_fields T fs t) none)
    (λ o at.
    let label : membership f.0.label o ≡ 1 = member-one f.0.label o (sym (oneof-found fs n f.0 f.1) ∙ at) in
    let e = members-first fs o n f.0 c t f.1 in
    let most = members o in
    none-overtakes T fs n o n t at fields (omega (arith, e, label, most)))

counted-join : (fs : List Field) (n : ℕ) (t u : Node) → AreOf n t → is_overtaken fs n u ≡ false → counted_records fs u ≡ u → counted_records fs (join_fields t u) ≡ join_fields t u
counted-join fs n no_fields u of quiet rest = rest
counted-join fs n (field m c t) u of quiet rest =
    let here : is_overtaken fs n (join_fields t u) ≡ false = overtaken-join fs n t u (of-quiet fs n n t (no-rival-itself fs n) of.1) quiet in
    let behind : is_overtaken fs m (join_fields t u) ≡ false = ap (λ x. is_overtaken fs x (join_fields t u)) of.0 ∙ here in
    counted-kept fs m c (join_fields t u) (sym (ap not behind)) ∙ ap (field m c) (counted-join fs n t u of.1 quiet rest)

members-fewer : (fs : List Field) (n : ℕ) (c : Content) (t : Node) (f : Field) → field_at fs n ≡ Some f → HasOneMemberEach fs (field n c t) → HasOneMemberEach fs t
members-fewer fs n c t f found h o = let e = members-first fs o n f c t found in let most = h o in omega (arith, e, most)

-- if each oneof has one member, each record counts
pub counted-raw : (T : Table) (fs : List Field) (last : ℕ) (t : Node) → HasFields T fs last t → HasOneMemberEach fs t → counted_records fs (raw_fields T fs t) ≡ raw_fields T fs t
counted-raw T fs last no_fields h members = refl
counted-raw T fs last (field n c t) h members =
    let f = field-of T fs n c h.1 in
    counted-join fs n (raw_content T fs n c) (raw_fields T fs t) (content-of T fs n c)
    (none-behind T fs n c t h.1 h.2 members) (counted-raw T fs n t h.2 (members-fewer fs n c t f.0 f.1 members))
