-- The content of a field, from its combined contents.
use Rattle.std.proofs.Common.{◌≡◌, ◌≢◌, ℕ, zero, suc, ◌+◌, ◌<◌, ◌≤◌, List, [], ◌∷◌, ◌++◌, map, length, Option, Some}
use Rattle.std.proofs.Common.{None, false, refl, ap, sym, subst, ◌∙◌, arith, append-nil, ⊎_elim}
use Rattle.std.specs.Option.{option_and_then, unwrap_or}
use Rattle.std.proofs.lemmas.Bool.Decides.{nat_tests, eqb_tells}
use Rattle.std.proofs.lemmas.Bool.{cases_lt}
use Rattle.mrpc_table.specs.Node.{Node, no_fields, field, Content, many, pairs, Item, item, push_field, AreNumbersAscending}
use Rattle.mrpc_table.specs.View.{item_of, items_of, pairs_of}
use Rattle.mrpc_table.specs.Normal.{fields_of, field_at}
use Rattle.mrpc_table.specs.declared.tree.Value.{Value}
use Rattle.mrpc_table.specs.declared.table.Kind.{Kind}
use Rattle.mrpc_table.specs.declared.table.Kind.TheVariants.{Message as OfMessage}
use Rattle.mrpc_table.specs.declared.table.Label.{Label}
use Rattle.mrpc_table.specs.declared.table.Label.TheVariants.{Plain, Optional, Repeated, Packed, Map, Member}
use Rattle.mrpc_table.specs.declared.table.Field.{Field}
use Rattle.mrpc_table.specs.declared.table.Table.{Table}
use Rattle.mrpc_table.specs.Ascending.{AreFieldsAscending}
use Rattle.wire_decode.specs.Known.{is_message_kind}
use Rattle.wire_decode.specs.Merged.{contents_of, singles_in, join_fields, singular, merged_element}
use Rattle.wire_decode.specs.Contents.{items_from, default_item_of}
use Rattle.wire_decode.specs.Contents.{some_items, some_pairs, present, present_if_set, with_content}
use Rattle.wire_decode.specs.Merged.{field_content}
use Rattle.wire_decode.specs.Merged.{with_fields, counted_records, merged}
use Rattle.wire_decode.specs.NumberOrder.{HasAscendingNumbers}
use Rattle.wire_decode.specs.Finished.{finish_at, finished_of}
use Rattle.wire_decode.specs.EntryParts.{IsMeaningOfAll, found_part}
use Rattle.wire_decode.specs.Gathered.{IsGathered}
use Rattle.wire_decode.proofs.Adding.{contents-here, contents-other}
use Rattle.wire_decode.proofs.Gathering.{singles_in-append}

pub items_from-map : (vs : List Value) → items_from (map item_of vs) ≡ items_of vs
items_from-map [] = refl
items_from-map (v ∷ vs) = ap (item (item_of v)) (items_from-map vs)

pub many-some : (vs : List Value) → vs ≢ [] → Some (many (items_of vs)) ≡ some_items (map item_of vs)
many-some [] h = absurd (h refl)
many-some (v ∷ vs) h = ap (λ is. Some (many (item (item_of v) is))) (sym (items_from-map vs))

pub pairs-some : (ps : List (Value × Value)) → ps ≢ [] → Some (pairs (pairs_of ps)) ≡ some_pairs (pairs_of ps)
pairs-some [] h = absurd (h refl)
pairs-some (p ∷ ps) h = refl

pub element-same : (inner : ℕ → Node → Node) (k : Kind) (i : Item) → is_message_kind k ≡ false → merged_element inner k i ≡ i
element-same inner (OfMessage m) i h = absurd (cc)
element-same inner _ i h = refl

pub elements-same : (inner : ℕ → Node → Node) (k : Kind) (is : List Item) → is_message_kind k ≡ false → is ≡ map (merged_element inner k) is
elements-same inner k [] h = refl
elements-same inner k (i ∷ is) h = ap (λ x. x ∷ is) (sym (element-same inner k i h)) ∙ ap (λ xs. merged_element inner k i ∷ xs) (elements-same inner k is h)

pub map-pushed : {A B : Type 0} (f : A → B) (xs : List A) (x : A) → map f (xs ++ x ∷ []) ≡ map f xs ++ f x ∷ []
map-pushed f [] x = refl
map-pushed f (y ∷ xs) x = ap (λ ys. f y ∷ ys) (map-pushed f xs x)

-- the value of one value
pub singular-one : (inner : ℕ → Node → Node) (k : Kind) (i : Item) → singular inner k (i ∷ []) ≡ Some (merged_element inner k i)
singular-one inner (OfMessage m) i = refl
singular-one inner _ i = refl

singular-none : (inner : ℕ → Node → Node) (k : Kind) → singular inner k [] ≡ None
singular-none inner (OfMessage m) = refl
singular-none inner _ = refl

pub part-all : (inner : ℕ → Node → Node) (k : Kind) (is : List Item) (o : Option Item) → IsMeaningOfAll k is o → found_part inner k o ≡ unwrap_or (singular inner k is) (default_item_of k)
part-all inner k is None h = sym (ap (λ x. unwrap_or x (default_item_of k)) (ap (singular inner k) h ∙ singular-none inner k))
part-all inner k is (Some v) h = ap (λ o. unwrap_or o (default_item_of k)) (sym (singular-one inner k v) ∙ h inner [] ∙ ap (singular inner k) (append-nil is))

-- the fields by ascending number, each with one content
rise-above : (m n : ℕ) (t : Node) → AreNumbersAscending n t → m ≤ n → contents_of m t ≡ []
rise-above m n no_fields h le = refl
rise-above m n (field k c t) h le = contents-other m k c t (let a = h.0 in omega (arith, a, le)) ∙ rise-above m k t h.1 (let a = h.0 in omega (arith, a, le))

pub first-least : (x : Field) (xs : List Field) → AreFieldsAscending (x ∷ xs) → AreFieldsAscending xs
first-least x [] h = tt
first-least x (y ∷ ys) h = h.1

abbrev pub AreAbove : ℕ → List Field → Type 0
AreAbove n [] = Unit {0}
AreAbove n (f ∷ fs) = (n < f.number) × AreAbove n fs

above-more : (m n : ℕ) (fs : List Field) → m ≤ n → AreAbove n fs → AreAbove m fs
above-more m n [] le h = tt
above-more m n (f ∷ fs) le h = (let a = h.0 in omega (arith, a, le), above-more m n fs le h.1)

pub ascend-above : (x : Field) (xs : List Field) → AreFieldsAscending (x ∷ xs) → AreAbove x.number xs
ascend-above x [] h = tt
ascend-above x (y ∷ ys) h = (h.0, above-more x.number y.number ys (let a = h.0 in omega (arith, a)) (ascend-above y ys h.1))

pub field-here : (f : Field) (fs : List Field) (n : ℕ) → f.number ≡ n → field_at (f ∷ fs) n ≡ Some f
field-here f fs n e = grind (arith, nat_tests)

pub field-later : (f : Field) (fs : List Field) (n : ℕ) → f.number ≢ n → field_at (f ∷ fs) n ≡ field_at fs n
field-later f fs n e = grind (arith, nat_tests)

field-none : (n : ℕ) (fs : List Field) → AreAbove n fs → field_at fs n ≡ None
field-none n [] h = refl
field-none n (f ∷ fs) h = field-later f fs n (let a = h.0 in omega (arith, a)) ∙ field-none n fs h.1

pub content-none : (inner : ℕ → Node → Node) (label : Label) (k : Kind) → field_content inner label k [] ≡ None
content-none inner Plain k = ap present_if_set (singular-none inner k)
content-none inner Optional k = ap present (singular-none inner k)
content-none inner (Member o) k = ap present (singular-none inner k)
content-none inner Repeated k = refl
content-none inner Packed k = refl
content-none inner (Map key) k = refl

-- fields above a number ignore its content
fields-skip : (inner : ℕ → Node → Node) (n : ℕ) (c : Content) (t : Node) (fs : List Field) → AreAbove n fs → with_fields inner (field n c t) fs ≡ with_fields inner t fs
fields-skip inner n c t [] h = refl
fields-skip inner n c t (f ∷ fs) h =
    ap (λ cs. with_content f.number (field_content inner f.label f.kind cs) (with_fields inner (field n c t) fs)) (contents-other f.number n c t (let a = h.0 in omega (arith, a)))
    ∙ ap (with_content f.number (field_content inner f.label f.kind (contents_of f.number t))) (fields-skip inner n c t fs h.1)

pub fields-empty : (inner : ℕ → Node → Node) (fs : List Field) → with_fields inner no_fields fs ≡ no_fields
fields-empty inner [] = refl
fields-empty inner (f ∷ fs) = ap (λ o. with_content f.number o (with_fields inner no_fields fs)) (content-none inner f.label f.kind) ∙ fields-empty inner fs

-- numbers above the first field don't affect it
finished-skip : (inner : ℕ → Node → Node) (f : Field) (fs : List Field) (t : Node) → AreNumbersAscending f.number t → finished_of inner (f ∷ fs) t ≡ finished_of inner fs t
finished-skip inner f fs no_fields h = refl
finished-skip inner f fs (field n c t) h =
    let other : f.number ≢ n = (let a = h.0 in omega (arith, a)) in
    ap (λ o. with_content n (option_and_then (λ f. field_content inner f.label f.kind (c ∷ [])) o) (finished_of inner (f ∷ fs) t)) (field-later f fs n other)
    ∙ ap (with_content n (finish_at inner fs n c)) (finished-skip inner f fs t (rise-lower f.number n t h.1 (let a = h.0 in omega (arith, a))))
  where
    rise-lower : (m n : ℕ) (t : Node) → AreNumbersAscending n t → m ≤ n → AreNumbersAscending m t
    rise-lower m n no_fields h le = tt
    rise-lower m n (field k c t) h le = (let a = h.0 in omega (arith, a, le), h.1)

rise-low : (m n : ℕ) (t : Node) → AreNumbersAscending n t → m ≤ n → AreNumbersAscending m t
rise-low m n no_fields h le = tt
rise-low m n (field k c t) h le = (let a = h.0 in omega (arith, a, le), h.1)

rise-tail : (n : ℕ) (t : Node) → AreNumbersAscending n t → HasAscendingNumbers t
rise-tail n no_fields h = tt
rise-tail n (field k c t) h = h.1

abbrev size : Node → ℕ
size no_fields = 0
size (field n c t) = 1 + size t

finished-none : (inner : ℕ → Node → Node) (t : Node) → finished_of inner [] t ≡ no_fields
finished-none inner no_fields = refl
finished-none inner (field n c t) = finished-none inner t

finished-first : (inner : ℕ → Node → Node) (f : Field) (fs : List Field) (n : ℕ) (c : Content) (t : Node)
    → AreFieldsAscending (f ∷ fs) → AreNumbersAscending n t → f.number ≡ n → finished_of inner fs t ≡ with_fields inner t fs
    → finished_of inner (f ∷ fs) (field n c t) ≡ with_fields inner (field n c t) (f ∷ fs)
finished-first inner f fs n c t a r e rest =
    let left : finished_of inner (f ∷ fs) (field n c t) ≡ with_content n (field_content inner f.label f.kind (c ∷ [])) (finished_of inner fs t) =
    ap (λ o. with_content n (option_and_then (λ f. field_content inner f.label f.kind (c ∷ [])) o) (finished_of inner (f ∷ fs) t)) (field-here f fs n e)
    ∙ ap (with_content n (field_content inner f.label f.kind (c ∷ []))) (finished-skip inner f fs t (rise-low f.number n t r (omega (arith, e)))) in
    let P : ℕ → Type 0 = λ x. with_content x (field_content inner f.label f.kind (contents_of x (field n c t)))
    (with_fields inner (field n c t) fs) ≡ with_content n (field_content inner f.label f.kind (c ∷ []))
    (with_fields inner t fs) in
    let here : P n = ap (λ cs. with_content n (field_content inner f.label f.kind cs)
    (with_fields inner (field n c t) fs))
    (contents-here n c t ∙ ap (λ cs. c ∷ cs) (rise-above n n t r (omega arith)))
    ∙ ap (with_content n (field_content inner f.label f.kind (c ∷ []))) (fields-skip inner n c t fs (above-more n f.number fs (omega (arith, e)) (ascend-above f fs a))) in
    left ∙ ap (with_content n (field_content inner f.label f.kind (c ∷ []))) rest ∙ sym (subst P (sym e) here)

finished-higher : (inner : ℕ → Node → Node) (f : Field) (fs : List Field) (n : ℕ) (c : Content) (t : Node)
    → AreNumbersAscending n t → f.number < n → finished_of inner fs (field n c t) ≡ with_fields inner (field n c t) fs
    → finished_of inner (f ∷ fs) (field n c t) ≡ with_fields inner (field n c t) (f ∷ fs)
finished-higher inner f fs n c t r less rest =
    let none : contents_of f.number (field n c t) ≡ [] = contents-other f.number n c t (omega (arith, less)) ∙ rise-above f.number n t r (omega (arith, less)) in
    finished-skip inner f fs (field n c t) (less, r) ∙ rest
    ∙ sym (ap (λ cs. with_content f.number (field_content inner f.label f.kind cs)
    (with_fields inner (field n c t) fs)) none
    ∙ ap (λ o. with_content f.number o (with_fields inner (field n c t) fs)) (content-none inner f.label f.kind))

finished-lower : (inner : ℕ → Node → Node) (f : Field) (fs : List Field) (n : ℕ) (c : Content) (t : Node)
    → AreFieldsAscending (f ∷ fs) → n < f.number → finished_of inner (f ∷ fs) t ≡ with_fields inner t (f ∷ fs)
    → finished_of inner (f ∷ fs) (field n c t) ≡ with_fields inner (field n c t) (f ∷ fs)
finished-lower inner f fs n c t a low rest =
    let above : AreAbove n (f ∷ fs) = (low, above-more n f.number fs (omega (arith, low)) (ascend-above f fs a)) in
    ap (λ o. with_content n (option_and_then (λ f. field_content inner f.label f.kind (c ∷ [])) o) (finished_of inner (f ∷ fs) t)) (field-none n (f ∷ fs) above)
    ∙ rest ∙ sym (fields-skip inner n c t (f ∷ fs) above)

finished-step : (inner : ℕ → Node → Node) (f : Field) (fs : List Field) (n : ℕ) (c : Content) (t : Node)
    → AreFieldsAscending (f ∷ fs) → AreNumbersAscending n t → finished_of inner fs t ≡ with_fields inner t fs
    → finished_of inner fs (field n c t) ≡ with_fields inner (field n c t) fs
    → finished_of inner (f ∷ fs) t ≡ with_fields inner t (f ∷ fs)
    → finished_of inner (f ∷ fs) (field n c t) ≡ with_fields inner (field n c t) (f ∷ fs)
finished-step inner f fs n c t a r both_shorter fields_shorter tree_shorter =
    ⊎_elim
    (λ low. finished-lower inner f fs n c t a low tree_shorter)
    (λ high. ⊎_elim
    (λ s. finished-first inner f fs n c t a r s.1 both_shorter)
    (λ s. finished-higher inner f fs n c t r (let d = s.1 in omega (arith, high, d)) fields_shorter)
    (eqb_tells f.number n))
    (cases_lt n f.number)

finished-all : (fuel : ℕ) (inner : ℕ → Node → Node) (fs : List Field) (t : Node) → length fs + size t ≤ fuel
    → AreFieldsAscending fs → HasAscendingNumbers t → finished_of inner fs t ≡ with_fields inner t fs
finished-all fuel inner [] t le a r = finished-none inner t
finished-all fuel inner (f ∷ fs) no_fields le a r = sym (fields-empty inner (f ∷ fs))
finished-all zero inner (f ∷ fs) (field n c t) le a r = absurd (omega (arith, le))
finished-all (suc fuel) inner (f ∷ fs) (field n c t) le a r =
    finished-step inner f fs n c t a r
    (finished-all fuel inner fs t (omega (arith, le)) (first-least f fs a) (rise-tail n t r))
    (finished-all fuel inner fs (field n c t) (omega (arith, le)) (first-least f fs a) r)
    (finished-all fuel inner (f ∷ fs) t (omega (arith, le)) a (rise-tail n t r))

-- each field means what its contents meant before they were combined
fields-gathered : (inner : ℕ → Node → Node) (all fs : List Field) (raw held : Node) → IsGathered all raw held
    → ((f : Field) → (n : ℕ) → field_at fs n ≡ Some f → field_at all n ≡ Some f) → AreFieldsAscending fs
    → with_fields inner held fs ≡ with_fields inner raw fs
fields-gathered inner all [] raw held g sub a = refl
fields-gathered inner all (f ∷ fs) raw held g sub a =
    let at = sub f f.number (field-here f fs f.number refl) in
    let here : field_content inner f.label f.kind (contents_of f.number held) ≡ field_content inner f.label f.kind (contents_of f.number raw) =
    ap (field_content inner f.label f.kind) (sym (append-nil (contents_of f.number held)))
    ∙ g.same f.number f at inner [] ∙ ap (field_content inner f.label f.kind)
    (append-nil (contents_of f.number raw)) in
    let later : (g' : Field) (n : ℕ) → field_at fs n ≡ Some g' → field_at all n ≡ Some g' = λ g' n e. sub g' n (in-tail f fs g' n a e) in
    ap (λ o. with_content f.number o (with_fields inner held fs)) here
    ∙ ap (with_content f.number (field_content inner f.label f.kind (contents_of f.number raw))) (fields-gathered inner all fs raw held g later (first-least f fs a))
  where
    in-tail : (f : Field) (fs : List Field) (g : Field) (n : ℕ) → AreFieldsAscending (f ∷ fs) → field_at fs n ≡ Some g → field_at (f ∷ fs) n ≡ Some g
    in-tail f fs g n a e = ⊎_elim
        (λ s. let above = ascend-above f fs a in
        let none = field-none n fs (above-more n f.number fs (let z = s.1 in omega (arith, z)) above) in
        absurd (let bad : Some g ≡ None = sym e ∙ none in cc))
        (λ s. field-later f fs n s.1 ∙ e)
        (eqb_tells f.number n)

fields-same : (inner : ℕ → Node → Node) (fs : List Field) (raw sorted : Node)
    → ((n : ℕ) → contents_of n sorted ≡ contents_of n raw) → with_fields inner sorted fs ≡ with_fields inner raw fs
fields-same inner [] raw sorted h = refl
fields-same inner (f ∷ fs) raw sorted h =
    ap (λ cs. with_content f.number (field_content inner f.label f.kind cs) (with_fields inner sorted fs)) (h f.number)
    ∙ ap (with_content f.number (field_content inner f.label f.kind (contents_of f.number raw))) (fields-same inner fs raw sorted h)

pub merged-zero : (T : Table) (i : ℕ) (raw : Node) → merged T 0 i raw ≡ no_fields
unfolding merged
merged-zero T i raw = refl

pub merged-suc : (T : Table) (d i : ℕ) (raw : Node) → merged T (suc d) i raw ≡ with_fields (merged T d) (counted_records (fields_of T i) raw) (fields_of T i)
unfolding merged
merged-suc T d i raw = refl

-- the contents that count, sorted, combined and finished are the message
pub finished-merged : (T : Table) (d i : ℕ) (fs : List Field) (raw kept sorted held whole : Node) → fs ≡ fields_of T i
    → AreFieldsAscending fs → kept ≡ counted_records fs raw → ((n : ℕ) → contents_of n sorted ≡ contents_of n kept)
    → IsGathered fs sorted held → whole ≡ finished_of (merged T d) fs held → whole ≡ merged T (suc d) i raw
finished-merged T d i fs raw kept sorted held whole is a k s g w =
    let inner = merged T d in
    let P : List Field → Type 0 = λ x. whole ≡ with_fields inner (counted_records x raw) x in
    let here : P fs = w ∙ finished-all (length fs + size held) inner fs held (omega arith) a g.rise
    ∙ fields-gathered inner fs fs sorted held g (λ f n e. e) a ∙ fields-same inner fs kept sorted s
    ∙ ap (λ t. with_fields inner t fs) k in
    subst P is here ∙ sym (merged-suc T d i raw)

-- one field more
pub finished-pushed : (inner : ℕ → Node → Node) (fs : List Field) (n : ℕ) (c : Content) (t : Node)
    → finished_of inner fs (push_field t n c) ≡ join_fields (finished_of inner fs t)
    (with_content n (finish_at inner fs n c) no_fields)
finished-pushed inner fs n c no_fields = refl
finished-pushed inner fs n c (field m d t) =
    ap (with_content m (finish_at inner fs m d)) (finished-pushed inner fs n c t)
    ∙ with-join m (finish_at inner fs m d) (finished_of inner fs t)
    (with_content n (finish_at inner fs n c) no_fields)
  where
    with-join : (m : ℕ) (o : Option Content) (t u : Node) → with_content m o (join_fields t u) ≡ join_fields (with_content m o t) u
    with-join m None t u = refl
    with-join m (Some c) t u = refl

pub contents-more : (m n : ℕ) (c : Content) (t : Node) → contents_of m (push_field t n c) ≡ contents_of m t ++ contents_of m (field n c no_fields)
contents-more m n c no_fields = refl
contents-more m n c (field k d t) =
    ⊎_elim
    (λ s. let P : ℕ → Type 0 = λ x. contents_of m (push_field (field x d t) n c) ≡ contents_of m (field x d t) ++ contents_of m (field n c no_fields) in
    subst P (sym s.1) (contents-here m d (push_field t n c) ∙ ap (λ cs. d ∷ cs) (contents-more m n c t)
    ∙ sym (ap (λ cs. cs ++ contents_of m (field n c no_fields)) (contents-here m d t))))
    (λ s. let e : m ≢ k = (λ z. s.1 (sym z)) in contents-other m k d (push_field t n c) e ∙ contents-more m n c t
    ∙ sym (ap (λ cs. cs ++ contents_of m (field n c no_fields)) (contents-other m k d t e)))
    (eqb_tells k m)

pub singles-more : (m n : ℕ) (c : Content) (t : Node) → singles_in (contents_of m (push_field t n c)) ≡ singles_in (contents_of m t) ++ singles_in (contents_of m (field n c no_fields))
singles-more m n c t = ap singles_in (contents-more m n c t) ∙ singles_in-append (contents_of m t) (contents_of m (field n c no_fields))

pub push-join : (t : Node) (n : ℕ) (c : Content) → push_field t n c ≡ join_fields t (field n c no_fields)
push-join no_fields n c = refl
push-join (field m d t) n c = ap (field m d) (push-join t n c)
