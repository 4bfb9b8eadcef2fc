-- The message of contents, where each field removes the contents of its number. In a table whose fields ascend this is
-- `merged`, and in any other the first field of a number gets its contents.
use Rattle.std.proofs.Common.{◌≡◌, ◌≢◌, ℕ, zero, suc, List, [], ◌∷◌, Some, None, refl, ap, sym, subst, ◌∙◌, arith, ⊎_elim}
use Rattle.std.proofs.Math.Path.{fun_ext}
use Rattle.std.specs.Option.{option_and_then, unwrap_or}
use Rattle.std.specs.Prelude.{if◌then◌else◌, not, ◌==◌, ◌&&◌, ◌||◌, Option, Bool, true, false}
use Rattle.std.proofs.lemmas.Bool.Decides.{nat_tests, eqb_tells}
use Rattle.mrpc_table.specs.Node.{Node, no_fields, field, Content, Item, node}
use Rattle.mrpc_table.specs.Normal.{fields_of}
use Rattle.mrpc_table.specs.declared.table.Kind.{Kind}
use Rattle.mrpc_table.specs.declared.table.Label.TheVariants.{Optional}
use Rattle.mrpc_table.specs.declared.table.Field.{Field}
use Rattle.mrpc_table.specs.declared.table.Table.{Table}
use Rattle.mrpc_table.specs.Ascending.{AreFieldsAscending, AreAllFieldsAscending}
use Rattle.wire_decode.specs.Known.{entry_fields}
use Rattle.wire_decode.specs.Merged.{contents_of, singles_in, singular, part_of_entry, merged_entry}
use Rattle.wire_decode.specs.Contents.{default_item_of, present}
use Rattle.wire_decode.specs.Merged.{field_content, with_fields, is_overtaken, counted_records}
use Rattle.wire_decode.specs.Contents.{with_content}
use Rattle.wire_decode.specs.Oneofs.{are_same_oneof}
use Rattle.wire_decode.specs.Oneofs.{oneof_of, oneof_at}
use Rattle.wire_decode.specs.Merged.{merged}
use Rattle.wire_decode.specs.Meaning.{item_or_default}
use Rattle.wire_decode.proofs.Adding.{contents-here, contents-other}
use Rattle.wire_decode.proofs.Merging.{AreAbove, ascend-above, first-least, field-here, field-later}
use Rattle.wire_decode.proofs.Reading.{join-none}

-- the fields of the other numbers
abbrev pub contents_but : ℕ → Node → Node
contents_but n no_fields = no_fields
contents_but n (field m c t) = if m == n then contents_but n t else field m c (contents_but n t)

abbrev pub taken : (ℕ → Node → Node) → Node → List Field → Node
taken inner raw [] = no_fields
taken inner raw (f ∷ fs) = with_content f.number (field_content inner f.label f.kind (contents_of f.number raw)) (taken inner (contents_but f.number raw) fs)

unfoldable pub merged_taken : Table → ℕ → ℕ → Node → Node
merged_taken T zero i raw = no_fields
merged_taken T (suc depth) i raw = taken (merged_taken T depth) (counted_records (fields_of T i) raw) (fields_of T i)

-- the contents of the fields, with room for this many levels of messages
abbrev pub meaning : Table → ℕ → List Field → Node → Node
meaning T room fs raw = taken (merged_taken T room) (counted_records fs raw) fs

pub taken-suc : (T : Table) (inside i : ℕ) (raw : Node) → merged_taken T (suc inside) i raw ≡ meaning T inside (fields_of T i) raw
unfolding merged_taken
taken-suc T inside i raw = refl

but-here : (n : ℕ) (c : Content) (t : Node) → contents_but n (field n c t) ≡ contents_but n t
but-here n c t = grind (arith, nat_tests)

but-other : (n m : ℕ) (c : Content) (t : Node) → n ≢ m → contents_but n (field m c t) ≡ field m c (contents_but n t)
but-other n m c t h = grind (arith, nat_tests)

-- the contents of another number
pub contents-but : (m n : ℕ) (t : Node) → m ≢ n → contents_of m (contents_but n t) ≡ contents_of m t
contents-but m n no_fields h = refl
contents-but m n (field k c t) h =
    ⊎_elim
    (λ s. let here : contents_but n (field k c t) ≡ contents_but n t = ap (λ x. contents_but n (field x c t)) s.1 ∙ but-here n c t in
    let skip : contents_of m (field k c t) ≡ contents_of m t = contents-other m k c t (λ e. h (e ∙ s.1)) in
    ap (contents_of m) here ∙ contents-but m n t h ∙ sym skip)
    (λ s. ap (contents_of m) (but-other n k c t (λ e. s.1 (sym e))) ∙
    ⊎_elim
    (λ z. let P : ℕ → Type 0 = λ x. contents_of x (field k c (contents_but n t)) ≡ contents_of x (field k c t) in
    subst P z.1 (contents-here k c (contents_but n t)
    ∙ ap (λ cs. c ∷ cs) (ap (λ x. contents_of x (contents_but n t)) z.1 ∙ contents-but m n t h
    ∙ ap (λ x. contents_of x t) (sym z.1)) ∙ sym (contents-here k c t)))
    (λ z. let e : m ≢ k = (λ y. z.1 (sym y)) in contents-other m k c (contents_but n t) e ∙ contents-but m n t h ∙ sym (contents-other m k c t e))
    (eqb_tells k m))
    (eqb_tells k n)

-- ---- fields that ascend

fields-but : (inner : ℕ → Node → Node) (n : ℕ) (raw : Node) (fs : List Field) → AreAbove n fs → with_fields inner (contents_but n raw) fs ≡ with_fields inner raw fs
fields-but inner n raw [] above = refl
fields-but inner n raw (f ∷ fs) above =
    ap (λ cs. with_content f.number (field_content inner f.label f.kind cs) (with_fields inner (contents_but n raw) fs)) (contents-but f.number n raw (let a = above.0 in omega (arith, a)))
    ∙ ap (with_content f.number (field_content inner f.label f.kind (contents_of f.number raw))) (fields-but inner n raw fs above.1)

taken-fields : (inner : ℕ → Node → Node) (raw : Node) (fs : List Field) → AreFieldsAscending fs → taken inner raw fs ≡ with_fields inner raw fs
taken-fields inner raw [] a = refl
taken-fields inner raw (f ∷ fs) a =
    ap (with_content f.number (field_content inner f.label f.kind (contents_of f.number raw)))
    (taken-fields inner (contents_but f.number raw) fs (first-least f fs a) ∙ fields-but inner f.number raw fs (ascend-above f fs a))

pub merged-taken : (T : Table) → AreAllFieldsAscending T → (d i : ℕ) (raw : Node) → merged_taken T d i raw ≡ merged T d i raw
unfolding merged_taken merged
merged-taken T a zero i raw = refl
merged-taken T a (suc d) i raw =
    let same : merged_taken T d ≡ merged T d = fun_ext (λ j. fun_ext (λ x. merged-taken T a d j x)) in
    ap (λ inner. taken inner (counted_records (fields_of T i) raw) (fields_of T i)) same
    ∙ taken-fields (merged T d) (counted_records (fields_of T i) raw) (fields_of T i) (a.each i)

-- ---- entries

item-first : (key k : Kind) (o p : Option Item) → item_or_default 1 key (with_content 1 (present o) (with_content 2 (present p) no_fields)) ≡ unwrap_or o (default_item_of key)
item-first key k None None = refl
item-first key k None (Some j) = refl
item-first key k (Some i) p = refl

item-second : (key k : Kind) (o p : Option Item) → item_or_default 2 k (with_content 1 (present o) (with_content 2 (present p) no_fields)) ≡ unwrap_or p (default_item_of k)
item-second key k None None = refl
item-second key k None (Some j) = refl
item-second key k (Some i) None = refl
item-second key k (Some i) (Some j) = refl

no-oneof : (key k : Kind) (n : ℕ) → oneof_at (entry_fields key k) n ≡ None
no-oneof key k n =
    let first : Field = record { number = 1; name = []; kind = key; label = Optional } in
    let second : Field = record { number = 2; name = []; kind = k; label = Optional } in
    let of : Option Field → Option ℕ = λ o. option_and_then (λ f. oneof_of f.label) o in
    ⊎_elim
    (λ s. ap of (field-here first (second ∷ []) n s.1))
    (λ s. ap of (field-later first (second ∷ []) n s.1) ∙
    ⊎_elim (λ z. ap of (field-here second [] n z.1)) (λ z. ap of (field-later second [] n z.1)) (eqb_tells 2 n))
    (eqb_tells 1 n)

and-false : (b : Bool) → (b && false) ≡ false
and-false true = refl
and-false false = refl

no-rival : (key k : Kind) (n : ℕ) (t : Node) → is_overtaken (entry_fields key k) n t ≡ false
no-rival key k n no_fields = refl
no-rival key k n (field m c t) =
    ap (λ o. (not (m == n) && are_same_oneof o (oneof_at (entry_fields key k) m)) || is_overtaken (entry_fields key k) n t) (no-oneof key k n)
    ∙ ap (λ b. b || is_overtaken (entry_fields key k) n t) (and-false (not (m == n)))
    ∙ no-rival key k n t

pub counted-entry : (key k : Kind) (t : Node) → counted_records (entry_fields key k) t ≡ t
counted-entry key k no_fields = refl
counted-entry key k (field n c t) =
    ap (λ b. if b then counted_records (entry_fields key k) t else field n c (counted_records (entry_fields key k) t)) (no-rival key k n t)
    ∙ ap (field n c) (counted-entry key k t)

-- the key and the value of an entry are those of its meaning
pub entry-same : (T : Table) (room : ℕ) (key k : Kind) (t : Node)
    → merged_entry (merged_taken T room) key k (node t) ≡ (
      item_or_default 1 key (meaning T room (entry_fields key k) t),
      item_or_default 2 k (meaning T room (entry_fields key k) t),
    )
entry-same T room key k t =
    let inner = merged_taken T room in
    let o = singular inner key (singles_in (contents_of 1 t)) in
    let p = singular inner k (singles_in (contents_of 2 t)) in
    let same : meaning T room (entry_fields key k) t ≡ with_content 1 (present o) (with_content 2 (present p) no_fields) =
    ap (λ x. taken inner x (entry_fields key k)) (counted-entry key k t)
    ∙ ap (λ cs. with_content 1 (present o) (with_content 2 (present (singular inner k (singles_in cs))) no_fields)) (contents-but 2 1 t (omega arith)) in
    let first : part_of_entry inner 1 key t ≡ item_or_default 1 key (meaning T room (entry_fields key k) t) = sym (item-first key k o p) ∙ ap (item_or_default 1 key) (sym same) in
    let second : part_of_entry inner 2 k t ≡ item_or_default 2 k (meaning T room (entry_fields key k) t) = sym (item-second key k o p) ∙ ap (item_or_default 2 k) (sym same) in
    ap (λ x. (part_of_entry inner 1 key x, part_of_entry inner 2 k x)) (join-none t)
    ∙ ap (λ i. (i, part_of_entry inner 2 k t)) first ∙ ap (λ j. (item_or_default 1 key (meaning T room (entry_fields key k) t), j)) second
