-- The encoding of a list of parts is the concatenation of the encodings of each part.
use Rattle.std.proofs.Common.{◌≡◌, ℕ, ◌+◌, ◌≤◌, List, [], ◌∷◌, ◌++◌, length, take, refl, ap, ◌∙◌}
use Rattle.std.specs.List.{flat_map}
use Rattle.std.proofs.lemmas.List.{take_all}
use Rattle.mrpc_table.specs.View.{item_of, items_of, pairs_of, content_of, node_of}
use Rattle.mrpc_table.specs.declared.tree.FieldValue.{FieldValue}
use Rattle.mrpc_table.specs.declared.tree.Value.{Value}
use Rattle.mrpc_table.specs.declared.table.Kind.{Kind}
use Rattle.mrpc_table.specs.declared.table.Field.{Field}
use Rattle.mrpc_table.specs.declared.table.Table.{Table}
use Rattle.wire_base.specs.Encoding.{tag, delimited, item_bytes, joined_bytes, records_bytes, entries_bytes, content_bytes, fields_bytes}
use Rattle.mrpc_table.specs.WireTypes.{wire_len, wire_type_of}
use Rattle.mrpc_table.specs.Capped.{capped}

-- the bytes of a field, an element, a record of an element, an entry
abbrev pub field_part : Table → List Field → ℕ × FieldValue → List ℕ
field_part T fs x = content_bytes T fs x.0 (content_of x.1)

abbrev pub element_part : Table → Kind → Value → List ℕ
element_part T k v = item_bytes T k (item_of v)

abbrev pub record_part : Table → ℕ → Kind → Value → List ℕ
record_part T n k v = tag n (wire_type_of k) ++ item_bytes T k (item_of v)

abbrev pub entry_part : Table → ℕ → Kind → Kind → Value × Value → List ℕ
entry_part T n key k p = tag n wire_len ++ delimited ((tag 1 (wire_type_of key) ++ item_bytes T key (item_of p.0)) ++ (tag 2 (wire_type_of k) ++ item_bytes T k (item_of p.1)))

pub fields_bytes-parts : (T : Table) (fs : List Field) (xs : List (ℕ × FieldValue)) → fields_bytes T fs (node_of xs) ≡ flat_map (field_part T fs) xs
fields_bytes-parts T fs [] = refl
fields_bytes-parts T fs (x ∷ xs) = ap (λ bs. content_bytes T fs x.0 (content_of x.1) ++ bs) (fields_bytes-parts T fs xs)

pub joined_bytes-parts : (T : Table) (k : Kind) (vs : List Value) → joined_bytes T k (items_of vs) ≡ flat_map (element_part T k) vs
joined_bytes-parts T k [] = refl
joined_bytes-parts T k (v ∷ vs) = ap (λ bs. element_part T k v ++ bs) (joined_bytes-parts T k vs)

pub records_bytes-parts : (T : Table) (n : ℕ) (k : Kind) (vs : List Value) → records_bytes T n k (items_of vs) ≡ flat_map (record_part T n k) vs
records_bytes-parts T n k [] = refl
records_bytes-parts T n k (v ∷ vs) = ap (λ bs. record_part T n k v ++ bs) (records_bytes-parts T n k vs)

pub entries_bytes-parts : (T : Table) (n : ℕ) (key k : Kind) (ps : List (Value × Value)) → entries_bytes T n key k (pairs_of ps) ≡ flat_map (entry_part T n key k) ps
entries_bytes-parts T n key k [] = refl
entries_bytes-parts T n key k (p ∷ ps) = ap (λ bs. entry_part T n key k p ++ bs) (entries_bytes-parts T n key k ps)

-- the length of all parts
pub capped-all : {X : Type 0} (f : X → List ℕ) (xs : List X) (i : ℕ) (bytes : List ℕ) → length xs ≤ i
    → flat_map f xs ≡ bytes → capped (length (flat_map f (take i xs))) ≡ capped (length bytes)
capped-all f xs i bytes end is = ap (λ ys. capped (length (flat_map f ys))) (take_all i xs end) ∙ ap (λ bs. capped (length bs)) is
