-- The texts of parts of messages, in order.
use Rattle.std.proofs.Common.{◌≡◌, ℕ, ◌+◌, ◌<◌, List, [], ◌∷◌, ◌++◌, length, take, get_or, refl, sym, ap, subst, ◌∙◌, append_assoc, append-nil}
use Rattle.std.proofs.lemmas.List.{take_more}
use Rattle.mrpc_table.specs.Normal.{kind_at, label_at}
use Rattle.mrpc_table.specs.View.{item_of, items_of, pairs_of, content_of, node_of}
use Rattle.mrpc_table.specs.declared.table.Field.{Field}
use Rattle.mrpc_table.specs.declared.table.Kind.{Kind}
use Rattle.mrpc_table.specs.declared.table.Table.{Table}
use Rattle.mrpc_table.specs.declared.tree.FieldValue.{FieldValue}
use Rattle.mrpc_table.specs.declared.tree.Value.{Value}
use Rattle.text_format.specs.Entries.{field_name, IsTextOfFields, IsTextOfContent, IsTextOfItem, IsTextOfItems, IsTextOfPairs}
use Rattle.text_format.specs.Lines.{enclosed}
use Rattle.text_format.specs.MapEntries.{IsTextOfPair}

-- the list up to the next item
up_to : {X : Type 0} (xs : List X) (i : ℕ) (x : X) → i < length xs → x ≡ get_or xs i x → take i xs ++ x ∷ [] ≡ take (i + 1) xs
up_to xs i x within is = sym (take_more xs i x within ∙ ap (λ y. take i xs ++ y ∷ []) (sym is))

front_moves : (a b text more : List ℕ) → text ≡ a ++ b → text ++ more ≡ a ++ (b ++ more)
front_moves a b text more is = ap (λ (bs : List ℕ). bs ++ more) is ∙ append_assoc a b more

alone : (text more : List ℕ) → text ≡ [] → text ++ more ≡ more ++ []
alone text more is = ap (λ (bs : List ℕ). bs ++ more) is ∙ sym (append-nil more)

module _ (T : Table) (name : List ℕ) (k : Kind) (deep : ℕ) where
  items_more : (xs : List Value) (y : Value) (text more : List ℕ) → IsTextOfItems T name k deep (items_of xs) text → IsTextOfItem T name k deep (item_of y) more
      → IsTextOfItems T name k deep (items_of (xs ++ y ∷ [])) (text ++ more)
  items_more [] y text more h one = (more, [], one, refl, alone text more h)
  items_more (x ∷ xs) y text more h one = (h.0, h.1 ++ more, h.2, items_more xs y h.1 more h.3 one, front_moves h.0 h.1 text more h.4)

  -- one element more
  pub items_step : (xs : List Value) (i : ℕ) (y : Value) (text more : List ℕ) → i < length xs → y ≡ get_or xs i y → IsTextOfItems T name k deep (items_of (take i xs)) text
      → IsTextOfItem T name k deep (item_of y) more → IsTextOfItems T name k deep (items_of (take (i + 1) xs)) (text ++ more)
  items_step xs i y text more within is h one =
      subst (λ (ys : List Value). IsTextOfItems T name k deep (items_of ys) (text ++ more)) (up_to xs i y within is) (items_more (take i xs) y text more h one)

module _ (T : Table) (name : List ℕ) (key k : Kind) (deep : ℕ) where
  pairs_more : (xs : List (Value × Value)) (y : Value × Value) (text inner : List ℕ) → IsTextOfPairs T name key k deep (pairs_of xs) text
      → IsTextOfPair T key k (deep + 1) (item_of y.0) (item_of y.1) inner → IsTextOfPairs T name key k deep (pairs_of (xs ++ y ∷ [])) (text ++ enclosed deep name inner)
  pairs_more [] y text inner h one =
      (one.0, one.1, [], one.2, one.3, refl, alone text (enclosed deep name inner) h ∙ ap (λ (bs : List ℕ). enclosed deep name bs ++ []) one.4)
  pairs_more (x ∷ xs) y text inner h one =
      (h.0, h.1, h.2 ++ enclosed deep name inner, h.3, h.4, pairs_more xs y h.2 inner h.5 one, front_moves (enclosed deep name (h.0 ++ h.1)) h.2 text (enclosed deep name inner) h.6)

  -- one entry more
  pub pairs_step : (xs : List (Value × Value)) (i : ℕ) (y : Value × Value) (text inner : List ℕ) → i < length xs → y ≡ get_or xs i y
      → IsTextOfPairs T name key k deep (pairs_of (take i xs)) text → IsTextOfPair T key k (deep + 1) (item_of y.0) (item_of y.1) inner
      → IsTextOfPairs T name key k deep (pairs_of (take (i + 1) xs)) (text ++ enclosed deep name inner)
  pairs_step xs i y text inner within is h one =
      subst (λ (ys : List (Value × Value)). IsTextOfPairs T name key k deep (pairs_of ys) (text ++ enclosed deep name inner)) (up_to xs i y within is)
      (pairs_more (take i xs) y text inner h one)

module _ (T : Table) (fs : List Field) (deep : ℕ) where
  -- the text of a field with its content
  abbrev pub ShowsPart : ℕ × FieldValue → List ℕ → Type 0
  ShowsPart x text = IsTextOfContent T (field_name fs x.0) (label_at fs x.0) (kind_at fs x.0) deep (content_of x.1) text

  fields_more : (xs : List (ℕ × FieldValue)) (y : ℕ × FieldValue) (text more : List ℕ) → IsTextOfFields T fs deep (node_of xs) text → ShowsPart y more
      → IsTextOfFields T fs deep (node_of (xs ++ y ∷ [])) (text ++ more)
  fields_more [] y text more h one = (more, [], one, refl, alone text more h)
  fields_more (x ∷ xs) y text more h one = (h.0, h.1 ++ more, h.2, fields_more xs y h.1 more h.3 one, front_moves h.0 h.1 text more h.4)

  -- one field more
  pub fields_step : (xs : List (ℕ × FieldValue)) (i : ℕ) (y : ℕ × FieldValue) (text more : List ℕ) → i < length xs → y ≡ get_or xs i y
      → IsTextOfFields T fs deep (node_of (take i xs)) text → ShowsPart y more → IsTextOfFields T fs deep (node_of (take (i + 1) xs)) (text ++ more)
  fields_step xs i y text more within is h one =
      subst (λ (ys : List (ℕ × FieldValue)). IsTextOfFields T fs deep (node_of ys) (text ++ more)) (up_to xs i y within is) (fields_more (take i xs) y text more h one)
