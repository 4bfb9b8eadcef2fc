-- The text of a message (Protocol Buffers, "Text Format Language Specification"), laid out as
-- `protoc --decode` does: the entries of each field that the message has, by ascending number. An entry of a
-- scalar is on a line of its own, and one of a message has the entries of that message between braces (the
-- standard calls an entry a field of the text, and writes one for each element of a repeated field:
-- "Fields"). A map has an entry for each of its pairs, with a key and a value ("Map Fields").
use Rattle.std.specs.Prelude.{◌≡◌, ℕ, ◌+◌, List, [], ◌++◌, codes, option_map, unwrap_or}
use Rattle.mrpc_table.specs.Node.{Node, no_fields, field, Content, one, many, pairs, Item, number, run, node, Items, no_items, item, Pairs, no_pairs, pair}
use Rattle.mrpc_table.specs.Normal.{fields_of, field_at, kind_at, label_at}
use Rattle.mrpc_table.specs.Words.{key_kind, nested_message}
use Rattle.mrpc_table.specs.declared.table.Kind.{Kind}
use Rattle.mrpc_table.specs.declared.table.Label.{Label}
use Rattle.mrpc_table.specs.declared.table.Field.{Field}
use Rattle.mrpc_table.specs.declared.table.Table.{Table}
use Rattle.text_format.specs.Escapes.{quoted_string}
use Rattle.text_format.specs.Lines.{scalar_line, enclosed}
use Rattle.text_format.specs.Numbers.{IsNumberText}

-- the name of the field with this number
abbrev pub field_name : List Field → ℕ → List ℕ
field_name fs n = unwrap_or (option_map (λ f. f.name) (field_at fs n)) []

abbrev mutual
  -- the text of these fields, at this depth of enclosing messages
  pub IsTextOfFields : Table → List Field → ℕ → Node → List ℕ → Type 0
  IsTextOfFields T fs deep no_fields text = text ≡ []
  IsTextOfFields T fs deep (field n c t) text = (first : List ℕ) × (rest : List ℕ)
      × IsTextOfContent T (field_name fs n) (label_at fs n) (kind_at fs n) deep c first
      × IsTextOfFields T fs deep t rest
      × (text ≡ first ++ rest)

  -- the entries of a field with this name, label and kind
  pub IsTextOfContent : Table → List ℕ → Label → Kind → ℕ → Content → List ℕ → Type 0
  IsTextOfContent T name label k deep (one i) text = IsTextOfItem T name k deep i text
  IsTextOfContent T name label k deep (many is) text = IsTextOfItems T name k deep is text
  IsTextOfContent T name label k deep (pairs ps) text = IsTextOfPairs T name (key_kind label) k deep ps text

  -- the entry of one value
  pub IsTextOfItem : Table → List ℕ → Kind → ℕ → Item → List ℕ → Type 0
  IsTextOfItem T name k deep (number n) text = (value : List ℕ) × IsNumberText T k n value
      × (text ≡ scalar_line deep name value)
  IsTextOfItem T name k deep (run bytes) text = text ≡ scalar_line deep name (quoted_string bytes)
  IsTextOfItem T name k deep (node t) text = (inner : List ℕ)
      × IsTextOfFields T (fields_of T (nested_message k)) (deep + 1) t inner × (text ≡ enclosed deep name inner)

  -- an entry for each element
  pub IsTextOfItems : Table → List ℕ → Kind → ℕ → Items → List ℕ → Type 0
  IsTextOfItems T name k deep no_items text = text ≡ []
  IsTextOfItems T name k deep (item i is) text = (first : List ℕ) × (rest : List ℕ) × IsTextOfItem T name k deep i first
      × IsTextOfItems T name k deep is rest × (text ≡ first ++ rest)

  -- an entry for each pair of a map, with one entry for its key and one for its value
  pub IsTextOfPairs : Table → List ℕ → Kind → Kind → ℕ → Pairs → List ℕ → Type 0
  IsTextOfPairs T name key k deep no_pairs text = text ≡ []
  IsTextOfPairs T name key k deep (pair i j ps) text = (keys : List ℕ) × (values : List ℕ) × (rest : List ℕ)
      × IsTextOfItem T (codes "key") key (deep + 1) i keys × IsTextOfItem T (codes "value") k (deep + 1) j values
      × IsTextOfPairs T name key k deep ps rest × (text ≡ enclosed deep name (keys ++ values) ++ rest)

-- the text of a tree of the message with this index in the table
abbrev pub IsTextOfMessage : Table → ℕ → Node → List ℕ → Type 0
IsTextOfMessage T msg t text = IsTextOfFields T (fields_of T msg) 0 t text
