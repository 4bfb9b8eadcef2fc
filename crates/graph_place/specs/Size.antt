-- The number of words of a message in a heap: those of its node, and those of the content.
use Rattle.std.specs.Prelude.{ℕ, ◌+◌, List, length}
use Rattle.mrpc_table.specs.Node.{Node, no_fields, field, Content, one, many, pairs, Item, number, run, node, Items, no_items, item, Pairs, no_pairs, pair}
use Rattle.mrpc_table.specs.Normal.{fields_of, kind_at}
use Rattle.mrpc_table.specs.Words.{nested_message}
use Rattle.mrpc_table.specs.declared.table.Kind.{Kind}
use Rattle.mrpc_table.specs.declared.table.Field.{Field}
use Rattle.mrpc_table.specs.declared.table.Table.{Table}
use Rattle.graph_form.specs.Roles.{size_words, run_words, element_words}

-- the number of words of a run, and 0 for other values
abbrev pub run_words_of : Item → ℕ
run_words_of (run bytes) = run_words (length bytes)
run_words_of _ = 0

abbrev mutual
  -- the content of all fields of a message
  pub fields_words : Table → List Field → Node → ℕ
  fields_words T fs no_fields = 0
  fields_words T fs (field n c t) = content_words T (kind_at fs n) c + fields_words T fs t

  -- The content of a field besides its slot. Each element has one word, or two if it is a run; each entry of a map
  -- has four.
  pub content_words : Table → Kind → Content → ℕ
  content_words T k (one i) = item_words T k i
  content_words T k (many is) = many_words T k is
  content_words T k (pairs ps) = pairs_words T k ps

  -- The content of a value besides its slot. A run has its bytes, eight to a word; a message has its node with all
  -- content.
  pub item_words : Table → Kind → Item → ℕ
  item_words T k (number n) = 0
  item_words T k (run bytes) = run_words (length bytes)
  item_words T k (node t) = size_words T (nested_message k) + fields_words T (fields_of T (nested_message k)) t

  pub many_words : Table → Kind → Items → ℕ
  many_words T k no_items = 0
  many_words T k (item i is) = element_words k + item_words T k i + many_words T k is

  -- a key is a number or a run
  pub pairs_words : Table → Kind → Pairs → ℕ
  pairs_words T k no_pairs = 0
  pairs_words T k (pair i j ps) = 4 + run_words_of i + item_words T k j + pairs_words T k ps

-- the number of words of a tree of the message at an index of the table
abbrev pub tree_words : Table → ℕ → Node → ℕ
tree_words T msg t = size_words T msg + fields_words T (fields_of T msg) t
