-- How a proof distinguishes two trees: each has a code of its own.
use Rattle.std.specs.Prelude.{◌≡◌, refl}
use Rattle.std.specs.Coded.{Coded, coded_ℕ, coded_list}
use Rattle.std.proofs.Common.{ap}
use base.Stored.{Gv, gnil, gnum, gcons, num}
use Rattle.mrpc_table.specs.Node.{Node, no_fields, field, Content, one, many, pairs, Item, number, run, node, Items, no_items, item, Pairs, no_pairs, pair}

abbrev mutual
  pub code_node : Node → Gv
  code_node no_fields = gnil
  code_node (field n c t) = gcons (gnum n) (gcons (code_content c) (code_node t))

  pub code_content : Content → Gv
  code_content (one i) = gcons (gnum 0) (code_item i)
  code_content (many is) = gcons (gnum 1) (code_items is)
  code_content (pairs ps) = gcons (gnum 2) (code_pairs ps)

  pub code_item : Item → Gv
  code_item (number n) = gcons (gnum 0) (gnum n)
  code_item (run bs) = gcons (gnum 1) ((coded_list coded_ℕ).code bs)
  code_item (node t) = gcons (gnum 2) (code_node t)

  pub code_items : Items → Gv
  code_items no_items = gnil
  code_items (item i is) = gcons (code_item i) (code_items is)

  pub code_pairs : Pairs → Gv
  code_pairs no_pairs = gnil
  code_pairs (pair k v ps) = gcons (code_item k) (gcons (code_item v) (code_pairs ps))

abbrev pub code_head : Gv → Gv
code_head gnil = gnil
code_head (gnum n) = gnil
code_head (gcons a b) = a

abbrev pub code_tail : Gv → Gv
code_tail gnil = gnil
code_tail (gnum n) = gnil
code_tail (gcons a b) = b

mutual
  pub inj_node : (x y : Node) → code_node x ≡ code_node y → x ≡ y
  inj_node no_fields no_fields p = refl
  inj_node (field n c t) (field m d u) p =
      λ i. field (num (code_head (p i))) (inj_content c d (ap (λ g. code_head (code_tail g)) p) i)
      (inj_node t u (ap (λ g. code_tail (code_tail g)) p) i)
  inj_node no_fields (field m d u) p = cc
  inj_node (field n c t) no_fields p = cc

  pub inj_content : (x y : Content) → code_content x ≡ code_content y → x ≡ y
  inj_content (one i) (one j) p = ap one (inj_item i j (ap code_tail p))
  inj_content (many i) (many j) p = ap many (inj_items i j (ap code_tail p))
  inj_content (pairs i) (pairs j) p = ap pairs (inj_pairs i j (ap code_tail p))
  inj_content (one i) (many j) p = cc
  inj_content (one i) (pairs j) p = cc
  inj_content (many i) (one j) p = cc
  inj_content (many i) (pairs j) p = cc
  inj_content (pairs i) (one j) p = cc
  inj_content (pairs i) (many j) p = cc

  pub inj_item : (x y : Item) → code_item x ≡ code_item y → x ≡ y
  inj_item (number m) (number n) p = ap number (ap (λ g. num (code_tail g)) p)
  inj_item (run i) (run j) p = ap run ((coded_list coded_ℕ).inj i j (ap code_tail p))
  inj_item (node i) (node j) p = ap node (inj_node i j (ap code_tail p))
  inj_item (number i) (run j) p = cc
  inj_item (number i) (node j) p = cc
  inj_item (run i) (number j) p = cc
  inj_item (run i) (node j) p = cc
  inj_item (node i) (number j) p = cc
  inj_item (node i) (run j) p = cc

  pub inj_items : (x y : Items) → code_items x ≡ code_items y → x ≡ y
  inj_items no_items no_items p = refl
  inj_items (item a x) (item b y) p = λ i. item (inj_item a b (ap code_head p) i) (inj_items x y (ap code_tail p) i)
  inj_items no_items (item b bs) p = cc
  inj_items (item a x) no_items p = cc

  pub inj_pairs : (x y : Pairs) → code_pairs x ≡ code_pairs y → x ≡ y
  inj_pairs no_pairs no_pairs p = refl
  inj_pairs (pair a v x) (pair b w y) p =
      λ i. pair (inj_item a b (ap code_head p) i) (inj_item v w (ap (λ g. code_head (code_tail g)) p) i)
      (inj_pairs x y (ap (λ g. code_tail (code_tail g)) p) i)
  inj_pairs no_pairs (pair b w bs) p = cc
  inj_pairs (pair a v x) no_pairs p = cc

abbrev pub node_code : Coded Node
node_code = record { code = code_node; inj = inj_node }
