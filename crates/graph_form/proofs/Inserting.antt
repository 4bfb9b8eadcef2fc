-- A tree in normal form with one more field, in order.
use Rattle.std.proofs.Common.{◌≡◌, ◌≢◌, ℕ, ◌+◌, ◌<◌, ◌≤◌, Bool, true, false, nat_lt, cond, List, refl, arith, max}
use Rattle.std.specs.Prelude.{option_map, unwrap_or}
use Rattle.std.proofs.lemmas.Bool.Decides.{nat_tests}
use Rattle.mrpc_table.specs.Node.{Node, no_fields, field, Content}
use Rattle.mrpc_table.specs.Normal.{field_at, membership, members_in, HasFields, HasContent, depth, content_depth}
use Rattle.mrpc_table.specs.declared.table.Field.{Field}
use Rattle.mrpc_table.specs.declared.table.Table.{Table}
use Rattle.graph_form.specs.Forgotten.{insert_field}

-- each number of the tree has the property
abbrev pub NumbersAre : (ℕ → Type 0) → Node → Type 0
NumbersAre Q no_fields = Unit {0}
NumbersAre Q (field n c t) = Q n × NumbersAre Q t

pub numbers-weaker : (Q R : ℕ → Type 0) (t : Node) → ((n : ℕ) → Q n → R n) → NumbersAre Q t → NumbersAre R t
numbers-weaker Q R no_fields f h = tt
numbers-weaker Q R (field n c t) f h = (f n h.0, numbers-weaker Q R t f h.1)

abbrev Insert : ℕ → Content → ℕ → Content → Node → Bool → Node
Insert n c m d t b = cond b (field n c (field m d t)) (field m d (insert_field n c t))

numbers-go : (Q : ℕ → Type 0) (n : ℕ) (c : Content) (m : ℕ) (d : Content) (t : Node) (b : Bool) → Q n
    → Q m × NumbersAre Q t → NumbersAre Q (insert_field n c t) → NumbersAre Q (Insert n c m d t b)
numbers-go Q n c m d t true one h rest = (one, h)
numbers-go Q n c m d t false one h rest = (h.0, rest)

pub numbers-insert : (Q : ℕ → Type 0) (n : ℕ) (c : Content) (t : Node) → Q n → NumbersAre Q t → NumbersAre Q (insert_field n c t)
numbers-insert Q n c no_fields one h = (one, tt)
numbers-insert Q n c (field m d t) one h = numbers-go Q n c m d t (nat_lt n m) one h (numbers-insert Q n c t one h.1)

fields-go : (T : Table) (fs : List Field) (last n : ℕ) (c : Content) (m : ℕ) (d : Content) (t : Node) (b : Bool)
    → nat_lt n m ≡ b → last < n → HasContent T fs n c → m ≢ n → (last < m) × HasContent T fs m d × HasFields T fs m t
    → (m < n → HasFields T fs m (insert_field n c t)) → HasFields T fs last (Insert n c m d t b)
fields-go T fs last n c m d t true e less has other h rest = (less, has, (let below : n < m = grind (arith, nat_tests) in below, h.1, h.2))
fields-go T fs last n c m d t false e less has other h rest = (h.0, h.1, rest (let below : m < n = grind (arith, nat_tests) in below))

pub fields-insert : (T : Table) (fs : List Field) (last n : ℕ) (c : Content) (t : Node) → last < n
    → HasContent T fs n c → NumbersAre (λ m. m ≢ n) t → HasFields T fs last t
    → HasFields T fs last (insert_field n c t)
fields-insert T fs last n c no_fields less has others h = (less, has, tt)
fields-insert T fs last n c (field m d t) less has others h =
    fields-go T fs last n c m d t (nat_lt n m) refl less has others.0 h (λ below. fields-insert T fs m n c t below has others.1 h.2)

depth-go : (room n : ℕ) (c : Content) (m : ℕ) (d : Content) (t : Node) (b : Bool) → content_depth c ≤ room
    → max (content_depth d) (depth t) ≤ room → depth (insert_field n c t) ≤ room → depth (Insert n c m d t b) ≤ room
depth-go room n c m d t true one h rest = omega (arith, one, h)
depth-go room n c m d t false one h rest = omega (arith, h, rest)

pub depth-insert : (room n : ℕ) (c : Content) (t : Node) → content_depth c ≤ room → depth t ≤ room → depth (insert_field n c t) ≤ room
depth-insert room n c no_fields one h = omega (arith, one, h)
depth-insert room n c (field m d t) one h = depth-go room n c m d t (nat_lt n m) one h (depth-insert room n c t one (omega (arith, h)))

-- the number of oneof members with a field number: 0 or 1
abbrev pub members_at : List Field → ℕ → ℕ → ℕ
members_at fs o n = unwrap_or (option_map (λ f. membership f.label o) (field_at fs n)) 0

members-go : (fs : List Field) (o n : ℕ) (c : Content) (m : ℕ) (d : Content) (t : Node) (b : Bool)
    → members_in fs o (insert_field n c t) ≡ members_at fs o n + members_in fs o t
    → members_in fs o (Insert n c m d t b) ≡ members_at fs o n + members_in fs o (field m d t)
members-go fs o n c m d t true rest = refl
members-go fs o n c m d t false rest = omega (arith, rest)

pub members-insert : (fs : List Field) (o n : ℕ) (c : Content) (t : Node) → members_in fs o (insert_field n c t) ≡ members_at fs o n + members_in fs o t
members-insert fs o n c no_fields = refl
members-insert fs o n c (field m d t) = members-go fs o n c m d t (nat_lt n m) (members-insert fs o n c t)
