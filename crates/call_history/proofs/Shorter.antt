-- After a clear, a tree's encoding is never longer.
use Rattle.std.proofs.Common.{◌≡◌, ℕ, zero, suc, ◌+◌, ◌/◌, ◌%◌, ◌<◌, ◌≤◌, Bool, true, false, cond, List, [], ◌∷◌}
use Rattle.std.proofs.Common.{◌++◌, length, refl, sym, ◌∙◌, arith, nat_lt}
use Rattle.std.proofs.lemmas.Bool.{ltb-true, lt-ltb}
use Rattle.std.proofs.lemmas.List.{length-append}
use Rattle.mrpc_table.specs.Calls.{message_at}
use Rattle.mrpc_table.specs.Node.{Node, no_fields, field, Content, one, many, pairs, Item, number, run, node}
use Rattle.mrpc_table.specs.Normal.{fields_of, kind_at}
use Rattle.mrpc_table.specs.Words.{nested_message}
use Rattle.mrpc_table.specs.WireTypes.{wire_type_of}
use Rattle.mrpc_table.specs.declared.call.Call.{Call}
use Rattle.mrpc_table.specs.declared.table.Field.{Field}
use Rattle.mrpc_table.specs.declared.table.Kind.{Kind}
use Rattle.mrpc_table.specs.declared.table.Table.{Table}
use Rattle.policy_redact.specs.Without.{without, content_without, item_without}
use Rattle.policy_redact.specs.Redacting.{cleared_call, is_listed}
use Rattle.policy_redact.specs.declared.redact.Clear.{Clear}
use Rattle.wire_base.specs.Encoding.{groups, varint, tag, delimited, fields_bytes, content_bytes, item_bytes}
use Rattle.call_history.specs.Rules.{payload}

-- ---- varints

-- a smaller number has no more groups
groups-fall : (more m n : ℕ) → m ≤ n → length (groups more m) ≤ length (groups more n)
unfolding groups
groups-fall zero m n less = omega arith
groups-fall (suc more) m n less =
    let fall : length (groups more (m / 128)) ≤ length (groups more (n / 128)) = groups-fall more (m / 128) (n / 128) (omega (arith, less)) in
    let Falls : Bool → Bool → Type 0 = λ a b. length (cond a (m ∷ []) ((m % 128 + 128) ∷ groups more (m / 128)))
    ≤ length (cond b (n ∷ []) ((n % 128 + 128) ∷ groups more (n / 128))) in
    let given : (a b : Bool) → nat_lt m 128 ≡ a → nat_lt n 128 ≡ b → Falls a b = λ a b. elim a as (λ a. nat_lt m 128 ≡ a → nat_lt n 128 ≡ b → Falls a b) [
      | true ↦ elim b as (λ b. nat_lt m 128 ≡ true → nat_lt n 128 ≡ b → Falls true b) [
        | true ↦ λ below too. omega arith
        | false ↦ λ below above. omega arith
      ]
      | false ↦ elim b as (λ b. nat_lt m 128 ≡ false → nat_lt n 128 ≡ b → Falls false b) [
        | true ↦ λ above below. (let small : n < 128 = ltb-true n 128 below in let wrong : false ≡ true = sym above ∙ lt-ltb m 128 (omega (arith, small, less)) in absurd cc)
        | false ↦ λ above too. omega (arith, fall)
      ]
    ] in
    given (nat_lt m 128) (nat_lt n 128) refl refl

varint-falls : (m n : ℕ) → m ≤ n → length (varint m) ≤ length (varint n)
unfolding varint
varint-falls m n less = groups-fall 9 m n less

delimited-falls : (a b : List ℕ) → length a ≤ length b → length (delimited a) ≤ length (delimited b)
delimited-falls a b less = omega (arith, length-append (varint (length a)) a, length-append (varint (length b)) b, varint-falls (length a) (length b) less, less)

append-falls : (a b c d : List ℕ) → length a ≤ length c → length b ≤ length d → length (a ++ b) ≤ length (c ++ d)
append-falls a b c d first second = omega (arith, length-append a b, length-append c d, first, second)

-- ---- trees

one-falls : (T : Table) (fs : List Field) (at : List ℕ → Bool) (n : ℕ) (i : Item)
    → length (item_bytes T (kind_at fs n) (item_without at i)) ≤ length (item_bytes T (kind_at fs n) i)
    → length (content_bytes T fs n (one (item_without at i))) ≤ length (content_bytes T fs n (one i))
one-falls T fs at n i less =
    append-falls (tag n (wire_type_of (kind_at fs n))) (item_bytes T (kind_at fs n) (item_without at i))
    (tag n (wire_type_of (kind_at fs n))) (item_bytes T (kind_at fs n) i) (omega arith) less

field-falls : (T : Table) (fs : List Field) (at : List ℕ → Bool) (n : ℕ) (c : Content) (t : Node) (gone : Bool)
    → length (content_bytes T fs n (content_without (λ path. at (n ∷ path)) c)) ≤ length (content_bytes T fs n c)
    → length (fields_bytes T fs (without at t)) ≤ length (fields_bytes T fs t)
    → length (fields_bytes T fs (cond gone (without at t) (field n (content_without (λ path. at (n ∷ path)) c) (without at t)))) ≤ length (fields_bytes T fs (field n c t))
field-falls T fs at n c t true first rest = omega (arith, length-append (content_bytes T fs n c) (fields_bytes T fs t), rest)
field-falls T fs at n c t false first rest =
    append-falls (content_bytes T fs n (content_without (λ path. at (n ∷ path)) c)) (fields_bytes T fs (without at t))
    (content_bytes T fs n c) (fields_bytes T fs t) first rest

mutual
  pub fields-fall : (T : Table) (fs : List Field) (at : List ℕ → Bool) (t : Node) → length (fields_bytes T fs (without at t)) ≤ length (fields_bytes T fs t)
  fields-fall T fs at no_fields = omega arith
  fields-fall T fs at (field n c t) =
      field-falls T fs at n c t (at (n ∷ [])) (content-falls T fs (λ path. at (n ∷ path)) n c) (fields-fall T fs at t)

  content-falls : (T : Table) (fs : List Field) (at : List ℕ → Bool) (n : ℕ) (c : Content) → length (content_bytes T fs n (content_without at c)) ≤ length (content_bytes T fs n c)
  content-falls T fs at n (one i) = one-falls T fs at n i (item-falls T (kind_at fs n) at i)
  content-falls T fs at n (many is) = omega arith
  content-falls T fs at n (pairs ps) = omega arith

  item-falls : (T : Table) (k : Kind) (at : List ℕ → Bool) (i : Item) → length (item_bytes T k (item_without at i)) ≤ length (item_bytes T k i)
  item-falls T k at (number n) = omega arith
  item-falls T k at (run bytes) = omega arith
  item-falls T k at (node t) = delimited-falls (fields_bytes T (fields_of T (nested_message k)) (without at t))
      (fields_bytes T (fields_of T (nested_message k)) t) (fields-fall T (fields_of T (nested_message k)) at t)

-- the payload of a call after clears
pub payload-falls : (T : Table) (clears : List Clear) (call : Call) → length (payload T (cleared_call clears call)) ≤ length (payload T call)
payload-falls T clears call = fields-fall T (fields_of T (message_at T call.method call.number)) (is_listed clears call) call.tree
