-- A normal tree without the fields at some paths is normal.
use Rattle.std.proofs.Common.{ℕ, ◌+◌, ◌<◌, ◌≤◌, Bool, true, false, if◌then◌else◌, List, [], ◌∷◌, arith}
use Rattle.std.specs.Prelude.{max, option_map, unwrap_or}
use Rattle.mrpc_table.specs.Calls.{message_at}
use Rattle.mrpc_table.specs.Node.{Node, no_fields, field, Content, one, many, pairs, Item, number, run, node}
use Rattle.mrpc_table.specs.Normal.{fields_of, field_at, membership, members_in, HasOneMemberEach, CanHaveOne, HasFields, HasContent, IsItem, depth, content_depth, item_depth, IsNormal}
use Rattle.mrpc_table.specs.declared.table.Kind.{Kind}
use Rattle.mrpc_table.specs.declared.table.Label.{Label}
use Rattle.mrpc_table.specs.declared.table.Label.TheVariants as label
use Rattle.mrpc_table.specs.declared.table.Field.{Field}
use Rattle.mrpc_table.specs.declared.table.Table.{Table}
use Rattle.mrpc_table.specs.Calls.{IsCallOf}
use Rattle.mrpc_table.specs.declared.call.Call.{Call}
use Rattle.policy_redact.specs.Without.{without, content_without, item_without}
use Rattle.policy_redact.specs.Redacting.{is_listed, cleared_call}
use Rattle.policy_redact.specs.declared.redact.Clear.{Clear}

-- ---- members and depth

fewer : (m a b : ℕ) → a ≤ b → a ≤ m + b
fewer m a b le = omega arith

both : (m a b : ℕ) → a ≤ b → m + a ≤ m + b
both m a b le = omega arith

members : (fs : List Field) (o : ℕ) (p : List ℕ → Bool) (t : Node) → members_in fs o (without p t) ≤ members_in fs o t
members fs o p no_fields = omega arith
members fs o p (field n c t) =
    elim (p (n ∷ [])) as
    (λ (b : Bool). members_in fs o (if b then without p t else field n (content_without (λ path. p (n ∷ path)) c)
    (without p t)) ≤ members_in fs o (field n c t)) [
      | true ↦ fewer (unwrap_or (option_map (λ (f : Field). membership f.label o) (field_at fs n)) 0) _ _ (members fs o p t)
      | false ↦ both (unwrap_or (option_map (λ (f : Field). membership f.label o) (field_at fs n)) 0) _ _ (members fs o p t)
    ]

pub one-member : (fs : List Field) (p : List ℕ → Bool) (t : Node) → HasOneMemberEach fs t → HasOneMemberEach fs (without p t)
one-member fs p t each o = omega (arith, members fs o p t, each o)

deeper : (c a b : ℕ) → a ≤ b → a ≤ max c b
deeper c a b le = omega arith

as_deep : (c d a b : ℕ) → c ≤ d → a ≤ b → max c a ≤ max d b
as_deep c d a b le lf = omega arith

mutual
  pub depths : (p : List ℕ → Bool) (t : Node) → depth (without p t) ≤ depth t
  depths p no_fields = omega arith
  depths p (field n c t) =
      elim (p (n ∷ [])) as (λ (b : Bool). depth (if b then without p t else field n (content_without (λ path. p (n ∷ path)) c) (without p t)) ≤ max (content_depth c) (depth t)) [
        | true ↦ deeper (content_depth c) (depth (without p t)) (depth t) (depths p t)
        | false ↦ as_deep (content_depth (content_without (λ path. p (n ∷ path)) c)) (content_depth c)
            (depth (without p t)) (depth t) (content_depths (λ path. p (n ∷ path)) c) (depths p t)
      ]

  content_depths : (p : List ℕ → Bool) (c : Content) → content_depth (content_without p c) ≤ content_depth c
  content_depths p (one i) = item_depths p i
  content_depths p (many is) = omega arith
  content_depths p (pairs ps) = omega arith

  item_depths : (p : List ℕ → Bool) (i : Item) → item_depth (item_without p i) ≤ item_depth i
  item_depths p (number n) = omega arith
  item_depths p (run bytes) = omega arith
  item_depths p (node t) = omega (arith, depths p t)

-- ---- fields

takes_message : (l : Label) (t u : Node) → CanHaveOne l (node t) → CanHaveOne l (node u)
takes_message label.Plain t u takes = takes
takes_message label.Optional t u takes = takes
takes_message label.Repeated t u takes = takes
takes_message label.Packed t u takes = takes
takes_message (label.Map k) t u takes = takes
takes_message (label.Member o) t u takes = takes

lower : (T : Table) (fs : List Field) (low last : ℕ) (t : Node) → low ≤ last → HasFields T fs last t → HasFields T fs low t
lower T fs low last no_fields le has = tt
lower T fs low last (field n c t) le has = (omega (arith, has.0), has.1, has.2)

le_of : (n last : ℕ) → last < n → last ≤ n
le_of n last lt = omega arith

mutual
  pub has-fields : (T : Table) (fs : List Field) (p : List ℕ → Bool) (last : ℕ) (t : Node) → HasFields T fs last t → HasFields T fs last (without p t)
  has-fields T fs p last no_fields has = tt
  has-fields T fs p last (field n c t) has =
      elim (p (n ∷ [])) as (λ (b : Bool). HasFields T fs last (if b then without p t else field n (content_without (λ path. p (n ∷ path)) c) (without p t))) [
        | true ↦ lower T fs last n (without p t) (le_of n last has.0) (has-fields T fs p n t has.2)
        | false ↦ (has.0, has-content T fs n (λ path. p (n ∷ path)) c has.1, has-fields T fs p n t has.2)
      ]

  has-content : (T : Table) (fs : List Field) (n : ℕ) (p : List ℕ → Bool) (c : Content) → HasContent T fs n c → HasContent T fs n (content_without p c)
  has-content T fs n p (one i) has = (has.0, has.1, takes-item has.0.label p i has.2, is-item T has.0.kind p i has.3)
  has-content T fs n p (many is) has = has
  has-content T fs n p (pairs ps) has = has

  is-item : (T : Table) (k : Kind) (p : List ℕ → Bool) (i : Item) → IsItem T k i → IsItem T k (item_without p i)
  is-item T k p (number n) is = is
  is-item T k p (run bytes) is = is
  is-item T k p (node t) is = (is.0, is.1, has-fields T (fields_of T is.0) p 0 t is.2, one-member (fields_of T is.0) p t is.3)

  takes-item : (l : Label) (p : List ℕ → Bool) (i : Item) → CanHaveOne l i → CanHaveOne l (item_without p i)
  takes-item l p (number n) takes = takes
  takes-item l p (run bytes) takes = takes
  takes-item l p (node t) takes = takes_message l t (without p t) takes

pub normal : (T : Table) (msg : ℕ) (p : List ℕ → Bool) (t : Node) → IsNormal T msg t → IsNormal T msg (without p t)
normal T msg p t is = record {
  fields = has-fields T (fields_of T msg) p 0 t is.fields;
  oneofs = one-member (fields_of T msg) p t is.oneofs;
  depth = omega (arith, depths p t, is.depth);
}

pub call-fits : (T : Table) (clears : List Clear) (call : Call) → IsCallOf T call → IsCallOf T (cleared_call clears call)
call-fits T clears call is = record {
  method = is.method;
  tree = normal T (message_at T call.method call.number) (is_listed clears call) call.tree is.tree;
}
