-- Obligations on some connections, and on all.
use Rattle.std.proofs.Common.{◌≡◌, ℕ, ◌<◌, ◌≤◌, true, false, List, [], ◌∷◌, ◌++◌, All, arith, refl, sym, subst}
use Rattle.std.proofs.Common.{Option, Some, None, IfNone, IfSome, IsSome, inl, inr}
use Rattle.std.specs.BTreeMap.{BTreeMap, get, keys}
use Rattle.std.specs.Ordering.{nat_cmp}
use Rattle.std.proofs.lemmas.Cmp.{nat_cmp_total}
use Rattle.std.proofs.lemmas.List.Elements.{All-contains, All-push, All-weaker}
use Rattle.std.proofs.lemmas.Map.Lookups.{exact_unsigned}
use Rattle.std.proofs.lemmas.Map.Views.{btree_map_contains_key_iff}
use Rattle.mrpc_table.specs.declared.table.Table.{Table}
use Rattle.call_history.specs.Trace.{Trace}
use Rattle.call_history.specs.Legal.{History, HasNoObligation, trace_of}
use Rattle.audit_rules.specs.BrokenRules.{HasObligationOf, HasObligation, rule_rank}
use Rattle.audit_rules.specs.declared.checker.Checker.{Checker}
use Rattle.audit_rules.specs.declared.rule.Rule.{Rule}
use Rattle.audit_rules.specs.declared.rule.Rule.TheVariants.{A, B, C, D, E, F, G, Stands}
use Rattle.audit_check.specs.Checking.{IsFirstObligation}
use Rattle.audit_check.specs.States.{IsEarlier, IsFirstObligationIn, KnowsOn, KnowsEach}

-- without an obligation nothing is awaited
pub none_awaited : (past : Trace) → HasNoObligation past → (rule : Rule) → HasObligationOf past rule → ⊥
none_awaited past settled A awaited = awaited
none_awaited past settled B awaited = settled.malformed awaited
none_awaited past settled C awaited = awaited
none_awaited past settled D awaited = settled.quota awaited
none_awaited past settled E awaited = awaited
none_awaited past settled F awaited = awaited
none_awaited past settled G awaited = settled.link awaited
none_awaited past settled Stands awaited = awaited

-- without events there is no obligation
pub nothing_settled : HasNoObligation []
nothing_settled = record { malformed = λ z. z; quota = λ z. z; link = λ link. absurd (let e : false ≡ true = link.failed in cc) }

abbrev NoneBefore : History → Rule → ℕ → Type 0
NoneBefore h rule conn = (other : Rule) → rule_rank other < rule_rank rule → HasObligationOf (trace_of conn h) other → ⊥

settled_before : (h : History) (rule : Rule) (conns : List ℕ) → All (λ conn. HasNoObligation (trace_of conn h)) conns → All (NoneBefore h rule) conns
settled_before h rule conns all =
    All-weaker (λ conn. HasNoObligation (trace_of conn h)) (NoneBefore h rule) (λ conn settled other below. none_awaited (trace_of conn h) settled other) conns all

lower : (h : History) (rule second : Rule) (conn : ℕ) → rule_rank second ≤ rule_rank rule → NoneBefore h rule conn → NoneBefore h second conn
lower h rule second conn le none other below = none other (omega arith)

-- one more connection
pub one_more : (h : History) (conns : List ℕ) (conn : ℕ) (first now later : Option Rule) → IsEarlier first now later → IsFirstObligationIn h conns first
    → IfNone now (HasNoObligation (trace_of conn h)) → IfSome now (HasObligation (trace_of conn h)) → IsFirstObligationIn h (conns ++ conn ∷ []) later
one_more h conns conn None None later e first settled left =
    let P : Option Rule → Type 0 = IsFirstObligationIn h (conns ++ conn ∷ []) in
    subst P (sym e) (All-push (λ conn. HasNoObligation (trace_of conn h)) conns conn first settled)
one_more h conns conn None (Some rule) later e first settled left =
    let P : Option Rule → Type 0 = IsFirstObligationIn h (conns ++ conn ∷ []) in
    subst P (sym e) (record {
      conn = conn;
      awaited = left.awaited;
      earlier = All-push (NoneBefore h rule) conns conn (settled_before h rule conns first) left.earlier;
    })
one_more h conns conn (Some rule) None later e first settled left =
    let P : Option Rule → Type 0 = IsFirstObligationIn h (conns ++ conn ∷ []) in
    subst P (sym e) (record {
      conn = first.conn;
      awaited = first.awaited;
      earlier = All-push (NoneBefore h rule) conns conn first.earlier (λ other below. none_awaited (trace_of conn h) settled other);
    })
one_more h conns conn (Some rule) (Some second) later (inl e) first settled left =
    let P : Option Rule → Type 0 = IsFirstObligationIn h (conns ++ conn ∷ []) in
    subst P (sym e.0) (record {
      conn = first.conn;
      awaited = first.awaited;
      earlier = All-push (NoneBefore h rule) conns conn first.earlier (lower h second rule conn e.1 left.earlier);
    })
one_more h conns conn (Some rule) (Some second) later (inr e) first settled left =
    let P : Option Rule → Type 0 = IsFirstObligationIn h (conns ++ conn ∷ []) in
    subst P (sym e.0) (record {
      conn = conn;
      awaited = left.awaited;
      earlier = All-push (NoneBefore h second) conns conn (All-weaker (NoneBefore h rule) (NoneBefore h second) (λ conn. lower h rule second conn e.1) conns first.earlier) left.earlier;
    })

at_key : (T : Table) (limit : ℕ) (h : History) (m : BTreeMap ℕ Checker) (P : Trace → Type 0) (conn : ℕ) (o : Option Checker)
    → get nat_cmp m conn ≡ o → KnowsOn T limit conn (trace_of conn h) o → All (λ conn. P (trace_of conn h)) (keys m) → P [] → P (trace_of conn h)
at_key T limit h m P conn None e known all none = subst P (sym known) none
at_key T limit h m P conn (Some c) e known all none =
    let is : IsSome (get nat_cmp m conn) = subst IsSome (sym e) refl in
    All-contains (λ conn. P (trace_of conn h)) (keys m) conn all ((btree_map_contains_key_iff nat_cmp_total exact_unsigned m conn).0 is)

-- what holds of the connections of the map, and of one without events, holds of all
pub of_all : (T : Table) (limit : ℕ) (h : History) (m : BTreeMap ℕ Checker) (P : Trace → Type 0) → KnowsEach T limit h m
    → All (λ conn. P (trace_of conn h)) (keys m) → P [] → (conn : ℕ) → P (trace_of conn h)
of_all T limit h m P known all none conn = at_key T limit h m P conn (get nat_cmp m conn) refl (known conn) all none

none_in_nothing : (rule : Rule) → HasObligationOf [] rule → ⊥
none_in_nothing = none_awaited [] nothing_settled

pub all_settled : (T : Table) (limit : ℕ) (h : History) (m : BTreeMap ℕ Checker) (first : Option Rule) → KnowsEach T limit h m
    → IsFirstObligationIn h (keys m) first → IfNone first ((conn : ℕ) → HasNoObligation (trace_of conn h))
all_settled T limit h m None known first = of_all T limit h m HasNoObligation known first nothing_settled
all_settled T limit h m (Some rule) known first = tt

pub first_of_all : (T : Table) (limit : ℕ) (h : History) (m : BTreeMap ℕ Checker) (first : Option Rule) → KnowsEach T limit h m
    → IsFirstObligationIn h (keys m) first → IfSome first (IsFirstObligation h)
first_of_all T limit h m None known first = tt
first_of_all T limit h m (Some rule) known first = record {
  conn = first.conn;
  awaited = first.awaited;
  earlier = λ other conn below.
      of_all T limit h m (λ past. (other : Rule) → rule_rank other < rule_rank rule → HasObligationOf past other → ⊥) known first.earlier
      (λ other below. none_in_nothing other) conn other below;
}
