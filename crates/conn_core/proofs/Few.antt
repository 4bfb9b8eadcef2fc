-- The counters of a connection are at most the length of its history.
use Rattle.std.proofs.Common.{◌≡◌, ℕ, ◌+◌, ◌≤◌, Bool, true, false, cond, if◌then◌else◌, not, List, [], ◌∷◌, ◌++◌}
use Rattle.std.proofs.Common.{length, map, take, drop, ap, sym, subst, arith, length-append}
use Rattle.std.specs.Prelude.{All}
use Rattle.std.proofs.lemmas.List.{length-reverse, length-map, get_or-map}
use Rattle.std.proofs.lemmas.List.Elements.{All-append, All-cons, All-drop, All-filter, All-map, All-nil, All-take, All-weaker}
use Rattle.engine_core.specs.Chains.{Chain, Entry, is_named, new_entry, upgraded}
use Rattle.engine_core.specs.Engines.{EngineParts}
use Rattle.engine_core.specs.declared.op.Op.TheVariants.{Attach, Detach, Upgrade}
use Rattle.engine_core.specs.declared.policy.Policy.{Policy}
use Rattle.call_history.specs.Trace.{Trace, chain, taken}
use Rattle.call_history.specs.declared.happening.Happening.TheVariants.{Took, Op}
use Rattle.conn_core.specs.Connections.{Connection, IsConnection, conn_trace}

few-taken : (past : Trace) → length (taken past) ≤ length past
few-taken [] = omega arith
few-taken (Took call ∷ past) = omega (arith, length-append (taken past) (call ∷ []), few-taken past)
few-taken (x ∷ past) = omega (arith, few-taken past)

few-attached : (past : Trace) → (chain past).attached ≤ length past
few-attached [] = omega arith
few-attached (Op (Attach at name label policy) ∷ past) = omega (arith, few-attached past)
few-attached (Op (Detach name) ∷ past) = omega (arith, few-attached past)
few-attached (Op (Upgrade name label policy) ∷ past) = omega (arith, few-attached past)
few-attached (x ∷ past) = omega (arith, few-attached past)

upgraded-few : (name : List ℕ) (policy : Policy) (n : ℕ) (e : Entry) (b : Bool) → e.version ≤ n
    → (cond b (upgraded e policy) e).version ≤ n + 1
upgraded-few name policy n e true few = omega (arith, few)
upgraded-few name policy n e false few = omega (arith, few)

few-versions : (past : Trace) → All (λ e. e.version ≤ length past) (chain past).entries
few-versions [] = All-nil (λ (e : Entry). e.version ≤ 0)
few-versions (Op (Attach at name label policy) ∷ past) =
    let all : All (λ (e : Entry). e.version ≤ length past + 1) (chain past).entries =
    All-weaker (λ (e : Entry). e.version ≤ length past) (λ (e : Entry). e.version
    ≤ length past + 1) (λ e few. omega (arith, few)) (chain past).entries (few-versions past) in
    let larger : All (λ (e : Entry). e.version ≤ length past + 1)
    (take at (chain past).entries ++ new_entry name ((chain past).attached + 1) policy ∷ drop at (chain past).entries) =
    All-append (λ (e : Entry). e.version ≤ length past + 1) (take at (chain past).entries)
    (new_entry name ((chain past).attached + 1) policy ∷ drop at (chain past).entries)
    (All-take (λ (e : Entry). e.version ≤ length past + 1) at (chain past).entries all)
    (All-cons (λ (e : Entry). e.version ≤ length past + 1) (new_entry name ((chain past).attached + 1) policy)
    (drop at (chain past).entries) (omega arith)
    (All-drop (λ (e : Entry). e.version ≤ length past + 1) at (chain past).entries all)) in
    λ k d within. (let here = larger k d within in omega (arith, here))
few-versions (Op (Detach name) ∷ past) =
    All-filter (λ e. not (is_named name e)) (λ (e : Entry). e.version ≤ length (Op (Detach name) ∷ past))
    (chain past).entries
    (All-weaker (λ (e : Entry). e.version ≤ length past) (λ (e : Entry). e.version ≤ length (Op (Detach name) ∷ past))
    (λ e few. omega (arith, few)) (chain past).entries (few-versions past))
few-versions (Op (Upgrade name label policy) ∷ past) =
    let all : All (λ (e : Entry). e.version ≤ length past + 1) (map (λ e. if is_named name e then upgraded e policy
    else e) (chain past).entries) =
    All-map (λ (e : Entry). e.version ≤ length past + 1) (λ e. if is_named name e then upgraded e policy
    else e) (chain past).entries
    (All-weaker (λ (e : Entry). e.version ≤ length past) (λ (e : Entry). (if is_named name e then upgraded e policy
    else e).version ≤ length past + 1)
    (λ e few. upgraded-few name policy (length past) e (is_named name e) few) (chain past).entries (few-versions past))
    in
    λ k d within. (let here = all k d within in omega (arith, here))
few-versions (x ∷ past) =
    All-weaker (λ (e : Entry). e.version ≤ length past) (λ (e : Entry). e.version ≤ length (x ∷ past)) (λ e few.
    omega (arith, few)) (chain past).entries (few-versions past)

pub few-calls : (c : Connection) → length (taken (conn_trace c)) ≤ length c.happenings
few-calls c = omega (arith, few-taken (conn_trace c), length-reverse c.happenings)

pub few-attachments : (c : Connection) → IsConnection c → c.chain.attached ≤ length c.happenings
few-attachments c holds =
    let attached : c.chain.attached ≡ (chain (conn_trace c)).attached =
    ap (λ (chain : Chain). chain.attached) holds.same_chain in
    omega (arith, few-attached (conn_trace c), length-reverse c.happenings, attached)

pub few-upgrades : (c : Connection) → IsConnection c
    → All (λ e. e.entry.version ≤ length c.happenings) c.chain.engines
few-upgrades c holds k d within =
    let all : All (λ (e : Entry). e.version ≤ length (conn_trace c)) (map (λ (e : EngineParts). e.entry) c.chain.engines) =
    subst (λ (chain : Chain). All (λ (e : Entry). e.version ≤ length (conn_trace c)) chain.entries) (sym holds.same_chain)
    (few-versions (conn_trace c)) in
    let here = all k d.entry (omega (arith, within, length-map c.chain.engines (λ (e : EngineParts). e.entry))) in
    let same = ap (λ (e : Entry). e.version)
    (get_or-map (λ (e : EngineParts). e.entry) c.chain.engines k d d.entry within) in
    omega (arith, here, same, length-reverse c.happenings)
