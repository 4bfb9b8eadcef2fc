-- What the lines of a script before one guarantee for the connection of that line.
use Rattle.std.proofs.Common.{◌≡◌, ℕ, ◌+◌, ◌<◌, ◌≤◌, ◌==◌, not, Bool, true, false, cond, List, [], ◌∷◌, length, map, take, drop, refl, subst, arith}
use Rattle.std.specs.Prelude.{Option, Some, None, All, slice_get, option_map}
use Rattle.std.specs.List.{AllByRecursion}
use Rattle.std.proofs.lemmas.List.Elements.{All-append, All-cons, All-drop, All-filter, All-map, All-nil, All-take, All-weaker}
use Rattle.engine_core.specs.Chains.{Chain, Entry, changed, is_named, new_entry, upgraded}
use Rattle.engine_core.specs.Policies.{IsPolicy, KnowsTenantOf}
use Rattle.engine_core.specs.declared.op.Op.{Op}
use Rattle.engine_core.specs.declared.op.Op.TheVariants.{Attach, Detach, Upgrade}
use Rattle.engine_core.specs.declared.policy.Policy.{Policy}
use Rattle.policy_declarations.specs.declared.declaration.NamedPolicy.{NamedPolicy}
use Rattle.replay_script.specs.Lines.{op_in, conn_of, chain_after, chain_after_lines, new_chain, chain_after_op}
use Rattle.replay_script.specs.declared.script.ScriptLine.{ScriptLine}
use Rattle.replay_script.specs.declared.script.ScriptLine.TheVariants as line

-- ---- the chains that lines lead to

-- a policy of a script
abbrev pub IsGood : (tenants : ℕ) → Policy → Type 0
IsGood tenants policy = IsPolicy policy × KnowsTenantOf (λ place. place < tenants) policy

-- an entry after this many lines
pub record IsModest (tenants lines : ℕ) (e : Entry) : Type 0 where
  pub version : e.version ≤ lines
  pub good : IsGood tenants e.policy

-- a chain after this many lines
pub record IsModestChain (tenants lines : ℕ) (c : Chain) : Type 0 where
  pub attached : c.attached ≤ lines
  pub entries : All (IsModest tenants lines) c.entries

abbrev pub IsGoodStep : ℕ → Op → Type 0
IsGoodStep tenants (Attach at name label policy) = IsGood tenants policy
IsGoodStep tenants (Detach name) = Unit {0}
IsGoodStep tenants (Upgrade name label policy) = IsGood tenants policy

modest-later : (tenants lines : ℕ) (e : Entry) → IsModest tenants lines e → IsModest tenants (lines + 1) e
modest-later tenants lines e modest = record { version = let v : e.version ≤ lines = modest.version in omega arith; good = modest.good }

entries-later : (tenants lines : ℕ) (entries : List Entry) → All (IsModest tenants lines) entries → All (IsModest tenants (lines + 1)) entries
entries-later tenants lines entries modest = All-weaker (IsModest tenants lines) (IsModest tenants (lines + 1)) (modest-later tenants lines) entries modest

upgrade-one : (tenants lines : ℕ) (policy : Policy) → IsGood tenants policy → (e : Entry) (b : Bool) → IsModest tenants lines e
    → IsModest tenants (lines + 1) (cond b (upgraded e policy) e)
upgrade-one tenants lines policy good e true modest = record { version = let v : e.version ≤ lines = modest.version in omega arith; good = good }
upgrade-one tenants lines policy good e false modest = modest-later tenants lines e modest

pub step-modest : (tenants lines : ℕ) (step : Op) (c : Chain) → IsGoodStep tenants step → IsModestChain tenants lines c → IsModestChain tenants (lines + 1) (changed step c)
step-modest tenants lines (Attach at name label policy) c good modest =
    let P : Entry → Type 0 = IsModest tenants (lines + 1) in
    let all : All P c.entries = entries-later tenants lines c.entries modest.entries in
    let n : c.attached ≤ lines = modest.attached in
    record {
      attached = omega arith;
      entries = All-append P (take at c.entries) (new_entry name (c.attached + 1) policy ∷ drop at c.entries) (All-take P at c.entries all)
          (All-cons P (new_entry name (c.attached + 1) policy) (drop at c.entries) (record { version = omega arith; good = good }) (All-drop P at c.entries all));
    }
step-modest tenants lines (Detach name) c good modest =
    let P : Entry → Type 0 = IsModest tenants (lines + 1) in
    let n : c.attached ≤ lines = modest.attached in
    record {
      attached = omega arith;
      entries = All-filter (λ e. not (is_named name e)) P c.entries (entries-later tenants lines c.entries modest.entries);
    }
step-modest tenants lines (Upgrade name label policy) c good modest =
    let P : Entry → Type 0 = IsModest tenants (lines + 1) in
    let n : c.attached ≤ lines = modest.attached in
    record {
      attached = omega arith;
      entries = All-map P (λ e. cond (is_named name e) (upgraded e policy) e) c.entries
          (All-weaker (IsModest tenants lines) (λ e. P (cond (is_named name e) (upgraded e policy) e))
          (λ e one. upgrade-one tenants lines policy good e (is_named name e) one) c.entries modest.entries);
    }

-- the policies of a script's lines are valid
abbrev pub ArePolicies : (tenants : ℕ) → List NamedPolicy → Type 0
ArePolicies tenants policies = (place : ℕ) (p : NamedPolicy) → slice_get policies place ≡ Some p → IsGood tenants p.policy

abbrev pub IsGoodOption : ℕ → Option Op → Type 0
IsGoodOption tenants None = Unit {0}
IsGoodOption tenants (Some step) = IsGoodStep tenants step

attach-good : (tenants : ℕ) (at : ℕ) (name : List ℕ) (p : Option NamedPolicy) → ((q : NamedPolicy) → p ≡ Some q → IsGood tenants q.policy)
    → IsGoodOption tenants (option_map (λ q. Attach at name q.name q.policy) p)
attach-good tenants at name None good = tt
attach-good tenants at name (Some q) good = good q refl

upgrade-good : (tenants : ℕ) (name : List ℕ) (p : Option NamedPolicy) → ((q : NamedPolicy) → p ≡ Some q → IsGood tenants q.policy)
    → IsGoodOption tenants (option_map (λ q. Upgrade name q.name q.policy) p)
upgrade-good tenants name None good = tt
upgrade-good tenants name (Some q) good = good q refl

pub op-good : (tenants : ℕ) (policies : List NamedPolicy) → ArePolicies tenants policies → (l : ScriptLine) → IsGoodOption tenants (op_in policies l)
op-good tenants policies good (line.Conn conn words) = tt
op-good tenants policies good (line.Store c place value) = tt
op-good tenants policies good (line.Race c load place value) = tt
op-good tenants policies good (line.Submit c method number addr) = tt
op-good tenants policies good (line.Attach c at name policy) = attach-good tenants at name (slice_get policies policy) (λ q is. good policy q is)
op-good tenants policies good (line.Detach c name) = tt
op-good tenants policies good (line.Upgrade c name policy) = upgrade-good tenants name (slice_get policies policy) (λ q is. good policy q is)
op-good tenants policies good (line.Moment c ms) = tt
op-good tenants policies good (line.Turn c at) = tt
op-good tenants policies good (line.Send c) = tt
op-good tenants policies good (line.Drain c) = tt

done-modest : (tenants lines : ℕ) (step : Option Op) (c : Chain) → IsGoodOption tenants step → IsModestChain tenants lines c → IsModestChain tenants (lines + 1) (chain_after_op step c)
done-modest tenants lines None c good modest = record {
  attached = let n : c.attached ≤ lines = modest.attached in omega arith;
  entries = entries-later tenants lines c.entries modest.entries;
}
done-modest tenants lines (Some step) c good modest = step-modest tenants lines step c good modest

with-modest : (tenants lines : ℕ) (b : Bool) (step : Option Op) (c : Chain) → IsGoodOption tenants step
    → IsModestChain tenants lines c → IsModestChain tenants (lines + 1) (cond b (chain_after_op step c) c)
with-modest tenants lines true step c good modest = done-modest tenants lines step c good modest
with-modest tenants lines false step c good modest = done-modest tenants lines None c tt modest

behind-modest : (tenants : ℕ) (policies : List NamedPolicy) → ArePolicies tenants policies → (lines : ℕ) (c : Chain) (ls : List ScriptLine) (conn : ℕ) → IsModestChain tenants lines c
    → IsModestChain tenants (lines + length ls) (chain_after policies c ls conn)
behind-modest tenants policies good lines c [] conn modest = subst (λ n. IsModestChain tenants n c) (let same : lines ≡ lines + 0 = omega arith in same) modest
behind-modest tenants policies good lines c (l ∷ ls) conn modest =
    let next : Chain = cond (conn_of l == conn) (chain_after_op (op_in policies l) c) c in
    subst (λ n. IsModestChain tenants n (chain_after policies next ls conn)) (let same : lines + 1 + length ls ≡ lines + length (l ∷ ls) = omega arith in same)
    (behind-modest tenants policies good (lines + 1) next ls conn
    (with-modest tenants lines (conn_of l == conn) (op_in policies l) c (op-good tenants policies good l) modest))

pub chain-modest : (tenants : ℕ) (policies : List NamedPolicy) → ArePolicies tenants policies
    → (ls : List ScriptLine) (conn : ℕ) → IsModestChain tenants (length ls) (chain_after_lines policies ls conn)
chain-modest tenants policies good ls conn =
    subst (λ n. IsModestChain tenants n (chain_after_lines policies ls conn)) (let same : 0 + length ls ≡ length ls = omega arith in same)
    (behind-modest tenants policies good 0 new_chain ls conn (record { attached = omega arith; entries = All-nil (IsModest tenants 0) }))

-- ---- the same for engines

-- what holds for each image holds for each
pub All-unmap : {X Y : Type 0} (P : Y → Type 0) (f : X → Y) (xs : List X) → AllByRecursion P (map f xs) → AllByRecursion (λ x. P (f x)) xs
All-unmap P f [] all = tt
All-unmap P f (x ∷ xs) all = (all.0, All-unmap P f xs all.1)
