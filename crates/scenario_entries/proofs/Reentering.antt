-- The entry and the policy at an index.
use Rattle.std.proofs.Common.{◌≡◌, ℕ, ◌<◌, List, Some, get_or, length, refl, sym, ◌∙◌, subst}
use Rattle.std.specs.Prelude.{String, slice_get}
use Rattle.std.specs.BTreeMap.{BTreeMap}
use Rattle.std.specs.Borrow.{Bor}
use Rattle.std.specs.declared.alloc.Global.{Global}
use Rattle.std.proofs.lemmas.Option.{same_Some, slice_get_read}
use Rattle.mrpc_table.specs.declared.table.Table.{Table}
use Rattle.policy_declarations.specs.declared.declaration.NamedPolicy.{NamedPolicy}
use Rattle.toml.specs.Data.{Members}
use Rattle.toml.specs.View.{table_view}
use Rattle.toml.specs.declared.value.Value.{Value}
use Rattle.scenario_lines.specs.Programs.{Each}
use Rattle.scenario.specs.Policies.{IsPolicyOfKind, IsPolicyMeaning}
use Rattle.scenario_entries.specs.Entries.{views}
use Rattle.scenario_entries.proofs.Distinct.{get_map}
use Rattle.scenario_entries.proofs.PolicyLists.{each_at}

module _ (entries : List (Bor (BTreeMap (String Global) Value))) (i : ℕ) (e : Bor (BTreeMap (String Global) Value)) where
  pub entry_at : i < length entries → e ≡ get_or entries i e → slice_get (views entries) i ≡ Some (table_view e.now)
  entry_at within is =
      get_map (λ (t : Bor (BTreeMap (String Global) Value)). table_view t.now) entries i e (slice_get_read entries (length entries) i e refl within is)

pub said_at : (shared : Table) (tenants : List Members) (entries : List (Bor (BTreeMap (String Global) Value))) (policies : List NamedPolicy) (i : ℕ)
    (e : Bor (BTreeMap (String Global) Value)) (p : NamedPolicy) → Each (IsPolicyMeaning shared tenants) (views entries) policies
    → slice_get (views entries) i ≡ Some (table_view e.now) → p ≡ get_or policies i p → i < length policies
    → IsPolicyOfKind shared tenants (table_view e.now) (get_or policies i p).policy
said_at shared tenants entries policies i e p says there is within =
    let entry = each_at (IsPolicyMeaning shared tenants) (views entries) policies i p says (slice_get_read policies (length policies) i p refl within is) in
    let same = same_Some entry.0 (table_view e.now) (sym entry.1 ∙ there) in
    subst (λ (q : NamedPolicy). IsPolicyOfKind shared tenants (table_view e.now) q.policy) is
    (subst (λ (m : Members). IsPolicyOfKind shared tenants m p.policy) same entry.2.policy)
