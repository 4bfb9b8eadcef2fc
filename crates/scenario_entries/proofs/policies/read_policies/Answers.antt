use Rattle.std.proofs.Common.{◌≡◌, ◌+◌, ◌++◌, ◌∷◌, [], List, Result, take, drop, refl, sym, ◌∙◌, subst, arith}
use Rattle.std.specs.Prelude.{IfOk}
use Rattle.policy_declarations.specs.Declarations.{Declared, with_declaration}
use Rattle.policy_declarations.specs.declared.declaration.Declaration.TheVariants as item
use Rattle.policy_declarations.specs.declared.declaration.NamedPolicy.{NamedPolicy}
use Rattle.policy_declarations.specs.declared.declaration.Tenant.{Tenant}
use Rattle.toml.specs.Data.{Members}
use Rattle.toml.specs.View.{table_view}
use Rattle.scenario_lines.specs.Programs.{Each}
use Rattle.scenario.specs.Policies.{IsPolicyFault, IsPolicyMeaning, IsTenantMeaning}
use Rattle.scenario.specs.declared.fault.ScenarioReason.{ScenarioReason}
use Rattle.scenario_entries.specs.Entries.{AreFaultFree, IsEntryRead, views}
use Rattle.scenario_entries.proofs.PolicyLists.{each_push}
use Rattle.scenario_entries.proofs.PolicyListing.{first_at, free_none, free_push, views_all, views_count, views_more, views_whole}
use Rattle.scenario_entries.proofs.policies.read_policies.Goals as goal

pub loop-entry-init : goal.loop-entry-init
loop-entry-init c = record {
  numbered = refl;
  tenants = refl;
  free = λ before says none. (
    free_none (IsPolicyFault c.args.table.now before),
    subst (λ (ps : List NamedPolicy). Each (IsPolicyMeaning c.args.table.now before) [] ps) (sym none) tt,
  );
}

pub returns-in-Err : goal.returns-in-Err
returns-in-Err c = λ before says none.
    let entries = c.args.entries.now in
    let i = c.loop-entry.entry-index in
    let e = c.entry-item.result in
    let within = c.loop-entry-test.true in
    let T = c.args.table.now in
    let ms = table_view e.now in
    let seen = views (take i entries) in
    let so_far = c.loop-entry.invariant.free before says none in
    let tenants = subst (λ (ts : List Tenant). Each IsTenantMeaning before ts) (sym c.loop-entry.invariant.tenants) says in
    let count = views_count entries i e within c.entry-item.is in
    let first = subst (λ (r : Result Declared ScenarioReason). IsEntryRead (IsPolicyFault T before seen ms)
    (λ d. (p : NamedPolicy) × IsPolicyMeaning T before ms p × (d ≡ with_declaration c.loop-entry.declared (item.Policy p))) r) c.in-Err.is
    (c.in_ok-more.ensures.read before seen tenants so_far.1) in (
      c.loop-entry.number + 1,
      refl,
      first_at (IsPolicyFault T before) (views entries) (c.loop-entry.number + 1) seen ms (views (drop (i + 1) entries)) c.in-Err.reason
          (views_whole entries i e within c.entry-item.is) (omega (arith, c.loop-entry.invariant.numbered, count)) so_far.0 first,
    )

pub loop-entry-preserved : goal.loop-entry-preserved
loop-entry-preserved c =
    let entries = c.args.entries.now in
    let i = c.loop-entry.entry-index in
    let e = c.entry-item.result in
    let within = c.loop-entry-test.true in
    let T = c.args.table.now in
    let ms = table_view e.now in
    let seen = views (take i entries) in
    let more = views_more entries i e within c.entry-item.is in
    record {
      numbered = omega (arith, c.loop-entry.invariant.numbered);
      tenants =
          subst (λ (r : Result Declared ScenarioReason). IfOk r (λ d. d.tenants ≡ c.loop-entry.declared.tenants)) c.in-Ok.is c.in_ok-more.ensures.tenants
          ∙ c.loop-entry.invariant.tenants;
      free = λ before says none.
          let so_far = c.loop-entry.invariant.free before says none in
          let tenants = subst (λ (ts : List Tenant). Each IsTenantMeaning before ts) (sym c.loop-entry.invariant.tenants) says in
          let read = subst (λ (r : Result Declared ScenarioReason). IsEntryRead (IsPolicyFault T before seen ms)
          (λ d. (p : NamedPolicy) × IsPolicyMeaning T before ms p × (d ≡ with_declaration c.loop-entry.declared (item.Policy p))) r) c.in-Ok.is
          (c.in_ok-more.ensures.read before seen tenants so_far.1) in (
            subst (λ (vs : List Members). AreFaultFree (IsPolicyFault T before) vs) (sym more) (free_push (IsPolicyFault T before) seen ms so_far.0 read.0),
            subst (λ (vs : List Members). Each (IsPolicyMeaning T before) vs c.in-Ok.more.policies) (sym more)
                (subst (λ (d : Declared). Each (IsPolicyMeaning T before) (seen ++ ms ∷ []) d.policies) (sym read.1.2)
                (each_push (IsPolicyMeaning T before) seen c.loop-entry.declared.policies ms read.1.0 so_far.1 read.1.1)),
          );
    }

pub returns : goal.returns
returns c = λ before says none.
    let T = c.args.table.now in
    let so_far = c.loop-entry.invariant.free before says none in
    let same = views_all c.args.entries.now c.loop-entry.entry-index c.loop-entry-test.false in (
      subst (λ (vs : List Members). AreFaultFree (IsPolicyFault T before) vs) same so_far.0,
      subst (λ (vs : List Members). Each (IsPolicyMeaning T before) vs c.loop-entry.declared.policies) same so_far.1,
      c.loop-entry.invariant.tenants,
    )
