use Rattle.std.proofs.Common.{◌≡◌, ◌+◌, ◌++◌, ◌∷◌, [], List, Result, take, drop, refl, sym, ap, ◌∙◌, subst, arith}
use Rattle.policy_declarations.specs.Declarations.{Declared, with_declaration}
use Rattle.policy_declarations.specs.declared.declaration.Declaration.TheVariants as item
use Rattle.policy_declarations.specs.declared.declaration.Tenant.{Tenant}
use Rattle.toml.specs.Data.{Members}
use Rattle.toml.specs.View.{table_view}
use Rattle.scenario_lines.specs.Programs.{Each}
use Rattle.scenario.specs.Policies.{IsTenantFault, IsTenantMeaning}
use Rattle.scenario.specs.declared.fault.ScenarioReason.{ScenarioReason}
use Rattle.scenario_entries.specs.Entries.{AreFaultFree, IsEntryRead, views}
use Rattle.scenario_entries.proofs.PolicyLists.{each_push}
use Rattle.scenario_entries.proofs.PolicyListing.{first_at, free_none, free_push, views_all, views_count, views_more, views_whole}
use Rattle.scenario_entries.proofs.tenants.read_tenants.Goals as goal

pub loop-entry-init : goal.loop-entry-init
loop-entry-init c = record {
  numbered = refl;
  free = free_none IsTenantFault;
  says = subst (λ (d : Declared). Each IsTenantMeaning [] d.tenants) (sym c.new-declared.ensures) tt;
  none = ap (λ (d : Declared). d.policies) c.new-declared.ensures;
}

pub returns-in-Err : goal.returns-in-Err
returns-in-Err c =
    let entries = c.args.entries.now in
    let i = c.loop-entry.entry-index in
    let e = c.entry-item.result in
    let within = c.loop-entry-test.true in
    let ms = table_view e.now in
    let seen = views (take i entries) in
    let count = views_count entries i e within c.entry-item.is in
    let first = subst (λ (r : Result Declared ScenarioReason). IsEntryRead (IsTenantFault seen ms)
    (λ d. (t : Tenant) × IsTenantMeaning ms t × (d ≡ with_declaration c.loop-entry.declared (item.Tenant t))) r) c.in-Err.is
    (c.in_ok-more.ensures seen c.loop-entry.invariant.says) in (
      c.loop-entry.number + 1,
      refl,
      first_at IsTenantFault (views entries) (c.loop-entry.number + 1) seen ms (views (drop (i + 1) entries)) c.in-Err.reason
          (views_whole entries i e within c.entry-item.is) (omega (arith, c.loop-entry.invariant.numbered, count)) c.loop-entry.invariant.free first,
    )

pub loop-entry-preserved : goal.loop-entry-preserved
loop-entry-preserved c =
    let entries = c.args.entries.now in
    let i = c.loop-entry.entry-index in
    let e = c.entry-item.result in
    let within = c.loop-entry-test.true in
    let ms = table_view e.now in
    let seen = views (take i entries) in
    let read = subst (λ (r : Result Declared ScenarioReason). IsEntryRead (IsTenantFault seen ms)
    (λ d. (t : Tenant) × IsTenantMeaning ms t × (d ≡ with_declaration c.loop-entry.declared (item.Tenant t))) r) c.in-Ok.is
    (c.in_ok-more.ensures seen c.loop-entry.invariant.says) in
    let t = read.1.0 in
    let more = views_more entries i e within c.entry-item.is in
    record {
      numbered = omega (arith, c.loop-entry.invariant.numbered);
      free = subst (λ (vs : List Members). AreFaultFree IsTenantFault vs) (sym more) (free_push IsTenantFault seen ms c.loop-entry.invariant.free read.0);
      says =
          subst (λ (vs : List Members). Each IsTenantMeaning vs c.in-Ok.more.tenants) (sym more)
          (subst (λ (d : Declared). Each IsTenantMeaning (seen ++ ms ∷ []) d.tenants) (sym read.1.2)
          (each_push IsTenantMeaning seen c.loop-entry.declared.tenants ms t c.loop-entry.invariant.says read.1.1));
      none = ap (λ (d : Declared). d.policies) read.1.2 ∙ c.loop-entry.invariant.none;
    }

pub returns : goal.returns
returns c =
    let same = views_all c.args.entries.now c.loop-entry.entry-index c.loop-entry-test.false in (
      subst (λ (vs : List Members). AreFaultFree IsTenantFault vs) same c.loop-entry.invariant.free,
      subst (λ (vs : List Members). Each IsTenantMeaning vs c.loop-entry.declared.tenants) same c.loop-entry.invariant.says,
      c.loop-entry.invariant.none,
    )
