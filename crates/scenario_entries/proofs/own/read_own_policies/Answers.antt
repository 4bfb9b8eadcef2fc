use Rattle.std.proofs.Common.{ℕ, Bool, List, map, sym, subst}
use Rattle.std.specs.Prelude.{IfOk}
use Rattle.std.specs.Borrow.{Bor}
use Rattle.policy_declarations.specs.declared.declaration.NamedPolicy.{NamedPolicy}
use Rattle.toml.specs.Data.{Members}
use Rattle.scenario_lines.specs.Programs.{Each}
use Rattle.scenario.specs.Applications.{policy_tables, tenant_tables}
use Rattle.scenario.specs.Policies.{IsPolicyMeaning}
use Rattle.scenario_entries.specs.Entries.{views}
use Rattle.scenario_entries.specs.Marking.{IsMarkedRead}
use Rattle.scenario_entries.proofs.Using.{own_ok}
use Rattle.scenario_entries.proofs.own.read_own_policies.Goals as goal

pub returns : goal.returns
returns c = λ all app text shared schema has same free says.
    let own = c.args.table.now in
    let tenants = tenant_tables all in
    let marks = c.in_ok-marks.marks.items in
    let names = map (λ (n : Bor (List ℕ)). n.now) c.args.names.now in
    let told =
    subst (λ (vs : List Members). Each (IsPolicyMeaning shared tenants) vs c.policies.result.now) (sym same)
    (subst (λ (ps : List NamedPolicy). Each (IsPolicyMeaning shared tenants) (policy_tables all) ps) (sym c.policies.ensures) says) in
    let read =
    subst (λ (vs : List Members). IfOk c.read_marked.result (IsMarkedRead vs tenants own marks)) same
    (subst (λ (ms : List Bool). IfOk c.read_marked.result (IsMarkedRead (views c.args.entries.now) tenants own ms)) c.as_slice.ensures.value
    (c.read_marked.ensures shared tenants told)) in
    own_ok all app text own shared c.args.declared.now names marks schema has (λ T h. c.schema_table_is_unique.ensures text T own h has) free says c.in_ok-marks.ensures
    c.read_marked.result read
