use Rattle.std.proofs.Common.{List, sym, ap, ◌∙◌, subst}
use Rattle.std.proofs.lemmas.Result.{err_from_is_err_and}
use Rattle.toml.specs.Data.{Members}
use Rattle.toml.specs.View.{table_view}
use Rattle.scenario.specs.Applications.{IsAppFault, IsLinkFault, app_tables, policy_tables, tenant_tables}
use Rattle.scenario.specs.Operators.{IsOperatorFault}
use Rattle.scenario.specs.Scenarios.{IsLinkMeaning, IsOperatorMeaning}
use Rattle.scenario_lines.specs.Programs.{Each}
use Rattle.scenario_entries.specs.Entries.{AreFaultFree, views}
use Rattle.scenario_entries.specs.AppConnections.{IsAppConnectionOf}
use Rattle.scenario_entries.specs.declared.link.AppConnection.{AppConnection}
use Rattle.scenario_reader.specs.Joining.{AreJoined}
use Rattle.scenario_reader.proofs.Below.{app_fault, conns_distinct, link_fault, operator_fault, says_below}
use Rattle.scenario_reader.proofs.reader.read_lists.Goals as goal

pub returns-in_err-apps : goal.returns-in_err-apps
returns-in_err-apps c = λ T below above links_are.
    let ms = table_view c.args.all.now in
    let d = c.args.above.declared.now in
    let apps_are = ap views c.as_slice.ensures.value ∙ c.in_ok-app_entries.ensures in
    let p = err_from_is_err_and c.from_residual-in_err-apps.result c.from_residual-in_err-apps.ensures.1 in
    rw (p.1, p.2) (app_fault c.schema_table_is_unique.ensures c.declaration_is_unique.ensures ms T d above.table above.policies below (views c.as_slice.result.now) apps_are
    c.in_err-apps.field-0.0 (c.in_err-apps.ensures.read ms T above))

pub returns-in_err-links : goal.returns-in_err-links
returns-in_err-links c = λ T below above links_are.
    let ms = table_view c.args.all.now in
    let d = c.args.above.declared.now in
    let apps_are = ap views c.as_slice.ensures.value ∙ c.in_ok-app_entries.ensures in
    let apps = c.in_ok-apps.ensures.read ms T above in
    let of_apps = subst (λ (es : List Members). AreFaultFree (IsAppFault ms d.policies) es) apps_are apps.0 in
    let joined = subst (λ (es : List Members). AreJoined ms d es c.in_ok-apps.apps) apps_are apps.1 in
    let ports = subst (λ (ps : List AppConnection). Each IsAppConnectionOf (app_tables ms) ps) (sym c.as_slice-2.ensures.value) joined.ports in
    let p = err_from_is_err_and c.from_residual-in_err-links.result c.from_residual-in_err-links.ensures.1 in
    rw (p.1, p.2) (link_fault c.schema_table_is_unique.ensures c.declaration_is_unique.ensures ms T d above.table above.policies below of_apps
    (views c.args.link_entries.now) links_are c.in_err-links.field-0.0 (c.in_err-links.ensures ms ports))

pub returns-in_err-operators : goal.returns-in_err-operators
returns-in_err-operators c = λ T below above links_are.
    let ms = table_view c.args.all.now in
    let d = c.args.above.declared.now in
    let apps_are = ap views c.as_slice.ensures.value ∙ c.in_ok-app_entries.ensures in
    let apps = c.in_ok-apps.ensures.read ms T above in
    let of_apps = subst (λ (es : List Members). AreFaultFree (IsAppFault ms d.policies) es) apps_are apps.0 in
    let joined = subst (λ (es : List Members). AreJoined ms d es c.in_ok-apps.apps) apps_are apps.1 in
    let ports = subst (λ (ps : List AppConnection). Each IsAppConnectionOf (app_tables ms) ps) (sym c.as_slice-2.ensures.value) joined.ports in
    let links = c.in_ok-links.ensures ms ports in
    let of_links = subst (λ (es : List Members). AreFaultFree (IsLinkFault ms) es) links_are links.0 in
    let conns = conns_distinct ms d.policies (app_tables ms) of_apps in
    let p = err_from_is_err_and c.from_residual-in_err-operators.result c.from_residual-in_err-operators.ensures.1 in
    rw (p.1, p.2) (operator_fault c.schema_table_is_unique.ensures c.declaration_is_unique.ensures ms T d above.table above.policies below of_apps of_links
    (views c.args.above.operators.now) above.operators c.in_err-operators.field-0.0 (c.in_err-operators.ensures ms T above joined conns))

pub returns : goal.returns
returns c = λ T below above links_are.
    let ms = table_view c.args.all.now in
    let d = c.args.above.declared.now in
    let apps_are = ap views c.as_slice.ensures.value ∙ c.in_ok-app_entries.ensures in
    let apps = c.in_ok-apps.ensures.read ms T above in
    let of_apps = subst (λ (es : List Members). AreFaultFree (IsAppFault ms d.policies) es) apps_are apps.0 in
    let joined = subst (λ (es : List Members). AreJoined ms d es c.in_ok-apps.apps) apps_are apps.1 in
    let ports = subst (λ (ps : List AppConnection). Each IsAppConnectionOf (app_tables ms) ps) (sym c.as_slice-2.ensures.value) joined.ports in
    let links = c.in_ok-links.ensures ms ports in
    let of_links = subst (λ (es : List Members). AreFaultFree (IsLinkFault ms) es) links_are links.0 in
    let conns = conns_distinct ms d.policies (app_tables ms) of_apps in
    let operators = c.in_ok-operators.ensures ms T above joined conns in
    let of_operators = subst (λ (es : List Members). AreFaultFree (IsOperatorFault ms d.policies) es) above.operators operators.0 in
    let same = c.names_keep_index.ensures.names T (tenant_tables ms) (policy_tables ms) d above.policies in
    says_below c.schema_table_is_unique.ensures c.declaration_is_unique.ensures ms T d above.table above.policies below of_apps of_links of_operators same
    (λ name. c.names_keep_index.ensures.places d (policy_tables ms) name same) c.in_ok-apps.apps.ports.items c.in_ok-apps.apps.applications
    c.in_ok-links.links c.in_ok-operators.operators joined.ports joined.applications
    (subst (λ (es : List Members). Each IsLinkMeaning es c.in_ok-links.links) links_are links.1)
    (subst (λ (es : List Members). Each (IsOperatorMeaning ms) es c.in_ok-operators.operators) above.operators operators.1)
