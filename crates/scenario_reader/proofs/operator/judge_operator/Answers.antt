use Rattle.std.proofs.Common.{◌≡◌, ◌==◌, ℕ, List, None, Option, Some, map, sym, ◌∙◌, subst, arith}
use Rattle.std.specs.Borrow.{Bor}
use Rattle.std.specs.Prelude.{position}
use Rattle.std.proofs.lemmas.Option.{get_or_from_slice_get}
use Rattle.std.proofs.lemmas.Result.{IfOk-weaker}
use Rattle.mrpc_table.specs.Valid.{AreDistinct}
use Rattle.run_plan.specs.declared.application.Application.{Application}
use Rattle.toml.specs.View.{table_view}
use Rattle.scenario.specs.Applications.{app_tables, entry_conn, policy_tables, tenant_tables}
use Rattle.scenario.specs.Operators.{IsOperatorFault, step_lines_of}
use Rattle.scenario.specs.Reasons.{IsSoFar}
use Rattle.scenario.specs.Scenarios.{IsOperatorMeaning}
use Rattle.scenario.specs.declared.fault.ScenarioReason.{ScenarioReason}
use Rattle.scenario_lines.specs.Programs.{Each}
use Rattle.scenario_lines.specs.declared.step.StepText.{StepText}
use Rattle.scenario_entries.specs.Entries.{IsEntryRead}
use Rattle.scenario_reader.specs.Joining.{IsApp}
use Rattle.scenario_reader.specs.Operating.{IsOperatorOf}
use Rattle.scenario_reader.specs.Owning.{AreStepNames}
use Rattle.scenario_reader.specs.StepLinesReading.{AreStepMeanings}
use Rattle.scenario_reader.proofs.Operated.{app_on, begun_at, judged, no_app_on}
use Rattle.scenario_reader.proofs.Operating.{named_first, no_app_is}
use Rattle.scenario_reader.proofs.Stepping.{Laws}
use Rattle.scenario_reader.proofs.Telling.{get_there}
use Rattle.scenario_reader.proofs.Walking.{laws_of}
use Rattle.scenario_reader.proofs.operator.judge_operator.Goals as goal

pub returns-in_default : goal.returns-in_default
returns-in_default c = λ all T tables above joined distinct says keys.
    let ms = table_view c.args.entry.now in
    let d = c.args.above.declared.now in
    let same = c.names_keep_index.ensures.names T (tenant_tables all) (policy_tables all) d above.policies in
    let number : c.from.result ≡ entry_conn ms = omega (arith, c.from.ensures, c.conn_in-number.ensures) in
    let again : c.from-2.result ≡ entry_conn ms = omega (arith, c.from-2.ensures, c.conn_in-number.ensures) in
    let head = c.in_ok-asked.ensures.head all tables same says number in
    let apps = c.as_slice-applications.result.now in
    let are = subst (λ (xs : List Application). Each (IsApp all d) (app_tables all) xs) (sym c.as_slice-applications.ensures) joined.applications in
    let gone =
    subst (λ (n : ℕ). position (λ a. a.conn == n) apps ≡ None) again (sym c.app_index_on.ensures ∙ c.in_default.is) in
    subst (λ (o : Option ScenarioReason). IsSoFar (IsOperatorFault all d.policies tables ms) o) c.first_with.ensures
    (no_app_is all tables ms d.policies keys c.requires.range (no_app_on all d (app_tables all) apps are (entry_conn ms) gone)
    c.in_ok-asked.asked.head head)

pub returns-in-Some-earlier : goal.returns-in-Some-earlier
returns-in-Some-earlier c = λ all T tables above joined distinct says keys.
    let ms = table_view c.args.entry.now in
    let d = c.args.above.declared.now in
    let same = c.names_keep_index.ensures.names T (tenant_tables all) (policy_tables all) d above.policies in
    let number : c.from.result ≡ entry_conn ms = omega (arith, c.from.ensures, c.conn_in-number.ensures) in
    let again : c.from-2.result ≡ entry_conn ms = omega (arith, c.from-2.ensures, c.conn_in-number.ensures) in
    let head = c.in_ok-asked.ensures.head all tables same says number in
    let apps = c.as_slice-applications.result.now in
    let are = subst (λ (xs : List Application). Each (IsApp all d) (app_tables all) xs) (sym c.as_slice-applications.ensures) joined.applications in
    let place = c.in-Some.place in
    let found =
    subst (λ (n : ℕ). position (λ a. a.conn == n) apps ≡ Some place) again (sym c.app_index_on.ensures ∙ c.in-Some.is) in
    let on = app_on all d (app_tables all) apps are (entry_conn ms) place found in
    let item = c.index-applications-place.result in
    let is_app =
    subst (λ (a : Application). IsApp all d on.table a)
    (sym (c.index-applications-place.is ∙ get_or_from_slice_get apps place on.app item on.at_app)) on.is in
    let its_names =
    subst (λ (ns : List (Bor (List ℕ))). AreStepNames ms (map (λ n. n.now) ns)) (sym c.as_slice.ensures.value) c.in_ok-asked.ensures.names in
    let own = c.in_ok-own.ensures all on.table ms T above is_app its_names in
    named_first all tables ms d.policies keys c.requires.range on.table (get_there (app_tables all) place on.table on.at_table) on.on distinct
    c.in_ok-asked.asked.head c.in_ok-own.own c.in-Some-earlier.reason head own (sym c.earlier.ensures ∙ c.in-Some-earlier.is)

pub returns : goal.returns
returns c = λ all T tables above joined distinct says keys.
    let ms = table_view c.args.entry.now in
    let d = c.args.above.declared.now in
    let same = c.names_keep_index.ensures.names T (tenant_tables all) (policy_tables all) d above.policies in
    let number : c.from.result ≡ entry_conn ms = omega (arith, c.from.ensures, c.conn_in-number.ensures) in
    let again : c.from-2.result ≡ entry_conn ms = omega (arith, c.from-2.ensures, c.conn_in-number.ensures) in
    let head = c.in_ok-asked.ensures.head all tables same says number in
    let apps = c.as_slice-applications.result.now in
    let are = subst (λ (xs : List Application). Each (IsApp all d) (app_tables all) xs) (sym c.as_slice-applications.ensures) joined.applications in
    let place = c.in-Some.place in
    let found =
    subst (λ (n : ℕ). position (λ a. a.conn == n) apps ≡ Some place) again (sym c.app_index_on.ensures ∙ c.in-Some.is) in
    let on = app_on all d (app_tables all) apps are (entry_conn ms) place found in
    let item = c.index-applications-place.result in
    let is_app =
    subst (λ (a : Application). IsApp all d on.table a)
    (sym (c.index-applications-place.is ∙ get_or_from_slice_get apps place on.app item on.at_app)) on.is in
    let its_names =
    subst (λ (ns : List (Bor (List ℕ))). AreStepNames ms (map (λ n. n.now) ns)) (sym c.as_slice.ensures.value) c.in_ok-asked.ensures.names in
    let own = c.in_ok-own.ensures all on.table ms T above is_app its_names in
    let laws = laws_of c.change_or_rejection.ensures.one_chain c.change_or_rejection.ensures.not_both c.change_or_rejection.ensures.one_refusal c.change_preserves_chain.ensures in
    let words : Laws = record { one = c.meanings_or_reason.ensures.one; not_both = c.meanings_or_reason.ensures.not_both } in
    let chain = c.index.result.now in
    let begun = begun_at d (app_tables all) c.args.apps.now.chains.items place on.table chain joined.chains on.at_table c.index.ensures in
    let tell = subst (λ (ts : List StepText). AreStepMeanings (step_lines_of ms) ts) (sym c.as_slice-2.ensures.value) c.in_ok-asked.ensures.told.tell in
    IfOk-weaker c.apply_steps.result (IsOperatorOf d chain.entries.items c.conn_in-number.result c.as_slice-2.result.now)
    (IsEntryRead (IsOperatorFault all d.policies tables ms) (IsOperatorMeaning all ms))
    (judged laws words all d tables ms on.table same (λ name. c.names_keep_index.ensures.places d (policy_tables all) name same)
    (subst (λ (ns : List (List ℕ)). AreDistinct ns) (sym same) above.distinct) distinct keys c.requires.range
    (get_there (app_tables all) place on.table on.at_table) on.on c.in_ok-asked.asked.head c.in_ok-own.own head own
    (sym c.earlier.ensures ∙ c.in_default-earlier.is) c.as_slice-2.result.now tell chain.entries.items begun c.conn_in-number.result
    c.conn_in-number.ensures)
    c.apply_steps.ensures
