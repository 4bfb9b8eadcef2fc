use Rattle.std.proofs.Common.{ℕ, List, Result, sym, ◌∙◌, refl, subst}
use Rattle.std.proofs.lemmas.Bool.{both_ways}
use Rattle.mrpc_table.specs.Names.{IsFullName}
use Rattle.mrpc_table.specs.declared.table.Table.{Table}
use Rattle.toml.specs.View.{table_view}
use Rattle.scenario.specs.Applications.{HasTable}
use Rattle.scenario.specs.declared.fault.ScenarioFault.{ScenarioFault}
use Rattle.scenario_reader.proofs.Topmost.{IsTopRead, top_name_first, top_number_first, top_schema_first}
use Rattle.scenario_reader.proofs.top.read_top.Goals as goal

pub returns-then-not-has_top_ranges-clause-read : goal.returns-then-not-has_top_ranges-clause-read
returns-then-not-has_top_ranges-clause-read c =
    let all = table_view c.args.all.now in
    let keys = sym c.has_top_keys.ensures ∙ c.if-not-has_top_keys.false in
    subst (λ (r : Result Table ScenarioFault). IsTopRead all r) (sym c.top_fault-then-not-has_top_ranges.ensures)
    (refl, top_number_first all keys (sym c.has_top_ranges.ensures ∙ c.if-not-has_top_ranges.true))

pub returns-then-not-is_full_name-clause-read : goal.returns-then-not-is_full_name-clause-read
returns-then-not-is_full_name-clause-read c =
    let all = table_view c.args.all.now in
    let keys = sym c.has_top_keys.ensures ∙ c.if-not-has_top_keys.false in
    let within = sym c.has_top_ranges.ensures ∙ c.if-not-has_top_ranges.false in
    subst (λ (r : Result Table ScenarioFault). IsTopRead all r) (sym c.top_fault-then-not-is_full_name.ensures) (
      refl,
      top_name_first all keys within (λ f.
          both_ways c.is_full_name.result c.if-not-is_full_name.true (c.is_full_name.ensures.1 (subst IsFullName (sym c.text_or_empty.ensures) f))),
    )

pub returns-in-None-clause-read : goal.returns-in-None-clause-read
returns-in-None-clause-read c =
    let all = table_view c.args.all.now in
    let keys = sym c.has_top_keys.ensures ∙ c.if-not-has_top_keys.false in
    let within = sym c.has_top_ranges.ensures ∙ c.if-not-has_top_ranges.false in
    subst (λ (r : Result Table ScenarioFault). IsTopRead all r) (sym c.top_fault-in-None.ensures) (
      refl,
      top_schema_first all keys within (subst IsFullName c.text_or_empty.ensures (c.is_full_name.ensures.0 c.if-not-is_full_name.false))
          (λ T has. (rw c.in-None.is at c.in_ok-table.ensures.table) T (subst (λ (x : List ℕ). HasTable x T) (sym c.text_or_empty-2.ensures) has)),
    )
