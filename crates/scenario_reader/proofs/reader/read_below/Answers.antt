use Rattle.std.proofs.Common.{ap, ◌∙◌}
use Rattle.toml.specs.View.{table_view}
use Rattle.scenario.specs.Applications.{all_entry_ends, policy_tables, tenant_tables}
use Rattle.scenario_toml.specs.Values.{TheIntegerRange, number_or_default}
use Rattle.scenario_entries.specs.Entries.{views}
use Rattle.scenario_reader.proofs.Below.{names_distinct}
use Rattle.scenario_reader.proofs.reader.read_below.Goals as goal

pub returns : goal.returns
returns c = λ T below has free says entries.
    let ms = table_view c.args.all.now in
    c.read_lists.ensures T below (record {
      table = has;
      free = free;
      policies = says;
      distinct = names_distinct T (tenant_tables ms) (policy_tables ms) free;
      entries = entries;
      operators = ap views c.as_slice-2.ensures.value ∙ c.in_ok-operator_entries.ensures;
      ends = c.as_slice-3.ensures.value ∙ c.in_ok-ends.ensures ∙ ap all_entry_ends (ap views c.as_slice.ensures.value ∙ c.in_ok-link_entries.ensures);
      loads = c.number.ensures ∙ ap (λ (r : TheIntegerRange). number_or_default r ms) c.loads.ensures;
    }) (ap views c.as_slice-4.ensures.value ∙ c.in_ok-link_entries.ensures)
