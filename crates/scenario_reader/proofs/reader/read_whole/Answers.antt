use Rattle.std.proofs.Common.{ap, ◌∙◌}
use Rattle.std.proofs.lemmas.Result.{err_from_is_err_and}
use Rattle.toml.specs.View.{table_view}
use Rattle.scenario_toml.specs.Values.{TheIntegerRange, number_or_default}
use Rattle.scenario_reader.proofs.Texts.{list_few}
use Rattle.scenario_reader.proofs.reader.read_whole.Goals as goal

pub returns-in_err-parts : goal.returns-in_err-parts
returns-in_err-parts c =
    let p = err_from_is_err_and c.from_residual.result c.from_residual.ensures.1 in
    rw (p.1, p.2) c.in_err-parts.ensures

pub returns : goal.returns
returns c =
    let ms = table_view c.args.all.now in
    let says = c.in_ok-parts.ensures in
    record {
      free = λ at q h. says.below.free at q (list_few at) h;
      service = says.service;
      loads = c.number.ensures ∙ ap (λ (r : TheIntegerRange). number_or_default r ms) c.loads.ensures;
      workers = c.number-2.ensures ∙ ap (λ (r : TheIntegerRange). number_or_default r ms) c.workers.ensures;
      weighted = c.flag_at.ensures;
      table = c.requires.schema;
      tenants = says.tenants;
      policies = says.policies;
      applications = says.below.applications;
      links = says.below.links;
      operators = says.below.operators;
    }
