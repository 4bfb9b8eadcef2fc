use Rattle.std.proofs.Common.{rules, ◌-◌}
use Rattle.std.proofs.lemmas.List.Elements.{Contains-get_or}
use Rattle.command_diagnostics.proofs.set.nth_file.Goals as goal

pub returns : goal.returns
returns c = Contains-get_or c.args.files.now (c.args.number - 1) _ (search rules)
