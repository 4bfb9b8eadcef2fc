use Rattle.scenario_toml.proofs.Views.{known_first, unknown_first}
use Rattle.scenario_toml.proofs.key.has_keys.Goals as goal

pub returns-then-are_known : goal.returns-then-are_known
returns-then-are_known c =
    known_first c.args.keys.now c.args.table.now.entries _ _ c.are_known.ensures c.if-are_known.true c.has_required_keys.ensures

pub returns-else-are_known : goal.returns-else-are_known
returns-else-are_known c = unknown_first c.args.keys.now c.args.table.now.entries _ c.are_known.ensures c.if-are_known.false
