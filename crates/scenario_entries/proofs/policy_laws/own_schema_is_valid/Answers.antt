use Rattle.std.proofs.Common.{get_or}
use Rattle.scenario_entries.proofs.OnePolicy.{is_own}
use Rattle.scenario_entries.proofs.policy_laws.own_schema_is_valid.Goals as goal

pub returns : goal.returns
returns c = λ all shared own d policies says read.
    λ k p within. is_own all shared own d (get_or policies k p) says (read k p within)
