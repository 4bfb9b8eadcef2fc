use Rattle.std.proofs.Common.{sym, ◌∙◌, ap, map}
use Rattle.std.proofs.lemmas.List.Elements.{All-contains}
use Rattle.run_plan.proofs.Middle.{middle}
use Rattle.run_plan.specs.Chains.{op_of, empty_chain}
use Rattle.run_plan.specs.Plans.{IsApplication}
use Rattle.run_plan.proofs.laws.chains_never_refuse.Goals as goal

pub returns : goal.returns
returns c plan app front back line is there whole =
    let sound = All-contains (IsApplication plan) plan.applications app is.applications there in
    middle (op_of plan app) front back line sound.chain.ops empty_chain sound.chain.after
    (ap (map (op_of plan app)) (sym whole) ∙ sound.chain.stand_for) sound.chain.change
