use Rattle.std.proofs.Common.{Option, map, sym, subst}
use Rattle.scenario.specs.Reasons.{IsSoFar}
use Rattle.scenario.specs.declared.fault.ScenarioReason.{ScenarioReason}
use Rattle.scenario_reader.specs.Operating.{HasOperatorOwnFault}
use Rattle.scenario_reader.proofs.Reading.{app_own, no_own_reason, own_reasons}
use Rattle.scenario_reader.proofs.operator.own_reason.Goals as goal

pub returns-in-None : goal.returns-in-None
returns-in-None c = λ all ams ms T above app named. no_own_reason all ams ms c.args.above.declared.now c.args.app.now app c.in-None.is

pub returns-in_ok-read-in-Some : goal.returns-in_ok-read-in-Some
returns-in_ok-read-in-Some c = λ all ams ms T above app named.
    let own = app_own all ams c.args.above.declared.now c.args.app.now app c.in-Some.own c.in-Some.is in
    subst (λ (o : Option ScenarioReason). IsSoFar (HasOperatorOwnFault all ams ms) o) (sym c.err.ensures.value)
    (own_reasons all ams ms c.in-Some.own.table (map (λ n. n.now) c.args.names.now) named c.in_ok-read-in-Some.read
    (c.in_ok-read-in-Some.ensures all ams own.text T own.there own.table above.entries above.free above.policies))
