use Rattle.std.proofs.Common.{Bool, Contains, Option, sym, ap, ◌∙◌, subst}
use Rattle.std.specs.Prelude.{map}
use Rattle.scenario.specs.Applications.{entry_conns}
use Rattle.scenario.specs.Reasons.{IsSoFar, reason_if}
use Rattle.scenario.specs.declared.fault.ScenarioReason.{ScenarioReason}
use Rattle.scenario.specs.declared.fault.ScenarioReason.TheVariants.{Known}
use Rattle.scenario_entries.specs.AppConnections.{has_app_connection}
use Rattle.scenario_entries.specs.Owning.{IsNamesFault}
use Rattle.scenario_reader.specs.Joining.{HasAppHeadFault}
use Rattle.scenario_reader.proofs.FirstReason.{Flag, flag, joined}
use Rattle.scenario_reader.proofs.Judging.{port_there}
use Rattle.scenario_reader.proofs.application.head_reason.Goals as goal

pub returns : goal.returns
returns c = λ policies before same on.
    let names = map (λ n. n.now) c.args.names.now in
    let known =
    subst (λ (o : Option ScenarioReason). IsSoFar (Flag (Contains (entry_conns before) c.args.conn) Known) o)
    (sym (c.reason_if-known.ensures ∙ ap (λ (b : Bool). reason_if b Known) c.has_app_connection.ensures))
    (flag (Contains (entry_conns before) c.args.conn) Known (has_app_connection c.args.ports.now c.args.conn) (port_there before c.args.ports.now c.args.conn on)) in
    subst (λ (o : Option ScenarioReason). IsSoFar (HasAppHeadFault policies before c.args.conn names) o) (sym c.earlier.ensures)
    (joined (IsNamesFault policies names) (Flag (Contains (entry_conns before) c.args.conn) Known) c.names_reason.result c.reason_if-known.result
    (c.names_reason.ensures policies same) known)
