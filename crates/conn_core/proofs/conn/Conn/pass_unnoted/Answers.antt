use Rattle.std.proofs.Common.{◌<◌, length, subst, sym}
use Rattle.chain_upgrade.specs.Chains.{ChainParts}
use Rattle.conn_core.specs.Connections.{Connection}
use Rattle.conn_core.specs.Invariant.{HasConnInvariant, connection_of}
use Rattle.conn_core.proofs.KeptTurned.{of-table}
use Rattle.conn_core.proofs.TurnTold.{in-either, passed-by, then-true, unnoted-kept}
use Rattle.conn_core.proofs.conn.Conn.pass_unnoted.Goals as goal

pub pass_unnoted-passed-requires-clause-calls : goal.pass_unnoted-passed-requires-clause-calls
pass_unnoted-passed-requires-clause-calls c = of-table c.pending_calls_have_forms.ensures.forms
    (connection_of c.self.inside.conn c.self.inside.table.now c.self.inside.limit c.self.inside.chain c.self.inside.history
    c.self.inside.ended) c.self.invariant.connection

pub invariant_of-self : goal.invariant_of-self
invariant_of-self c = in-either c.pass_unnoted-passed.result c.pass_unnoted-passed.ensures.passed
    c.pass_unnoted-passed.ensures.as_before
    (λ passed. (unnoted-kept c.transitions_preserve_invariant.ensures.event c.pending_calls_have_forms.ensures.forms
    (record { again = c.clear_is_idempotent.ensures; either = c.clears_commute.ensures.either_first }) c.clears_shorten.ensures
    c.self.inside.conn c.self.inside.table.now c.self.inside.limit c.self.inside.chain
    c.pass_unnoted-passed.new.self c.self.inside.history c.self.inside.ended c.self.inside.steps.items
    c.self.inside.accepted c.self.inside.moment c.args.at c.self.invariant
    (subst (λ (x : Connection). c.args.at < length x.chain.engines) (sym c.self.view_is) c.requires.at)
    c.is_chain_state.ensures passed).kept)
    (λ same. subst (λ (x : ChainParts). HasConnInvariant (connection_of c.self.inside.conn c.self.inside.table.now c.self.inside.limit x
    c.self.inside.history c.self.inside.ended) c.self.inside.steps.items c.self.inside.history c.self.inside.accepted
    c.self.inside.moment) (sym same) c.self.invariant)

pub returns-clause-passed : goal.returns-clause-passed
returns-clause-passed c = then-true c.pass_unnoted-passed.result
    (λ passed. passed-by c.args.self.now c.self.inside.conn c.self.inside.table.now c.self.inside.limit
    c.self.inside.chain c.pass_unnoted-passed.new.self c.self.inside.history c.self.inside.ended
    c.self.inside.steps.items c.self.inside.accepted c.self.inside.moment c.args.at c.self.view_is passed
    (unnoted-kept c.transitions_preserve_invariant.ensures.event c.pending_calls_have_forms.ensures.forms
    (record { again = c.clear_is_idempotent.ensures; either = c.clears_commute.ensures.either_first }) c.clears_shorten.ensures
    c.self.inside.conn c.self.inside.table.now c.self.inside.limit c.self.inside.chain
    c.pass_unnoted-passed.new.self c.self.inside.history c.self.inside.ended c.self.inside.steps.items
    c.self.inside.accepted c.self.inside.moment c.args.at c.self.invariant
    (subst (λ (x : Connection). c.args.at < length x.chain.engines) (sym c.self.view_is) c.requires.at)
    c.is_chain_state.ensures passed))
    c.pass_unnoted-passed.ensures.passed
