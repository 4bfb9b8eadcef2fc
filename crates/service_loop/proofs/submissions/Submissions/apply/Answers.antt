use Rattle.std.proofs.Common.{◌≡◌, ap, ◌∙◌, subst}
use Rattle.std.specs.Prelude.{IsSomeAnd}
use Rattle.std.proofs.lemmas.Option.{get_or_from_slice_get}
use Rattle.engine_core.specs.Chains.{IsRejection}
use Rattle.engine_core.specs.Policies.{IsPolicy}
use Rattle.engine_core.specs.declared.op.Op.{Op as Step}
use Rattle.chain_upgrade.specs.Chains.{chain_of_state, refusal_in}
use Rattle.call_history.specs.Transitions.{operates}
use Rattle.conn_core.specs.Connections.{conn_trace, conn_state, judge_context}
use Rattle.conn_core.specs.ConnectionSteps.{IsStep}
use Rattle.service_loop.specs.ScheduledOps.{all_taken}
use Rattle.service_loop.specs.declared.scheduled_op.ScheduledOp.{ScheduledOp}
use Rattle.service_loop.proofs.Chained.{engines-first, few-attached, few-versions, never-refused}
use Rattle.service_loop.proofs.Events.{stepped-in}
use Rattle.service_loop.proofs.Going.{serves-step}
use Rattle.service_loop.proofs.Lists.{is-at}
use Rattle.service_loop.proofs.submissions.Submissions.apply.Goals as goal

pub operate-requires-clause-attachments : goal.operate-requires-clause-attachments
operate-requires-clause-attachments c =
    few-attached IsPolicy c.args.self.now.conn.chain c.args.self.now.steps.now c.args.self.now.applied
    (engines-first IsPolicy (all_taken c.args.self.now.calls.closed (conn_trace c.args.self.now.conn)) c.args.self.now.conn
    c.args.self.now.steps.now c.args.self.now.applied c.is_connection.ensures c.requires.serving.came
    c.requires.serving.are_scheduled.policies) c.requires.serving.are_scheduled.few

pub operate-requires-clause-versions : goal.operate-requires-clause-versions
operate-requires-clause-versions c =
    few-versions IsPolicy c.args.self.now.conn.chain c.args.self.now.steps.now c.args.self.now.applied
    (engines-first IsPolicy (all_taken c.args.self.now.calls.closed (conn_trace c.args.self.now.conn)) c.args.self.now.conn
    c.args.self.now.steps.now c.args.self.now.applied c.is_connection.ensures c.requires.serving.came
    c.requires.serving.are_scheduled.policies) c.requires.serving.are_scheduled.few

pub unreachable-requires : goal.unreachable-requires
unreachable-requires c =
    let is : c.in_ok-step.step ≡ c.requires.due.due.step =
    c.in_ok-step.ensures ∙ ap (λ (d : ScheduledOp). d.step)
    (get_or_from_slice_get c.args.self.now.steps.now c.args.self.now.applied c.requires.due.due
    c.index-self-self.result c.requires.due.first) in
    never-refused (all_taken c.args.self.now.calls.closed (conn_trace c.args.self.now.conn)) c.args.self.now.conn
    c.args.self.now.steps.now c.args.self.now.applied c.requires.due.due c.in-Err.fault c.is_connection.ensures
    c.requires.serving.are_scheduled
    (is-at c.args.self.now.steps.now c.args.self.now.applied c.requires.due.due c.requires.due.first)
    c.requires.serving.came
    (subst (λ (s : Step). IsSomeAnd (refusal_in c.in-Err.fault) (IsRejection (chain_of_state c.args.self.now.conn.chain) s)) is
    (c.in-Err.ensures.refused c.in_default.not-Memory))

pub returns-clause-serving : goal.returns-clause-serving
returns-clause-serving c =
    let is : c.in_ok-step.step ≡ c.requires.due.due.step =
    c.in_ok-step.ensures ∙ ap (λ (d : ScheduledOp). d.step)
    (get_or_from_slice_get c.args.self.now.steps.now c.args.self.now.applied c.requires.due.due
    c.index-self-self.result c.requires.due.first) in
    serves-step c.args.self.now.conn c.operate.new.self c.args.self.now.reader c.args.self.now.calls
    c.args.self.now.steps.now c.args.self.now.applied c.args.self.now.accepted c.requires.due.due
    c.operate.ensures.same
    (stepped-in (judge_context c.args.self.now.conn) (conn_state c.args.self.now.conn) (conn_state c.operate.new.self)
    c.requires.due.due.step
    (subst (λ (s : Step). IsStep c.args.self.now.conn (operates s) c.operate.new.self) is c.in-Ok.ensures.operated))
    c.requires.due.first
    (is-at c.args.self.now.steps.now c.args.self.now.applied c.requires.due.due c.requires.due.first)
    c.requires.due.reached c.requires.serving
