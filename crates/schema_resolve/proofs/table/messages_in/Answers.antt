use Rattle.std.proofs.Common.{arith}
use Rattle.schema_resolve.specs.Joining.{IsMessageAt}
use Rattle.schema_resolve.proofs.Making.{in_order_start, in_order_more, in_order_end, within_messages}
use Rattle.schema_resolve.proofs.table.messages_in.Goals as goal

pub loop-i-init : goal.loop-i-init
loop-i-init c = in_order_start _ _ c.in_ok-messages.ensures

pub message_in-requires-clause-within : goal.message_in-requires-clause-within
message_in-requires-clause-within c =
    within_messages c.args.files.now c.args.plan.now c.as_slice-order.result.now c.loop-i.i c.requires.plan
    c.as_slice-order.ensures.value (omega arith)

pub loop-i-preserved : goal.loop-i-preserved
loop-i-preserved c =
    in_order_more (IsMessageAt c.args.files.now c.args.plan.now) c.as_slice-order.result.now c.loop-i.i c.loop-i.messages
    c.push.new.self c.in_ok-message.message (omega arith) c.in_ok-push.ensures.ok c.in_ok-message.ensures c.loop-i.invariant

pub returns : goal.returns
returns c =
    in_order_end (IsMessageAt c.args.files.now c.args.plan.now) c.as_slice-order.result.now _ c.loop-i.i c.loop-i.messages
    c.as_slice-order.ensures.value (omega arith) c.loop-i.invariant
