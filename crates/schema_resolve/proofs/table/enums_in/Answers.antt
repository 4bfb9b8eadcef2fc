use Rattle.std.proofs.Common.{arith}
use Rattle.schema_resolve.specs.InOrder.{IsEnumAt}
use Rattle.schema_resolve.proofs.Making.{in_order_start, in_order_more, in_order_end, within_enums}
use Rattle.schema_resolve.proofs.table.enums_in.Goals as goal

pub loop-i-init : goal.loop-i-init
loop-i-init c = in_order_start _ _ c.in_ok-enums.ensures

pub enum_in-requires-clause-within : goal.enum_in-requires-clause-within
enum_in-requires-clause-within c =
    within_enums c.args.files.now c.args.plan.now c.as_slice-order.result.now c.loop-i.i c.requires.plan
    c.as_slice-order.ensures.value (omega arith)

pub loop-i-preserved : goal.loop-i-preserved
loop-i-preserved c =
    in_order_more (IsEnumAt c.args.files.now c.args.plan.now) c.as_slice-order.result.now c.loop-i.i c.loop-i.enums
    c.push.new.self c.in_ok-choices.choices (omega arith) c.in_ok-push.ensures.ok c.in_ok-choices.ensures c.loop-i.invariant

pub returns : goal.returns
returns c =
    in_order_end (IsEnumAt c.args.files.now c.args.plan.now) c.as_slice-order.result.now _ c.loop-i.i c.loop-i.enums
    c.as_slice-order.ensures.value (omega arith) c.loop-i.invariant
