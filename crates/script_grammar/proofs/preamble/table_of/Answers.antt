use Rattle.std.proofs.Common.{arith}
use Rattle.script_grammar.proofs.preamble.table_of.Goals as goal

pub overflow_add-result : goal.overflow_add-result
overflow_add-result c =
    let first = rw c.in-Err-At.field-0-is at c.in-Err-At.ensures.fault in
    omega (arith, c.table_fault_is_unique.ensures.place c.args.text.now c.in-Err-At.line c.in-Err-At.reason first)
