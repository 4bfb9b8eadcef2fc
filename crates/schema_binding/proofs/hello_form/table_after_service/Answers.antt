use Rattle.std.proofs.Common.{arith}
use Rattle.schema_binding.proofs.hello_form.table_after_service.Goals as goal

pub overflow_add-result : goal.overflow_add-result
overflow_add-result c =
    let first = rw c.in-Err-At.field-0-is at c.in-Err-At.ensures.fault in
    let place = c.table_fault_is_unique.ensures.place c.args.text.now c.in-Err-At.line c.in-Err-At.field-0-1 first in
    let formed = c.well_formed in
    omega (arith, place, formed)
