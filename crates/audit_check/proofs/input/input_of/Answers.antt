use Rattle.std.proofs.Common.{false, ℕ, ◌+◌, ◌-◌, length, refl, sym, ap, subst, arith}
use Rattle.std.proofs.lemmas.List.{length-append, length-take}
use Rattle.std.proofs.lemmas.Result.{err_from_is_err_and}
use Rattle.audit_check.specs.Inputs.{IsAuditInput, in_lines}
use Rattle.audit_check.specs.InputStops.{IsFaultAtRemainder}
use Rattle.audit_check.proofs.InputReading.{front_fault, lines_before, stop_place}
use Rattle.audit_check.proofs.OneInput as inputs
use Rattle.audit_check.proofs.input.input_of.Goals as goal

pub returns-in_err-front : goal.returns-in_err-front
returns-in_err-front c =
    let p = err_from_is_err_and c.from_residual.result c.from_residual.ensures.1 in
    rw (p.1, p.2) (front_fault c.args.text.now c.in_err-front.field-0.0 c.in_err-front.ensures.fault)

pub slice_bounds-line_count-count : goal.slice_bounds-line_count-count
slice_bounds-line_count-count c =
    let f = c.in_ok-front.front in
    let i = c.in-Ok.items in
    let before = inputs.before (record {
      one = c.declaration_or_fault.ensures.one;
      one_fault = c.declaration_or_fault.ensures.one_fault;
      not_both = c.declaration_or_fault.ensures.not_both;
      either = c.declaration_or_fault.ensures.either;
      left = c.declaration_or_fault.ensures.left;
    })
    c.args.text.now f.loads f.table f.behind.now i.declared i.rest.now c.in_ok-front.ensures.read
    c.in-Ok.ensures.reads in
    omega (arith, ap length before.1, length-append before.0 i.rest.now)

pub returns-in-Ok : goal.returns-in-Ok
returns-in-Ok c =
    let text = c.args.text.now in
    let f = c.in_ok-front.front in
    let i = c.in-Ok.items in
    let before = inputs.before (record {
      one = c.declaration_or_fault.ensures.one;
      one_fault = c.declaration_or_fault.ensures.one_fault;
      not_both = c.declaration_or_fault.ensures.not_both;
      either = c.declaration_or_fault.ensures.either;
      left = c.declaration_or_fault.ensures.left;
    })
    text f.loads f.table f.behind.now i.declared i.rest.now c.in_ok-front.ensures.read c.in-Ok.ensures.reads in
    let count = lines_before text before.0 i.rest.now (length i.rest.now) c.line_count.result before.1 refl c.line_count.ensures.count in
    subst (λ (n : ℕ). IsAuditInput text f.loads f.table i.declared i.text.now (n + 1)) (sym count)
    (inputs.says text f.loads f.table f.behind.now i.declared i.rest.now i.text.now before.0 c.in_ok-front.ensures.read c.in-Ok.ensures.reads c.in-Ok.ensures.rest_is before.1)

pub slice_bounds-line_count-count-in-Err-At : goal.slice_bounds-line_count-count-in-Err-At
slice_bounds-line_count-count-in-Err-At c =
    let f = c.in_ok-front.front in
    let s : IsFaultAtRemainder f.table f.behind.now c.in-Err-At.left c.in-Err-At.line c.in-Err-At.reason = rw c.in-Err-At.field-0-is at c.in-Err-At.ensures in
    let before = inputs.before (record {
      one = c.declaration_or_fault.ensures.one;
      one_fault = c.declaration_or_fault.ensures.one_fault;
      not_both = c.declaration_or_fault.ensures.not_both;
      either = c.declaration_or_fault.ensures.either;
      left = c.declaration_or_fault.ensures.left;
    })
    c.args.text.now f.loads f.table f.behind.now s.declared s.rest c.in_ok-front.ensures.read s.reads in
    omega (arith, ap length before.1, length-append before.0 s.rest, s.left_is)

pub overflow_add-result-in-Err-At : goal.overflow_add-result-in-Err-At
overflow_add-result-in-Err-At c =
    let f = c.in_ok-front.front in
    let s : IsFaultAtRemainder f.table f.behind.now c.in-Err-At.left c.in-Err-At.line c.in-Err-At.reason = rw c.in-Err-At.field-0-is at c.in-Err-At.ensures in
    let place = stop_place f.table s.declared s.rest c.in-Err-At.line c.in-Err-At.reason (c.declaration_or_fault.ensures.place f.table false s.declared) s.stop in
    let before = inputs.before (record {
      one = c.declaration_or_fault.ensures.one;
      one_fault = c.declaration_or_fault.ensures.one_fault;
      not_both = c.declaration_or_fault.ensures.not_both;
      either = c.declaration_or_fault.ensures.either;
      left = c.declaration_or_fault.ensures.left;
    })
    c.args.text.now f.loads f.table f.behind.now s.declared s.rest c.in_ok-front.ensures.read s.reads in
    let count = lines_before c.args.text.now before.0 s.rest c.in-Err-At.left c.line_count-in-Err-At.result before.1 s.left_is c.line_count-in-Err-At.ensures.count in
    let few = c.line_count-in-Err-At.ensures.small in
    omega (arith, place, ap length before.1, length-append before.0 s.rest, s.left_is, few, length-take (length c.args.text.now - c.in-Err-At.left) c.args.text.now)

pub returns-in-Err-At : goal.returns-in-Err-At
returns-in-Err-At c =
    let text = c.args.text.now in
    let f = c.in_ok-front.front in
    let s : IsFaultAtRemainder f.table f.behind.now c.in-Err-At.left c.in-Err-At.line c.in-Err-At.reason = rw c.in-Err-At.field-0-is at c.in-Err-At.ensures in
    let before = inputs.before (record {
      one = c.declaration_or_fault.ensures.one;
      one_fault = c.declaration_or_fault.ensures.one_fault;
      not_both = c.declaration_or_fault.ensures.not_both;
      either = c.declaration_or_fault.ensures.either;
      left = c.declaration_or_fault.ensures.left;
    })
    text f.loads f.table f.behind.now s.declared s.rest c.in_ok-front.ensures.read s.reads in
    let count = lines_before text before.0 s.rest c.in-Err-At.left c.line_count-in-Err-At.result before.1 s.left_is c.line_count-in-Err-At.ensures.count in
    in_lines before.0 f.behind.now s.rest f.loads c.in-Err-At.line f.table s.declared c.in_ok-front.ensures.read s.reads before.1 s.stop (ap (λ (n : ℕ). n + c.in-Err-At.line) count)
