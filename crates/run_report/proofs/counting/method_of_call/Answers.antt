use Rattle.std.proofs.Common.{◌≡◌, ◌-◌, ◌≤◌, sym, ap, ◌∙◌, Some, arith}
use Rattle.std.specs.Prelude.{slice_get}
use Rattle.std.proofs.lemmas.Option.{slice_get-get_or, slice_get_past}
use Rattle.run_report.specs.Counting.{method_of_call}
use Rattle.run_report.proofs.Calls.{method-at, method-past, no-method}
use Rattle.run_report.proofs.counting.method_of_call.Goals as goal

pub returns-then-seq-eq0 : goal.returns-then-seq-eq0
returns-then-seq-eq0 c = λ calls numbered same.
    let zero_is : c.args.seq ≡ 0 = omega arith in
    sym (ap (λ seq. method_of_call calls seq) zero_is ∙ no-method calls numbered)

pub returns-in-Some : goal.returns-in-Some
returns-in-Some c = λ calls numbered same.
    let least : 1 ≤ c.args.seq = omega arith in
    let at : slice_get c.args.methods.now (c.args.seq - 1) ≡ Some c.in-Some.method.now =
    slice_get-get_or c.args.methods.now (c.args.seq - 1) c.in-Some.method.now c.in-Some.ensures.lookup.3.0
    ∙ ap Some (sym c.in-Some.ensures.lookup.1) in
    method-at calls c.args.methods.now c.args.seq c.in-Some.method.now numbered same least at

pub returns-in-None : goal.returns-in-None
returns-in-None c = λ calls numbered same.
    let least : 1 ≤ c.args.seq = omega arith in
    method-past calls c.args.methods.now c.args.seq numbered same least
    (slice_get_past c.args.methods.now (c.args.seq - 1) c.in-None.ensures.lookup.3)
