use Rattle.std.proofs.Common.{List, ℕ, subst}
use Rattle.std.specs.Io.KnownBytes.{Appends}
use Rattle.view_top.specs.FaultLines.{fault_line}
use Rattle.view_top.specs.Views.{IsViewToFault}
use Rattle.view_top.proofs.Stops.{stop_at}
use Rattle.view_top.proofs.view.write_view_of_text.Goals as goal

pub returns-in-Err-Read-At-clause-faulty : goal.returns-in-Err-Read-At-clause-faulty
returns-in-Err-Read-At-clause-faulty g c = λ faulty.
    let mid = g.K.Sink.written c.write_view.new.out in
    let place = c.in-Err-Read-At.place in
    let word = c.in-Err-Read-At.word in
    let cut =
    stop_at (IsViewToFault c.args.view c.args.text.now (g.K.Sink.written c.args.out.now) mid) c.write_view.result c.in-Err-Read-At.field-0 c.in-Err-Read-At.field-0-0 place word
    c.in-Err-Read-At.is c.in-Err-Read-At.field-0-is c.in-Err-Read-At.field-0-0-is c.write_view.ensures.cut in
    let written =
    subst (λ (bytes : List ℕ). Appends mid (g.K.Sink.written c.write_view_fault.new.out) (fault_line place bytes)) c.as_bytes.ensures.value (c.write_view_fault.ensures.written faulty) in
    (mid, place, word.now, cut, written)
