use Rattle.std.proofs.Common.{rules, All, List, sym, subst}
use Rattle.run_report.specs.Lines.{IsWritableArrival, judging_of}
use Rattle.message_delivery.specs.declared.arrivals.ArrivalLine.{ArrivalLine}
use Rattle.run_report.specs.Report.{IsReportable}
use Rattle.run_report.proofs.prefixes.source_of.Goals as goal

pub returns-in-Served-clause-can : goal.returns-in-Served-clause-can
returns-in-Served-clause-can c =
    let s = c.in-Served.served in
    let a = s.arrivals.now in
    let told = subst IsReportable c.in-Served.is c.requires in (
      search rules,
      told.table,
      subst (λ (lines : List ArrivalLine). All (IsWritableArrival a.table.now (judging_of s.judge)) lines)
          (sym c.as_slice.ensures.value) (c.lines_are_writable.ensures told.arriving.0 a (judging_of s.judge) told.arriving.1 told.judged),
    )
