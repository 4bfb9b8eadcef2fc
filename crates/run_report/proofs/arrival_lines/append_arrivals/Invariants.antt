use Rattle.std.proofs.Common.{◌≡◌, ◌++◌, take}
use Rattle.std.specs.List.{flat_map}
use Rattle.mrpc_table.specs.Text.{line}
use Rattle.run_report.specs.Lines.{arrival_words, judging_of}
use Rattle.run_report.proofs.arrival_lines.append_arrivals.Given as goal

abbrev pub invariant-loop-arrival : goal.invariant-loop-arrival
invariant-loop-arrival l = l.out ≡ l.fn.out
    ++ flat_map (λ a. line (arrival_words l.fn.table (judging_of l.fn.judge) l.fn.conn a)) (take l.arrival-index l.fn.arrivals)
