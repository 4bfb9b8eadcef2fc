use Rattle.std.proofs.Common.{◌≡◌, ◌≤◌, map, take}
use Rattle.scenario.specs.Lines.{submit_line_count}
use Rattle.scenario_entries.proofs.program.submissions_in.Given as goal

abbrev pub invariant-loop-line : goal.invariant-loop-line
invariant-loop-line l = record {
  counted : l.count ≡ submit_line_count (map (λ t. t.now) (take l.line-index l.lines));
  few : l.count ≤ l.line-index;
}
