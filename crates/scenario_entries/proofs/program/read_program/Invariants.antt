use Rattle.std.proofs.Common.{map, take}
use Rattle.scenario_lines.specs.Reading.{HasRead}
use Rattle.scenario_entries.proofs.program.read_program.Given as goal

abbrev pub invariant-loop-line : goal.invariant-loop-line
invariant-loop-line l = HasRead l.fn.role l.fn.heap (map (λ t. t.now) (take l.line-index l.lines)) l.reader
