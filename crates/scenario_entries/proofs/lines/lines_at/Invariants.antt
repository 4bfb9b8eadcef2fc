use Rattle.std.proofs.Common.{◌≡◌, map, take}
use Rattle.scenario_entries.proofs.lines.lines_at.Given as goal

abbrev pub invariant-loop-text : goal.invariant-loop-text
invariant-loop-text l = l.lines ≡ map (λ t. t.now) (take l.text-index l.text-items)
