-- The policies with the names so far are marked.
use Rattle.std.proofs.Common.{map, take}
use Rattle.scenario_entries.specs.Marking.{AreMarked}
use Rattle.scenario_entries.proofs.own.marks_of.Given as goal

abbrev pub invariant-loop-name : goal.invariant-loop-name
invariant-loop-name l = AreMarked l.declared (map (λ n. n.now) (take l.name-index l.names)) l.marks.items
