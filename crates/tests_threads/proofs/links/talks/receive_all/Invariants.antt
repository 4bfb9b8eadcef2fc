use Rattle.tests_threads.proofs.links.talks.receive_all.Given as goal

-- it stays the same link
abbrev pub invariant-loop : goal.invariant-loop
invariant-loop g l = (first : g.row.L.Denot) → g.L.Link.since first l.initial.link → g.L.Link.since first l.link
