use Rattle.tests_threads.proofs.links.talks.talk.Given as goal

-- it stays the same link
abbrev pub invariant-loop-length : goal.invariant-loop-length
invariant-loop-length g l = (first : g.row.L.Denot) → g.L.Link.since first l.initial.link → g.L.Link.since first l.link
