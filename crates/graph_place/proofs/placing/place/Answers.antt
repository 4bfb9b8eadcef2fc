use Rattle.graph_place.proofs.placing.place.Goals as goal

pub returns-in-Made-clause-stands : goal.returns-in-Made-clause-stands
returns-in-Made-clause-stands g c = c.in_ok-placed.ensures.stands (g.H.Stores.words c.args.heap.now) c.requires.in_heap
