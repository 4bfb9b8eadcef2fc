use Rattle.proto_set.proofs.Visited.{paths_apart, ring_is, none_in_ring}
use Rattle.proto_set.proofs.import_laws.reported_cycle_exists.Goals as goal

pub returns-clause-named : goal.returns-clause-named
returns-clause-named c set i n v = ring_is v

pub returns-clause-none : goal.returns-clause-none
returns-clause-none c set left i own v r back = none_in_ring (paths_apart own) v r back
