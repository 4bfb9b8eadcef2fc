use Rattle.std.proofs.Common.{Contains}
use Rattle.std.proofs.lemmas.List.Elements.{All-contains}
use Rattle.run_plan.proofs.Peers.{talks}
use Rattle.run_plan.specs.Links.{all_ends, connections_of}
use Rattle.run_plan.proofs.laws.peers_are_mutual.Goals as goal

pub returns : goal.returns
returns c plan conn is there =
    let has = All-contains (Contains (all_ends plan.links)) (connections_of plan.applications) conn is.pairs.each there in
    let one = talks plan.links conn is.pairs.distinct has in
    let known = All-contains (Contains (connections_of plan.applications)) (all_ends plan.links) one.0 is.pairs.known one.1.end in
    (one.0, one.1.there, one.1.back, known, one.1.apart)
