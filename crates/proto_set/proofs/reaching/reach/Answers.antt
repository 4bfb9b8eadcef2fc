use Rattle.std.proofs.Common.{ℕ, ◌<◌, List, length, sym, subst}
use Rattle.std.specs.Prelude.{All}
use Rattle.std.specs.List.{AllZip}
use Rattle.proto_set.specs.Reaching.{AreVisible}
use Rattle.proto_set.specs.Traversing.{AreReached, IsTraversalResult}
use Rattle.proto_set.specs.declared.set.ParsedFile.{ParsedFile}
use Rattle.proto_set.specs.declared.set.ImportClosure.{ImportClosure}
use Rattle.proto_set.specs.declared.traversal.VisitState.{VisitState}
use Rattle.proto_set.specs.declared.traversal.TraversalResult.TheVariants as walked
use Rattle.proto_set.proofs.Visited.{paths_apart, ring_is}
use Rattle.proto_set.proofs.Judging.{ring_first}
use Rattle.proto_set.proofs.Reached.{left_are_reached, order_within, reach_is, reach_sound}
use Rattle.proto_set.proofs.reaching.reach.Goals as goal

pub fault_at-requires : goal.fault_at-requires
fault_at-requires c =
    let set = c.args.members.now in
    let v : IsTraversalResult set (walked.Ring c.in-Ring.frame) =
    subst (IsTraversalResult set) c.in-Ring.is (subst (λ (s : List ParsedFile). IsTraversalResult s c.in_ok-frame.field-0) c.in_ok-graph.ensures.graph c.in_ok-frame.ensures) in
    let r = ring_is v in
    (r.1.1.import, r.1.1.import_at)

pub returns-in-Ring-clause-fault : goal.returns-in-Ring-clause-fault
returns-in-Ring-clause-fault c =
    let set = c.args.members.now in
    let v : IsTraversalResult set (walked.Ring c.in-Ring.frame) =
    subst (IsTraversalResult set) c.in-Ring.is (subst (λ (s : List ParsedFile). IsTraversalResult s c.in_ok-frame.field-0) c.in_ok-graph.ensures.graph c.in_ok-frame.ensures) in
    let r = ring_is v in
    let x = r.1.1.import in
    let at = r.1.1.import_at in
    ring_first set c.in-Ring.frame.file c.in-Ring.frame.next x c.fault_at.result (paths_apart c.requires.distinct)
    c.in_ok-check_missing.ensures.ok c.in_ok-graph.ensures.once at (c.fault_at.ensures x at) v

pub resolution_order-requires-clause-reached : goal.resolution_order-requires-clause-reached
resolution_order-requires-clause-reached c =
    let set = c.args.members.now in
    let h : IsTraversalResult set (walked.Left c.in-Left.marks) =
    subst (IsTraversalResult set) c.in-Left.is (subst (λ (s : List ParsedFile). IsTraversalResult s c.in_ok-frame.field-0) c.in_ok-graph.ensures.graph c.in_ok-frame.ensures) in
    subst (λ (ms : List VisitState). AreReached set ms) (sym c.deref.ensures.value)
    (left_are_reached set c.in-Left.marks.items (paths_apart c.requires.distinct) h)

pub all_seen-requires-clause-here : goal.all_seen-requires-clause-here
all_seen-requires-clause-here c =
    let set = c.args.members.now in
    subst (λ (s : List ParsedFile). All (λ i. i < length s) c.as_slice.result.now) (sym c.in_ok-graph.ensures.graph)
    (subst (λ (ks : List ℕ). All (λ i. i < length set) ks) (sym c.as_slice.ensures)
    (order_within set c.in_ok-order-in-Left.order c.requires.some c.in_ok-order-in-Left.ensures))

pub returns-clause-reach : goal.returns-clause-reach
returns-clause-reach c =
    let set = c.args.members.now in
    let h : IsTraversalResult set (walked.Left c.in-Left.marks) =
    subst (IsTraversalResult set) c.in-Left.is (subst (λ (s : List ParsedFile). IsTraversalResult s c.in_ok-frame.field-0) c.in_ok-graph.ensures.graph c.in_ok-frame.ensures) in
    let order = c.in_ok-order-in-Left.order in
    let sees = c.in_ok-sees-in-Left.sees in
    let answer : ImportClosure = record { order = order; sees = sees } in
    let seen : AllZip (AreVisible set) order sees =
    subst (λ (ks : List ℕ). AllZip (AreVisible set) ks sees) c.as_slice.ensures
    (subst (λ (s : List ParsedFile). AllZip (AreVisible s) c.as_slice.result.now sees) c.in_ok-graph.ensures.graph c.in_ok-sees-in-Left.ensures) in
    reach_is set h.left answer (paths_apart c.requires.distinct) c.in_ok-graph.ensures.led c.in_ok-graph.ensures.once h.visits
    c.in_ok-order-in-Left.ensures seen

pub returns-clause-sound : goal.returns-clause-sound
returns-clause-sound c =
    let set = c.args.members.now in
    let h : IsTraversalResult set (walked.Left c.in-Left.marks) =
    subst (IsTraversalResult set) c.in-Left.is (subst (λ (s : List ParsedFile). IsTraversalResult s c.in_ok-frame.field-0) c.in_ok-graph.ensures.graph c.in_ok-frame.ensures) in
    reach_sound set h.left (paths_apart c.requires.distinct) c.in_ok-check_missing.ensures.ok c.in_ok-graph.ensures.once h.visits
