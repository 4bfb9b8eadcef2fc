use Rattle.std.proofs.Common.{◌≡◌, ◌<◌, ◌∙◌, ℕ, List, get_or, length, refl, sym, ap, subst, arith}
use Rattle.std.specs.Prelude.{All}
use Rattle.std.proofs.lemmas.Option.{same_Some}
use Rattle.proto_set.specs.Named.{files_of}
use Rattle.schema_files.specs.Placing.{AreOrderIndices, AreSomeIndices}
use Rattle.schema_files.proofs.Lists.{some_at}
use Rattle.schema_files.proofs.Taken.{order_within, seen_within, taken_none, taken_more, as_many, some_members}
use Rattle.schema_files.proofs.Taken.{order_at, sees_at, below_at, sees_below, packed_below, packed_here, file_there}
use Rattle.schema_files.proofs.Taken.{some_there}
use Rattle.schema_files.proofs.linked_files.linked_files_of.Goals as goal

pub places_in-requires-clause-within : goal.places_in-requires-clause-within
places_in-requires-clause-within c =
    let files = c.args.files.now in
    let set = c.args.members.items in
    let reach = c.args.reach.now in
    subst (λ (xs : List ℕ). All (λ i. i < length files) xs) (sym c.as_slice-order.ensures)
    (subst (λ (n : ℕ). All (λ i. i < n) reach.order) (as_many files set c.requires.read)
    (order_within set reach (some_members files set c.requires.some c.requires.read) c.requires.reached))

pub loop-k-init : goal.loop-k-init
loop-k-init c =
    taken_none (files_of c.args.files.now) c.args.members.items c.args.reach.now _ _ c.in_ok-left.ensures
    c.in_ok-parts.ensures.items

pub bounds-seen-k : goal.bounds-seen-k
bounds-seen-k c =
    let l : c.loop-k.k < length c.as_slice-order.result.now = omega arith in
    sees_below c.args.members.items c.args.reach.now c.as_slice-order.result.now c.as_slice-seen.result.now c.loop-k.k
    c.requires.reached c.as_slice-order.ensures c.as_slice-seen.ensures l

pub placed-requires : goal.placed-requires
placed-requires c =
    let files = c.args.files.now in
    let set = c.args.members.items in
    let reach = c.args.reach.now in
    let seen = c.index-seen-k.result in
    let k = c.loop-k.k in
    let order = c.as_slice-order.result.now in
    let l : k < length order = omega arith in
    let m : k < length c.as_slice-seen.result.now =
    sees_below set reach order c.as_slice-seen.result.now k c.requires.reached c.as_slice-order.ensures
    c.as_slice-seen.ensures l in
    let same : length set ≡ length c.as_slice-in-loop-k.result.now =
    as_many files set c.requires.read ∙ sym c.in_ok-places.ensures.count_is
    ∙ sym (ap (λ (xs : List ℕ). length xs) c.as_slice-in-loop-k.ensures.value) in
    subst (λ (xs : List ℕ). All (λ i. i < length c.as_slice-in-loop-k.result.now) xs) (sym c.as_slice.ensures)
    (subst (λ (n : ℕ). All (λ i. i < n) seen) same
    (seen_within set reach k (get_or order k 0) seen (some_members files set c.requires.some c.requires.read)
    c.requires.reached (order_at reach order k c.as_slice-order.ensures l)
    (sees_at reach c.as_slice-seen.result.now k seen c.as_slice-seen.ensures m c.index-seen-k.is)))

pub take_file-requires : goal.take_file-requires
take_file-requires c =
    let files = c.args.files.now in
    let set = c.args.members.items in
    let reach = c.args.reach.now in
    let k = c.loop-k.k in
    let order = c.as_slice-order.result.now in
    let l : k < length order = omega arith in
    let at = order_at reach order k c.as_slice-order.ensures l in
    let b = below_at set reach k (get_or order k 0) (some_members files set c.requires.some c.requires.read)
    c.requires.reached at in
    omega (arith, b, c.loop-k.invariant.room)

pub unwrap-file-requires : goal.unwrap-file-requires
unwrap-file-requires c =
    let files = c.args.files.now in
    let set = c.args.members.items in
    let reach = c.args.reach.now in
    let k = c.loop-k.k in
    let order = c.as_slice-order.result.now in
    let i = get_or order k 0 in
    let l : k < length order = omega arith in
    let at = order_at reach order k c.as_slice-order.ensures l in
    let b = below_at set reach k i (some_members files set c.requires.some c.requires.read) c.requires.reached at in
    let m = some_at set i b in
    some_there m.0 c.take_file.result
    (file_there (files_of files) set reach k i _ _ m.0 c.take_file.result at m.1 c.take_file.ensures.value
    c.loop-k.invariant)

pub bounds-files-i : goal.bounds-files-i
bounds-files-i c =
    let files = c.args.files.now in
    let set = c.args.members.items in
    let reach = c.args.reach.now in
    let k = c.loop-k.k in
    let order = c.as_slice-order.result.now in
    let l : k < length order = omega arith in
    let at = order_at reach order k c.as_slice-order.ensures l in
    let b = below_at set reach k (get_or order k 0) (some_members files set c.requires.some c.requires.read)
    c.requires.reached at in
    packed_below files set (get_or order k 0) c.requires.read b

pub loop-k-preserved : goal.loop-k-preserved
loop-k-preserved c =
    let files = c.args.files.now in
    let set = c.args.members.items in
    let reach = c.args.reach.now in
    let seen = c.index-seen-k.result in
    let k = c.loop-k.k in
    let order = c.as_slice-order.result.now in
    let i = get_or order k 0 in
    let l : k < length order = omega arith in
    let n : k < length c.as_slice-seen.result.now =
    sees_below set reach order c.as_slice-seen.result.now k c.requires.reached c.as_slice-order.ensures
    c.as_slice-seen.ensures l in
    let at = order_at reach order k c.as_slice-order.ensures l in
    let b = below_at set reach k i (some_members files set c.requires.some c.requires.read) c.requires.reached at in
    let m = some_at set i b in
    let had = file_there (files_of files) set reach k i _ _ m.0 c.take_file.result at m.1 c.take_file.ensures.value
    c.loop-k.invariant in
    taken_more (files_of files) set reach k i (length files) c.in_ok-places.places.items seen _ m.0 _ _ _ _ _
    c.requires.reached at (sees_at reach c.as_slice-seen.result.now k seen c.as_slice-seen.ensures n c.index-seen-k.is)
    (packed_here files i _ (packed_below files set i c.requires.read b)) m.1
    (subst (λ (xs : List ℕ). AreOrderIndices xs (length files) c.in_ok-places.places.items) c.as_slice-order.ensures
    c.in_ok-places.ensures)
    (subst (λ (xs : List ℕ). AreSomeIndices xs seen c.in_ok-sees.sees) c.as_slice-in-loop-k.ensures.value
    (subst (λ (xs : List ℕ). AreSomeIndices c.as_slice-in-loop-k.result.now xs c.in_ok-sees.sees) c.as_slice.ensures
    c.in_ok-sees.ensures))
    (same_Some _ _ (sym c.unwrap-file.ensures ∙ had)) refl c.take_file.ensures.after c.in_ok-push.ensures.items
    c.loop-k.invariant
