use Rattle.std.proofs.Common.{ℕ, ◌+◌, ◌<◌, ◌≤◌, length, subst, arith}
use Rattle.mrpc_table.specs.declared.limits.TheConstants.{MAX_LOADS}
use Rattle.graph_place.specs.Size.{tree_words}
use Rattle.graph_place.specs.Stored.{IsPlacedIn}
use Rattle.frame_transport.specs.FramesInPlace.{owned_frame}
use Rattle.frame_transport.specs.Messages.{payload_message}
use Rattle.script_view.specs.Unplayable.{CallCounts, IsUnplayable, too_wide, too_long}
use Rattle.script_view.specs.declared.limits.TheConstants.{FIRST_PLACE, MAX_REPLAY_WORDS}
use Rattle.script_view.proofs.Making.{on_fault}
use Rattle.script_view.proofs.playing.laid_out.Goals as goal

pub returns-then-place_words-ge-MAX_REPLAY_WORDS-clause-fault : goal.returns-then-place_words-ge-MAX_REPLAY_WORDS-clause-fault
returns-then-place_words-ge-MAX_REPLAY_WORDS-clause-fault c =
    let T = c.args.table.now in
    let t = c.args.tree.now in
    let f = owned_frame c.args.frame.now in
    let here : MAX_REPLAY_WORDS ≤ tree_words T c.args.message t = omega (arith, c.place_words.ensures, c.if-place_words-ge-MAX_REPLAY_WORDS.true) in
    let wide : MAX_REPLAY_WORDS ≤ tree_words T (payload_message T f) t = subst (λ (m : ℕ). MAX_REPLAY_WORDS ≤ tree_words T m t) c.requires.message here in
    on_fault _ (λ place word. (before : CallCounts) (size : ℕ) → IsUnplayable T before size f place word) _
    (λ place word is before size. too_wide t c.requires.of_frame wide is.0 is.1) c.unplayable.ensures

pub returns-then-len-gt-MAX_LOADS-clause-fault : goal.returns-then-len-gt-MAX_LOADS-clause-fault
returns-then-len-gt-MAX_LOADS-clause-fault c =
    let T = c.args.table.now in
    let t = c.args.tree.now in
    let f = owned_frame c.args.frame.now in
    let placed = c.in_ok-placed.placed in
    let narrow : FIRST_PLACE + tree_words T c.args.message t ≤ MAX_REPLAY_WORDS = omega (arith, c.place_words.ensures, c.if-place_words-ge-MAX_REPLAY_WORDS.false) in
    let stands : IsPlacedIn T MAX_REPLAY_WORDS (payload_message T f) t FIRST_PLACE (tree_words T (payload_message T f) t) placed =
    subst (λ (m : ℕ). IsPlacedIn T MAX_REPLAY_WORDS m t FIRST_PLACE (tree_words T m t) placed) c.requires.message (c.in_ok-placed.ensures.stands MAX_REPLAY_WORDS narrow) in
    let many : MAX_LOADS < length placed.words = omega (arith, c.len.ensures, c.if-len-gt-MAX_LOADS.true) in
    on_fault _ (λ place word. (before : CallCounts) (size : ℕ) → IsUnplayable T before size f place word) _
    (λ place word is before size. too_long t placed c.requires.of_frame stands many is.0 is.1) c.unplayable-then-len-gt-MAX_LOADS.ensures

pub returns-clause-placed : goal.returns-clause-placed
returns-clause-placed c =
    let narrow : FIRST_PLACE + tree_words c.args.table.now c.args.message c.args.tree.now ≤ MAX_REPLAY_WORDS =
    omega (arith, c.place_words.ensures, c.if-place_words-ge-MAX_REPLAY_WORDS.false) in
    record { stands = c.in_ok-placed.ensures.stands MAX_REPLAY_WORDS narrow; few = omega (arith, c.len.ensures, c.if-len-gt-MAX_LOADS.false) }
