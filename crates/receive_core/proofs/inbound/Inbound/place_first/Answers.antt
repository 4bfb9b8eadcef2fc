use Rattle.std.specs.Prelude.{length}
use Rattle.std.proofs.Common.{arith, ◌≡◌, ◌≤◌, ◌+◌, ℕ, sym, ap, subst, ◌∙◌, refl, rules}
use Rattle.frame_transport.specs.Feed.{FeedState, IsNextFrame}
use Rattle.frame_transport.specs.declared.format.Frame.{Frame}
use Rattle.graph_place.specs.Size.{tree_words}
use Rattle.receive_heap.specs.Layout.{Layout, IsFirstFit}
use Rattle.receive_core.specs.Fates.{message_of_frame}
use Rattle.graph_place.specs.Stored.{IsPlacedIn}
use Rattle.receive_core.specs.Turns.{ReceiverState, IsFirstFrame}
use Rattle.receive_core.proofs.Taken.{message_is, placed_is, fits_in, inside_heap}
use Rattle.receive_core.proofs.inbound.Inbound.place_first.Goals as goal

pub returns-clause-takes : goal.returns-clause-takes
returns-clause-takes g c f first is =
    let T = c.args.table.now in
    let tree = c.args.opened.call.tree in
    let fed : c.self.inside.feed ≡ c.args.self.now.fed = ap (λ (r : ReceiverState). r.fed) c.self.view_is in
    let heap : c.self.inside.extents ≡ c.args.self.now.heap = ap (λ (r : ReceiverState). r.heap) c.self.view_is in
    let taken = c.take_first-frame.ensures.frame f (subst (λ (fed : FeedState). IsFirstFrame fed f) (sym fed) first) in
    let message : c.message_at-message.result ≡ message_of_frame T f = c.message_at-message.ensures.place ∙ message_is T c.args.self.now.conn f c.args.opened is in
    let front : IsFirstFit c.args.self.now.heap.holes c.args.opened.words c.in-Ok.block.at =
    subst (λ (l : Layout). IsFirstFit l.holes c.args.opened.words c.in-Ok.block.at) heap c.in-Ok.ensures.front in
    let same = c.requires.fits c.in-Ok.block.at front in
    let stands = subst (λ (msg : ℕ). (H : ℕ) → c.args.at + tree_words T msg tree ≤ H
    → IsPlacedIn T H msg tree c.args.at (tree_words T msg tree) c.in_ok-placed.placed) message
    c.in_ok-placed.ensures.stands in (
      subst (λ (fed : FeedState). IsNextFrame fed f c.take_first-frame.new.self.fed) fed taken.1,
      (ap (λ (h : Frame). h.kind) (sym taken.0), ap (λ (h : Frame). h.method) (sym taken.0), ap (λ (h : Frame). h.number) (sym taken.0)),
      refl,
      placed_is T (message_of_frame T f) tree c.args.self.now.heap c.take_first-frame.new.self.heap _ _ c.in-Ok.block c.in_ok-placed.placed c.args.at c.args.opened.words
          c.in-Ok.ensures.words is.words c.requires.inside.1 (search rules) (search rules) front same (search rules) (search rules) (search rules)
          stands (search rules),
    )

pub store-requires-clause-in_heap : goal.store-requires-clause-in_heap
store-requires-clause-in_heap g c =
    let T = c.args.table.now in
    let tree = c.args.opened.call.tree in
    let f = c.requires.opened.0 in
    let is = c.requires.opened.2 in
    let message : c.message_at-message.result ≡ message_of_frame T f = c.message_at-message.ensures.place ∙ message_is T c.args.self.now.conn f c.args.opened is in
    let stands = subst (λ (msg : ℕ). (H : ℕ) → c.args.at + tree_words T msg tree ≤ H
    → IsPlacedIn T H msg tree c.args.at (tree_words T msg tree) c.in_ok-placed.placed) message
    c.in_ok-placed.ensures.stands in
    let small : c.args.self.now.heap.words ≤ 65536 = search rules in
    let fits = fits_in T c.args.self.now.conn f c.args.opened c.args.at c.args.self.now.heap.words is c.requires.inside.1 small in
    let size : g.H.Stores.words c.room_stores.new.self ≡ c.args.self.now.heap.words = c.room_stores.ensures.words ∙ c.requires.size in
    inside_heap T c.args.self.now.heap.words (message_of_frame T f) tree c.args.at (tree_words T (message_of_frame T f) tree) (g.H.Stores.words c.room_stores.new.self) c.in_ok-placed.placed
    (stands c.args.self.now.heap.words fits) c.requires.inside.0 (omega (arith, size, fits))

pub store-requires-clause-few : goal.store-requires-clause-few
store-requires-clause-few g c =
    let T = c.args.table.now in
    let tree = c.args.opened.call.tree in
    let f = c.requires.opened.0 in
    let is = c.requires.opened.2 in
    let message : c.message_at-message.result ≡ message_of_frame T f = c.message_at-message.ensures.place ∙ message_is T c.args.self.now.conn f c.args.opened is in
    let stands = subst (λ (msg : ℕ). (H : ℕ) → c.args.at + tree_words T msg tree ≤ H
    → IsPlacedIn T H msg tree c.args.at (tree_words T msg tree) c.in_ok-placed.placed) message
    c.in_ok-placed.ensures.stands in
    let small : c.args.self.now.heap.words ≤ 65536 = search rules in
    let fits = fits_in T c.args.self.now.conn f c.args.opened c.args.at c.args.self.now.heap.words is c.requires.inside.1 small in
    let few = (stands c.args.self.now.heap.words fits).few in
    let same : length (g.H.Stores.stores c.room_stores.new.self) ≡ length (g.H.Stores.stores c.args.heap.now) = ap length c.room_stores.ensures.stores in
    omega (arith, few, same, fits, small, c.requires.few)
