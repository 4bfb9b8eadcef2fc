-- The frame that was placed.
use Rattle.std.specs.Prelude.{All}
use Rattle.std.proofs.Common.{◌≡◌, ℕ, ◌+◌, ◌<◌, ◌≤◌, List, [], ◌∷◌, ◌++◌, sym, ap, subst, ◌∙◌, arith}
use Rattle.std.proofs.lemmas.List.Elements.{All-weaker}
use Rattle.mrpc_table.specs.Calls.{message_at}
use Rattle.mrpc_table.specs.Node.{Node}
use Rattle.mrpc_table.specs.declared.table.Table.{Table}
use Rattle.graph_form.specs.declared.placed.Placed.{Placed as PlacedWords}
use Rattle.mrpc_table.specs.Capped.{capped}
use Rattle.graph_place.specs.Size.{tree_words}
use Rattle.frame_transport.specs.declared.format.Frame.{Frame}
use Rattle.mrpc_table.specs.declared.call.Call.{Call}
use Rattle.receive_heap.specs.Layout.{Layout, IsFirstFit}
use Rattle.receive_heap.specs.declared.extents.Block.{Block}
use Rattle.receive_core.specs.Fates.{message_of_frame, block_words}
use Rattle.receive_core.specs.Decoding.{IsDecodedCall}
use Rattle.graph_place.specs.Stored.{IsPlacedIn, AreWithin}
use Rattle.receive_core.specs.Turns.{IsMessagePlaced}
use Rattle.receive_core.specs.declared.decoded.DecodedCall.{DecodedCall}

-- the message of a decoded call is that of its frame
pub message_is : (T : Table) (conn : ℕ) (f : Frame) (o : DecodedCall) → IsDecodedCall T conn f o → message_at T o.call.method o.call.number ≡ message_of_frame T f
message_is T conn f o is = ap (λ (c : Call). message_at T c.method c.number) is.call

-- a small number of words isn't capped
pub uncapped : (n words : ℕ) → words ≡ capped n → words ≤ 65536 → words ≡ n
uncapped n words is small = omega (arith, is, small)

wider : (at words more : ℕ) (xs : List (ℕ × ℕ)) → words ≤ more → AreWithin at words xs → AreWithin at more xs
wider at words more xs le all =
    All-weaker (λ (w : ℕ × ℕ). (at ≤ w.0) × (w.0 < at + words)) (λ (w : ℕ × ℕ). (at ≤ w.0) × (w.0 < at + more)) (λ w h. (h.0, omega (arith, h.1, le))) xs all

pub placed_is : (T : Table) (msg : ℕ) (tree : Node) (old new : Layout) (stores after : List (ℕ × ℕ)) (block : Block) (placed : PlacedWords) (at words : ℕ)
    → block.words ≡ words → words ≡ capped (block_words T msg tree) → at + words ≤ old.words → old.words ≤ 65536
    → block.number ≡ old.next → IsFirstFit old.holes words block.at → block.at ≡ at
    → new.held ≡ old.held ++ block ∷ [] → new.next ≡ old.next + 1 → new.words ≡ old.words
    → ((H : ℕ) → at + tree_words T msg tree ≤ H → IsPlacedIn T H msg tree at (tree_words T msg tree) placed)
    → after ≡ stores ++ placed.words → IsMessagePlaced T msg tree old new stores after block
placed_is T msg tree old new stores after block placed at words is cap inside small number front same held next size stands stored =
    let exact : words ≡ block_words T msg tree = uncapped (block_words T msg tree) words cap (omega (arith, inside, small)) in
    let most : tree_words T msg tree ≤ words = omega (arith, exact) in
    let here = stands old.words (omega (arith, inside, most)) in
    let few = here.few in
    record {
      words = is ∙ exact;
      number = number;
      front = subst (λ n. IsFirstFit old.holes n block.at) (sym is) front;
      held = held;
      next = next;
      size = size;
      placed = placed;
      stands = record {
        tree = here.tree;
        loaded = here.loaded;
        means = here.means;
        address = here.address ∙ sym same;
        within = subst (λ a. AreWithin a block.words placed.words) (sym same)
            (wider at (tree_words T msg tree) block.words placed.words (omega (arith, most, is)) here.within);
        apart = here.apart;
        few = omega (arith, few, most, is);
      };
      stored = stored;
    }

-- the message of a call whose block is in the heap is in the heap
pub fits_in : (T : Table) (conn : ℕ) (f : Frame) (o : DecodedCall) (at words : ℕ) → IsDecodedCall T conn f o → at + o.words ≤ words → words ≤ 65536
    → at + tree_words T (message_of_frame T f) o.call.tree ≤ words
fits_in T conn f o at words is inside small =
    let exact : o.words ≡ block_words T (message_of_frame T f) o.call.tree = uncapped (block_words T (message_of_frame T f) o.call.tree) o.words is.words (omega (arith, inside, small)) in
    omega (arith, exact, inside)

-- and so are its words
pub inside_heap : (T : Table) (H msg : ℕ) (t : Node) (at span size : ℕ) (placed : PlacedWords) → IsPlacedIn T H msg t at span placed → 1 ≤ at → at + span ≤ size
    → All (λ word. (1 ≤ word.0) × (word.0 < size)) placed.words
inside_heap T H msg t at span size placed stands from within =
    All-weaker (λ (w : ℕ × ℕ). (at ≤ w.0) × (w.0 < at + span)) (λ (w : ℕ × ℕ). (1 ≤ w.0) × (w.0 < size))
    (λ w h. (omega (arith, h.0, from), omega (arith, h.1, within))) placed.words stands.within
