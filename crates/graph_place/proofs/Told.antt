-- The properties of a placed message that contracts state.
use Rattle.std.proofs.Common.{◌≡◌, ℕ, ◌+◌, ◌≤◌, [], length, sym, ap, subst, ◌∙◌, arith}
use Rattle.mrpc_table.specs.Node.{Node}
use Rattle.mrpc_table.specs.Normal.{depth}
use Rattle.mrpc_table.specs.declared.table.Table.{Table}
use Rattle.graph_form.specs.Roles.{node_words, size_words}
use Rattle.graph_form.specs.Placed.{loads, IsSpanInHeap, IsSound}
use Rattle.graph_form.specs.Forgotten.{tree_of}
use Rattle.graph_form.specs.declared.placed.Placed.{Placed as PlacedWords}
use Rattle.graph_place.specs.Size.{tree_words}
use Rattle.graph_place.specs.Stored.{IsPlacedIn, AreWithin, HaveDistinctPlaces}
use Rattle.graph_place.proofs.Beginning.{Loads}
use Rattle.graph_place.proofs.Items.{NodePut}
use Rattle.graph_place.proofs.Spelled.{PutsAt}
use Rattle.graph_place.proofs.Spreads.{spread_within, apart_distinct}

-- a message is laid out at a place
abbrev pub LaidOut : Table → ℕ → ℕ → ℕ → ℕ → Node → Loads → Type 0
LaidOut T H msg at d t words = PutsAt T H (node_words T msg 1 at) at at at d [] words (λ P. tree_of T msg P ≡ t)

pub laid_out : (T : Table) (H msg at d free : ℕ) (t : Node) (before words : Loads) → before ≡ [] → free ≡ at
    → NodePut T msg t free before d words → d ≤ H → depth t ≤ 32 → LaidOut T H msg at d t words
laid_out T H msg at d free t before words none first puts within deep =
    let there : NodePut T msg t at [] d words = subst (λ a. NodePut T msg t a [] d words) first (subst (λ xs. NodePut T msg t free xs d words) none puts) in
    there H 1 within (omega (arith, deep))

words_are : (T : Table) (H msg at d : ℕ) (t : Node) (words : Loads) (p : LaidOut T H msg at d t words) → words ≡ loads p.placed
words_are T H msg at d t words p = p.words

pub stands : (T : Table) (H msg at d : ℕ) (t : Node) (words : Loads) (told : PlacedWords) → 1 ≤ at → at + tree_words T msg t ≤ H → d ≡ at + tree_words T msg t
    → told.address ≡ at → told.words ≡ words → LaidOut T H msg at d t words → IsPlacedIn T H msg t at (tree_words T msg t) told
stands T H msg at d t words told from within size address same p =
    let root : IsSpanInHeap H at (size_words T msg) = record { from_one = from; to_end = omega (arith, within) } in
    let sound : IsSound T H msg at p.placed = record { root = root; words = p.sound } in
    let are : told.words ≡ loads p.placed = same ∙ words_are T H msg at d t words p in
    let few = p.spread.few in
    let long : length told.words ≡ length (loads p.placed) = ap length are in
    record {
      tree = p.placed;
      loaded = record { sound = subst (λ a. IsSound T H msg a p.placed) (sym address) sound; words = are };
      means = p.made;
      address = address;
      within = subst (AreWithin at (tree_words T msg t)) (sym are) (spread_within at d (tree_words T msg t) (loads p.placed) size p.spread);
      apart = subst HaveDistinctPlaces (sym are) (apart_distinct (loads p.placed) p.spread.apart);
      few = omega (arith, few, long, size);
    }
