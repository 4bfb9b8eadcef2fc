-- The code's own: the rule of a heap's table, and what each access reveals. The words are those after one list of
-- stores, of which each seat knows a prefix.
use Rattle.std.specs.Prelude.{◌≡◌, ◌<◌, ◌||◌, ℕ, Bool, true, false, List, [], ◌∷◌, ◌++◌, length, slice_index}
use mathlib.Core.Option.{some}
use lib.ListN.{get_elem?}
use Rattle.atomic_table.specs.Table.{State, Me, Step}
use Rattle.mrpc_base.specs.Heap.{word_after}
use Rattle.shared_heap.specs.declared.view.HeapView.{HeapView}
use Rattle.shared_heap.specs.Fresh.{IsPrefix, load_of}

abbrev pub StoreLog : Type 0
StoreLog = List (ℕ × ℕ)

-- the view of the writer after these stores
abbrev pub writer_view : StoreLog → HeapView
writer_view stores = record { known = stores; told = stores; writes = true; last = false; note_is_last = false; loads = [] }

-- A seat knows a prefix of the stores, and its note brought a prefix. Only one seat, the holder, may store, until the
-- stores have ended, and it knows all of them. A seat that knows that they have ended knows all of them too.
pub record IsViewOfHeap (holder : ℕ) (stores : StoreLog) (ended : Bool) (seat : ℕ) (v : HeapView) : Type 0 where
  pub known : IsPrefix stores v.known
  pub told : IsPrefix stores v.told
  pub writes : v.writes ≡ true → (seat ≡ holder) × (ended ≡ false) × (v.known ≡ stores)
  pub last : v.last ≡ true → (ended ≡ true) × (v.known ≡ stores)
  pub note_is_last : v.note_is_last ≡ true → (ended ≡ true) × (v.told ≡ stores)

abbrev pub AreViewsOfHeap : ℕ → StoreLog → Bool → List HeapView → Type 0
AreViewsOfHeap holder stores ended views = (seat : ℕ) (v : HeapView) → get_elem? views seat ≡ some v → IsViewOfHeap holder stores ended seat v

-- each of `size` words is that of its place after all stores
pub record IsHeap (size : ℕ) (s : State (Unit {0}) HeapView) : Type 0 where
  pub holder : ℕ
  pub stores : StoreLog
  pub ended : Bool
  pub sized : length s.words ≡ size
  pub words : (place : ℕ) → place < size → slice_index s.words place ≡ word_after stores place
  pub views : AreViewsOfHeap holder stores ended s.views

abbrev pub Seated : Type 0
Seated = Me (Unit {0}) HeapView

-- the store of the value n at the accessed word
abbrev pub IsStoreStep : Step (Unit {0}) → Seated → ℕ → Seated → Type 0
IsStoreStep st m n m' = (m'.0 ≡ writer_view (m.0.known ++ (st.word, n) ∷ [])) × (m'.1 ≡ m.1)

-- Nothing known is lost, and the stores of the note become known. If no more stores follow the known ones, or those
-- of the note, none is added.
pub record HasLearned (v w : HeapView) : Type 0 where
  pub known : IsPrefix w.known v.known
  pub told : IsPrefix w.known v.told
  pub last : v.last ≡ true → w.known ≡ v.known
  pub note_is_last : v.note_is_last ≡ true → w.known ≡ v.told

-- the load of the value n from the accessed word
pub record IsLoadStep (st : Step (Unit {0})) (m : Seated) (n : ℕ) (m' : Seated) : Type 0 where
  pub learns : HasLearned m.0 m'.0
  pub value : n ≡ word_after m'.0.known st.word
  pub loads : m'.0.loads ≡ m.0.loads ++ load_of st.word n (length m.0.known) ∷ []
  pub last : m'.0.last ≡ m.0.last
  pub slots : m'.1 ≡ m.1

-- a load by which the seat learns the stores that a note brought
pub record IsSettleStep (st : Step (Unit {0})) (m : Seated) (n : ℕ) (m' : Seated) : Type 0 where
  pub learns : HasLearned m.0 m'.0
  pub loads : m'.0.loads ≡ m.0.loads
  pub last : m'.0.last ≡ (m.0.last || m.0.note_is_last)
  pub slots : m'.1 ≡ m.1

-- a new seat with the knowledge of this one
abbrev pub knowing_view : HeapView → HeapView
knowing_view v = record { known = v.known; told = v.known; writes = false; last = v.last; note_is_last = false; loads = [] }

-- a seat that knows all stores, after which no more follow
abbrev pub ended : HeapView → HeapView
ended v = record { known = v.known; told = v.known; writes = false; last = true; note_is_last = false; loads = [] }

-- a seat with a note of what another one knew
abbrev pub informed : HeapView → HeapView → HeapView
informed v u = record {
  known = v.known;
  told = u.known;
  writes = v.writes;
  last = v.last;
  note_is_last = u.last;
  loads = v.loads;
}

-- a seat that knows nothing
abbrev pub empty_view : HeapView
empty_view = record { known = []; told = []; writes = false; last = false; note_is_last = false; loads = [] }
