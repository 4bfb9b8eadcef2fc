-- The rule of a ring, over the contents of its queue and the knowledge of each pass: what was sent is what was taken,
-- followed by what isn't taken yet.
use Rattle.std.specs.Prelude.{◌≡◌, ◌⊎◌, ℕ, ◌≤◌, Bool, true, false, List, [], ◌∷◌, ◌++◌, All, length}
use mathlib.Core.Option.{some}
use mathlib.Core.List.{IsPrefix}
use lib.ListN.{get_elem?}
use Rattle.shared_heap.specs.Fresh.{HeapId}
use Rattle.descriptor_ring.specs.declared.ring_rule.RingEntry.{RingEntry}
use Rattle.descriptor_ring.specs.declared.ring_rule.RingEntry.TheVariants.{Item, Closing}
use Rattle.descriptor_ring.specs.declared.ring_rule.RingView.{RingView}
use Rattle.descriptor_ring.specs.Heaps.{no_heap}

module _ {T : Type 0} where
  -- the items in order, followed by the closing sentinel if it was sent
  abbrev pub ring_entries : List T → Bool → List (RingEntry T)
  ring_entries [] false = []
  ring_entries [] true = Closing ∷ []
  ring_entries (x ∷ xs) closed = Item x ∷ ring_entries xs closed

  -- the contents of the queue, by the items not taken yet; nothing once the closing sentinel was taken
  abbrev pub queued : List T → Bool → Bool → List (RingEntry T)
  queued waiting closed true = []
  queued waiting closed false = ring_entries waiting closed

  abbrev pub view_of : HeapId → Bool → List T → Bool → Bool → List T → Bool → RingView T
  view_of heap sends sent closed takes taken ended = record {
    heap = heap;
    sends = sends;
    sent = sent;
    closed = closed;
    takes = takes;
    taken = taken;
    ended = ended;
  }

  -- the first pass of a ring, before its heap is set
  abbrev pub first : RingView T
  first = view_of no_heap true [] false true [] false

  abbrev pub sender : HeapId → List T → Bool → RingView T
  sender heap sent closed = view_of heap true sent closed false [] false

  abbrev pub receiver : HeapId → List T → Bool → RingView T
  receiver heap taken ended = view_of heap false [] false true taken ended

  abbrev pub spent_view : RingView T
  spent_view = view_of no_heap false [] false false [] false

  -- a pass without a role, with the knowledge of another one of the sent and taken items
  abbrev pub knowing_view : RingView T → RingView T
  knowing_view v = view_of no_heap false v.sent false false v.taken false

  -- of two lists, one a prefix of the other, the longer one
  abbrev pub longer : List T → List T → List T
  longer [] ys = ys
  longer (x ∷ xs) [] = x ∷ xs
  longer (x ∷ xs) (y ∷ ys) = x ∷ longer xs ys

  -- a view after it observed what another pass knows of the sent items, or of the taken ones
  abbrev pub with_sent_of : RingView T → RingView T → RingView T
  with_sent_of v u = view_of v.heap v.sends (longer v.sent u.sent) v.closed v.takes v.taken v.ended

  abbrev pub with_taken_of : RingView T → RingView T → RingView T
  with_taken_of v u = view_of v.heap v.sends v.sent v.closed v.takes (longer v.taken u.taken) v.ended

  -- the receiver's pass, with the sender's knowledge
  abbrev pub merged_view : RingView T → RingView T → RingView T
  merged_view v u = view_of v.heap u.sends u.sent u.closed v.takes v.taken v.ended

  -- a view after a push, and after a pop
  abbrev pub after_push : RingView T → RingEntry T → RingView T
  after_push v (Item x) = view_of v.heap v.sends (v.sent ++ x ∷ []) v.closed v.takes v.taken v.ended
  after_push v Closing = view_of v.heap v.sends v.sent true v.takes v.taken v.ended

  abbrev pub after_pop : RingView T → RingEntry T → RingView T
  after_pop v (Item x) = view_of v.heap v.sends v.sent v.closed v.takes (v.taken ++ x ∷ []) v.ended
  after_pop v Closing = view_of v.heap v.sends v.sent v.closed v.takes v.taken true

  -- one of two lists is a prefix of the other
  abbrev pub AreComparable : List T → List T → Type 0
  AreComparable xs ys = IsPrefix xs ys ⊎ IsPrefix ys xs

  -- A receiver's taken items, and those that it knows were sent. It took all the latter before the closing sentinel.
  -- If it knows of the sentinel, it took nothing else.
  pub record IsInOrder (v : RingView T) : Type 0 where
    pub agree : AreComparable v.sent v.taken
    pub all : v.ended ≡ true → IsPrefix v.sent v.taken
    pub no_more : v.closed ≡ true → IsPrefix v.taken v.sent

  -- a push, after which what the pass knows was taken is still a prefix of what it sent
  abbrev pub IsPushStep : RingView T → RingEntry T → RingView T → Type 0
  IsPushStep v x w = (w ≡ after_push v x) × IsPrefix w.taken w.sent

module _ {T : Type 0} (fits : HeapId → T → Type 0) (most : ℕ) where
  -- an item fits the ring's heap
  abbrev pub IsItemFor : HeapId → RingEntry T → Type 0
  IsItemFor heap (Item x) = fits heap x
  IsItemFor heap Closing = Unit {0}

  -- a pop gives an item that fits the heap, and at most `most` items are ever taken
  abbrev pub IsPopStep : RingView T → RingEntry T → RingView T → Type 0
  IsPopStep v x w = (w ≡ after_pop v x) × IsItemFor v.heap x × (length w.taken ≤ most) × IsInOrder w

  -- At most one pass sends, and at most one takes. The sender knows all sent items, the receiver all taken ones, and
  -- any other pass a prefix of each. A pass that knows of the closing sentinel knows all sent items.
  pub record IsViewOfRing (sender receiver : ℕ) (heap : HeapId) (sent : List T) (closed : Bool) (taken : List T)
      (ended : Bool) (pass : ℕ) (v : RingView T) : Type 0 where
    pub sends : v.sends ≡ true → (pass ≡ sender) × (v.heap ≡ heap) × (v.sent ≡ sent) × (v.closed ≡ closed)
    pub takes : v.takes ≡ true → (pass ≡ receiver) × (v.heap ≡ heap) × (v.taken ≡ taken) × (v.ended ≡ ended)
    pub some_sent : IsPrefix v.sent sent
    pub some_taken : IsPrefix v.taken taken
    pub some_closed : v.closed ≡ true → (closed ≡ true) × (v.sent ≡ sent)

  pub record IsFifo (items : List (RingEntry T)) (views : List (RingView T)) : Type 0 where
    pub heap : HeapId
    pub sent : List T
    pub closed : Bool
    pub taken : List T
    pub ended : Bool
    pub waiting : List T
    pub sender : ℕ
    pub receiver : ℕ
    pub in_order : sent ≡ taken ++ waiting
    pub holds : items ≡ queued waiting closed ended
    pub last : ended ≡ true → (closed ≡ true) × (waiting ≡ [])
    pub fit : All (fits heap) waiting
    pub few : length sent ≤ most
    pub passes : (pass : ℕ) (v : RingView T) → get_elem? views pass ≡ some v
        → IsViewOfRing sender receiver heap sent closed taken ended pass v
