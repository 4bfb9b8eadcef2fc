-- Each access preserves the rule of a heap.
use Rattle.std.proofs.Common.{◌≡◌, ◌≢◌, ℕ, zero, suc, ◌<◌, List, [], ◌∷◌, ◌++◌, length, set, get_or, replicate, Bool}
use Rattle.std.proofs.Common.{true, false, ◌||◌, refl, sym, ap, ◌∙◌, subst, append_assoc, append-nil, length-set}
use mathlib.Core.Option.{some, none, some-injective, some-ne-none}
use lib.ListN.{get_elem?}
use Rattle.std.proofs.lemmas.List.{length-replicate}
use Rattle.atomic_table.specs.Table.{State, keeps, step, Allows, Splits, Joins, opening, stepped}
use Rattle.atomic_table.proofs.Lists.{set_again}
use Rattle.shared_heap.specs.declared.view.Load.{Load}
use Rattle.shared_heap.specs.declared.view.HeapView.{HeapView}
use Rattle.shared_heap.specs.Fresh.{IsPrefix, load_of}
use Rattle.shared_heap.specs.Rule.{StoreLog, writer_view, IsViewOfHeap, AreViewsOfHeap, IsHeap, Seated, IsStoreStep, HasLearned, IsLoadStep, IsSettleStep, knowing_view, ended, informed, empty_view}
use Rattle.shared_heap.proofs.LastStore.{stands_at_first, stands_after_store}
use Rattle.shared_heap.proofs.Seats.{each_set, each_snoc, other_seat}

pub itself : {X : Type 0} (xs : List X) → IsPrefix xs xs
itself xs = ([], sym (append-nil xs))

pub longer : {X : Type 0} (whole front more : List X) → IsPrefix whole front → IsPrefix (whole ++ more) front
longer whole front more h = (h.0 ++ more, ap (λ l. l ++ more) h.1 ∙ append_assoc front h.0 more)

pub from_nothing : {X : Type 0} (whole : List X) → IsPrefix whole []
from_nothing whole = (whole, refl)

-- a view that claims nothing but a prefix of the stores
front_fits : (holder : ℕ) (stores front : StoreLog) (over : Bool) (j : ℕ) → IsPrefix stores front
    → IsViewOfHeap holder stores over j (record {
      known = front;
      told = front;
      writes = false;
      last = false;
      note_is_last = false;
      loads = [];
    })
front_fits holder stores front over j h = record { known = h; told = h; writes = λ e. absurd (cc); last = λ e. absurd (cc); note_is_last = λ e. absurd (cc) }

keeper_fits : (holder : ℕ) (stores : StoreLog) → IsViewOfHeap holder stores false holder (writer_view stores)
keeper_fits holder stores = record { known = itself stores; told = itself stores; writes = λ e. (refl, refl, refl); last = λ e. absurd (cc); note_is_last = λ e. absurd (cc) }

pub begins : (words : List ℕ) (n : ℕ) → words ≡ replicate n 0 → IsHeap n (opening words [] (writer_view []))
begins words n zeros = record {
  holder = 0;
  stores = [];
  ended = false;
  sized = ap length zeros ∙ length-replicate n 0;
  words = stands_at_first words n zeros;
  views = one;
}
  where
    one : (seat : ℕ) (v : HeapView) → get_elem? (writer_view [] ∷ []) seat ≡ some v → IsViewOfHeap 0 [] false seat v
    one zero v e = subst (IsViewOfHeap 0 [] false 0) (some-injective _ _ e) (keeper_fits 0 [])
    one (suc seat) v e = absurd (some-ne-none v (sym e))

-- the effect of one more store on what other seats know
later_fits : (holder : ℕ) (stores : StoreLog) (x : ℕ × ℕ) (j : ℕ) (u : HeapView) → j ≢ holder → IsViewOfHeap holder stores false j u → IsViewOfHeap holder (stores ++ x ∷ []) false j u
later_fits holder stores x j u apart f = record {
  known = longer stores u.known (x ∷ []) f.known;
  told = longer stores u.told (x ∷ []) f.told;
  writes = λ e. absurd (apart (f.writes e).0);
  last = λ e. absurd (let bad : false ≡ true = (f.last e).0 in cc);
  note_is_last = λ e. absurd (let bad : false ≡ true = (f.note_is_last e).0 in cc);
}

pub stores_it : (size slots id : ℕ) (known : StoreLog) (i new : ℕ) → i < size
    → Allows (IsHeap size) slots id (writer_view known, []) i (λ _. new) (λ _. IsStoreStep (step slots i new 0 none) (writer_view known, []) new)
stores_it size slots id known i new inside s h sized at fits =
    let mine = (h.views id (writer_view known) at).writes refl in
    let now : StoreLog = known ++ (i, new) ∷ [] in
    let all : now ≡ h.stores ++ (i, new) ∷ [] = ap (λ l. l ++ (i, new) ∷ []) mine.2 in
    let after : StoreLog = h.stores ++ (i, new) ∷ [] in (
      writer_view now,
      keeps,
      tt,
      record {
        holder = h.holder;
        stores = after;
        ended = false;
        sized = length-set s.words i new ∙ h.sized;
        words = stands_after_store h.stores s.words size i new inside h.sized h.words;
        views = each_set (IsViewOfHeap h.holder after false) s.views id (writer_view now)
            (subst (λ (y : StoreLog × ℕ). IsViewOfHeap h.holder after false y.1 (writer_view y.0)) (λ k. (sym all k, sym mine.0 k))
            (keeper_fits h.holder after))
            (λ j u apart e. later_fits h.holder h.stores (i, new) j u (λ same. apart (same ∙ sym mine.0)) (subst (λ over. IsViewOfHeap h.holder h.stores over j u) mine.1 (h.views j u e)));
      },
      (refl, refl),
    )

pub stores_as : (size slots id : ℕ) (me : Seated) (known : StoreLog) (i new : ℕ) → me ≡ (writer_view known, []) → i < size
    → Allows (IsHeap size) slots id me i (λ _. new) (λ _. IsStoreStep (step slots i new 0 none) me new)
stores_as size slots id me known i new is inside =
    subst (λ (m : Seated). Allows (IsHeap size) slots id m i (λ _. new) (λ _. IsStoreStep (step slots i new 0 none) m new)) (sym is) (stores_it size slots id known i new inside)

set_own : (l : List ℕ) (i : ℕ) → set l i (get_or l i 0) ≡ l
set_own [] i = refl
set_own (x ∷ xs) zero = refl
set_own (x ∷ xs) (suc i) = ap (λ l. x ∷ l) (set_own xs i)

-- a view that has seen all stores fits, and has learned
abbrev seen : HeapView → Bool → Bool → StoreLog → List Load → HeapView
seen v last told_last stores loads = record { known = stores; told = stores; writes = v.writes; last = last; note_is_last = told_last; loads = loads }

seen_learns : (holder : ℕ) (stores : StoreLog) (over : Bool) (j : ℕ) (v : HeapView) (last told_last : Bool)
    (loads : List Load) → IsViewOfHeap holder stores over j v → HasLearned v (seen v last told_last stores loads)
seen_learns holder stores over j v last told_last loads f = record { known = f.known; told = f.told; last = λ e. sym (f.last e).1; note_is_last = λ e. sym (f.note_is_last e).1 }

seen_fits : (holder : ℕ) (stores : StoreLog) (over : Bool) (j : ℕ) (v : HeapView) (last told_last : Bool) (loads : List Load) → IsViewOfHeap holder stores over j v
    → (last ≡ true → over ≡ true) → (told_last ≡ true → over ≡ true) → IsViewOfHeap holder stores over j (seen v last told_last stores loads)
seen_fits holder stores over j v last told_last loads f is told_is = record {
  known = itself stores;
  told = itself stores;
  writes = λ e. let w = f.writes e in (w.0, w.1, refl);
  last = λ e. (is e, refl);
  note_is_last = λ e. (told_is e, refl);
}

-- a fact that follows from either of two
either_one : (a b : Bool) (F : Type 0) → (a ≡ true → F) → (b ≡ true → F) → (a || b) ≡ true → F
either_one true b F f g is = f refl
either_one false b F f g is = g is

module _ (size slots id : ℕ) (me : Seated) (i : ℕ) where
  -- a load preserves the rule, if the seat then fits
  stays : (s : State (Unit {0}) HeapView) (h : IsHeap size s) (w : HeapView) → IsViewOfHeap h.holder h.stores h.ended id w → IsHeap size (stepped s i (get_or s.words i 0) id me.1 w keeps)
  stays s h w f = record {
    holder = h.holder;
    stores = h.stores;
    ended = h.ended;
    sized = length-set s.words i (get_or s.words i 0) ∙ h.sized;
    words = λ place inside. ap (λ ws. get_or ws place 0) (set_own s.words i) ∙ h.words place inside;
    views = each_set (IsViewOfHeap h.holder h.stores h.ended) s.views id w f (λ j u apart e. h.views j u e);
  }

  pub loads_it : i < size → Allows (IsHeap size) slots id me i (λ n. n) (IsLoadStep (step slots i 0 0 none) me)
  loads_it inside s h sized at fits =
      let f = h.views id me.0 at in
      let loads = me.0.loads ++ load_of i (get_or s.words i 0) (length me.0.known) ∷ [] in
      let w = seen me.0 me.0.last me.0.note_is_last h.stores loads in (
        w,
        keeps,
        tt,
        stays s h w (seen_fits h.holder h.stores h.ended id me.0 me.0.last me.0.note_is_last loads f (λ e. (f.last e).0) (λ e. (f.note_is_last e).0)),
        record { learns = seen_learns h.holder h.stores h.ended id me.0 me.0.last me.0.note_is_last loads f; value = h.words i inside; loads = refl; last = refl; slots = refl },
      )

  pub settles_it : Allows (IsHeap size) slots id me i (λ n. n) (IsSettleStep (step slots i 0 0 none) me)
  settles_it s h sized at fits =
      let f = h.views id me.0 at in
      let last = me.0.last || me.0.note_is_last in
      let w = seen me.0 last false h.stores me.0.loads in (
        w,
        keeps,
        tt,
        stays s h w (seen_fits h.holder h.stores h.ended id me.0 last false me.0.loads f
            (either_one me.0.last me.0.note_is_last (h.ended ≡ true) (λ e. (f.last e).0) (λ e. (f.note_is_last e).0))
            (λ e. absurd (cc))),
        record { learns = seen_learns h.holder h.stores h.ended id me.0 last false me.0.loads f; loads = refl; last = refl; slots = refl },
      )

-- a seat with the knowledge of another one
knowing_fits : (holder : ℕ) (stores : StoreLog) (over : Bool) (j k : ℕ) (v : HeapView) → IsViewOfHeap holder stores over j v → IsViewOfHeap holder stores over k (knowing_view v)
knowing_fits holder stores over j k v f = record { known = f.known; told = f.known; writes = λ e. absurd (cc); last = f.last; note_is_last = λ e. absurd (cc) }

pub splits_it : (size id : ℕ) (v : HeapView) → Splits (IsHeap size) id v v (knowing_view v)
splits_it size id v s h at = record {
  holder = h.holder;
  stores = h.stores;
  ended = h.ended;
  sized = h.sized;
  words = h.words;
  views = each_snoc (IsViewOfHeap h.holder h.stores h.ended) (set s.views id v) (knowing_view v) (λ j. knowing_fits h.holder h.stores h.ended id j v (h.views id v at))
      (subst (λ vs. AreViewsOfHeap h.holder h.stores h.ended vs) (sym (set_again s.views id v at)) h.views);
}

-- the holder knows all stores, and when it ends, it knows that they are all
ended_fits : (holder : ℕ) (stores : StoreLog) (j k : ℕ) (v : HeapView) → v.known ≡ stores → IsViewOfHeap holder stores true k (ended v)
ended_fits holder stores j k v all = record {
  known = subst (λ l. IsPrefix stores l) (sym all) (itself stores);
  told = subst (λ l. IsPrefix stores l) (sym all) (itself stores);
  writes = λ e. absurd (cc);
  last = λ e. (refl, all);
  note_is_last = λ e. absurd (cc);
}

-- another seat, while the holder stores, claims nothing that the end would contradict
other_ends : (holder : ℕ) (stores : StoreLog) (j : ℕ) (u : HeapView) → j ≢ holder → IsViewOfHeap holder stores false j u → IsViewOfHeap holder stores true j u
other_ends holder stores j u apart f = record {
  known = f.known;
  told = f.told;
  writes = λ e. absurd (apart (f.writes e).0);
  last = λ e. absurd (let bad : false ≡ true = (f.last e).0 in cc);
  note_is_last = λ e. absurd (let bad : false ≡ true = (f.note_is_last e).0 in cc);
}

pub ends_it : (size id : ℕ) (v : HeapView) → v.writes ≡ true → Splits (IsHeap size) id v (ended v) (ended v)
ends_it size id v may s h at =
    let mine = (h.views id v at).writes may in record {
      holder = h.holder;
      stores = h.stores;
      ended = true;
      sized = h.sized;
      words = h.words;
      views = each_snoc (IsViewOfHeap h.holder h.stores true) (set s.views id (ended v)) (ended v) (λ j. ended_fits h.holder h.stores id j v mine.2)
          (each_set (IsViewOfHeap h.holder h.stores true) s.views id (ended v) (ended_fits h.holder h.stores id id v mine.2)
          (λ j u apart e. other_ends h.holder h.stores j u (λ same. apart (same ∙ sym mine.0)) (subst (λ over. IsViewOfHeap h.holder h.stores over j u) mine.1 (h.views j u e))));
    }

nobody_fits : (holder : ℕ) (stores : StoreLog) (over : Bool) (j : ℕ) → IsViewOfHeap holder stores over j empty_view
nobody_fits holder stores over j = front_fits holder stores [] over j (from_nothing stores)

-- a seat that learns what another one knows
taken_in : (holder : ℕ) (stores : StoreLog) (over : Bool) (id other : ℕ) (v u : HeapView) → IsViewOfHeap holder stores over id v
    → IsViewOfHeap holder stores over other u → IsViewOfHeap holder stores over id (informed v u)
taken_in holder stores over id other v u mine theirs = record {
  known = mine.known;
  told = theirs.known;
  writes = mine.writes;
  last = mine.last;
  note_is_last = theirs.last;
}

pub joins_it : (size id : ℕ) (v : HeapView) (other : ℕ) (u : HeapView) → Joins (IsHeap size) id v other u (informed v u) empty_view
joins_it size id v other u s h at apart there =
    let both = informed v u in
    let mine = h.views id v at in
    let theirs = h.views other u (other_seat s.views id other both u apart there) in record {
      holder = h.holder;
      stores = h.stores;
      ended = h.ended;
      sized = h.sized;
      words = h.words;
      views = each_set (IsViewOfHeap h.holder h.stores h.ended) (set s.views id both) other empty_view (nobody_fits h.holder h.stores h.ended other)
          (λ j w away e. each_set (IsViewOfHeap h.holder h.stores h.ended) s.views id both (taken_in h.holder h.stores h.ended id other v u mine theirs)
          (λ k x _ e'. h.views k x e') j w e);
    }
