-- The results of each part of a round.
use Rattle.std.proofs.Common.{◌≡◌, inl, inr, ℕ, ◌+◌, List, [], ◌∷◌, ◌++◌, length, map, ap, sym, ◌∙◌, subst}
use Rattle.mrpc_base.specs.Heap.{AreLoads}
use Rattle.shared_heap.specs.Fresh.{AfterLoad, IsPrefix, CallLoads, AreFresh, HasLoaded, Reading, word_of_load}
use Rattle.shared_heap.specs.declared.view.Load.{Load}
use Rattle.call_history.specs.Loads.{Loads}
use Rattle.conn_core.specs.ConnectionSteps.{IsReadBy}
use Rattle.service_loop.proofs.Going.{HasRead}

-- ---- calls

loaded-by : (old new : Reading) (own : Loads) → IsReadBy (λ (a b : Reading). b ≡ a) AfterLoad old own new
    → AreLoads AfterLoad old own new
loaded-by old new own (inl none) = subst (λ (xs : Loads). AreLoads AfterLoad old xs new) (sym none.0) none.1
loaded-by old new own (inr only) = subst (λ (r : Reading). AreLoads AfterLoad r own new) only.room only.loads

-- a note was met, and then these loads were made for a call submitted after its stores
pub read-by : ((calls : List CallLoads) (noted loads : List (ℕ × ℕ)) (old new : Reading) → AreFresh calls old.known
    → IsPrefix old.known noted → AreLoads AfterLoad old loads new
    → AreFresh (calls ++ (record { after = length noted; loads = loads }) ∷ []) new.known)
    → ((calls : List CallLoads) (stores all : List (ℕ × ℕ)) → AreFresh calls stores → IsPrefix all stores
    → AreFresh calls all)
    → ((old new : Reading) (loads : List (ℕ × ℕ)) → AreLoads AfterLoad old loads new → HasLoaded old loads new)
    → (after : ℕ) (noted : List (ℕ × ℕ)) (own : Loads) (old met new : Reading) → after ≡ length noted
    → met.heap ≡ old.heap → met.loads ≡ old.loads → IsPrefix met.known noted → IsPrefix met.known old.known
    → IsReadBy (λ (a b : Reading). b ≡ a) AfterLoad met own new → HasRead after own old new
read-by after-note later changes after noted own old met new is heap loads told grows reads =
    let loaded : AreLoads AfterLoad met own new = loaded-by met new own reads in
    record {
      heap = (changes met new own loaded).heap ∙ heap;
      adds = (changes met new own loaded).loads ∙ ap (λ (xs : List Load). map word_of_load xs ++ own) loads;
      fresh = λ calls h.
          subst (λ (n : ℕ). AreFresh (calls ++ (record { after = n; loads = own }) ∷ []) new.known) (sym is)
          (after-note calls noted own met new (later calls old.known met.known h grows) told loaded);
    }
