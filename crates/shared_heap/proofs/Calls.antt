-- The effect of some loads, and that those of calls stay fresh.
use Rattle.std.proofs.Common.{◌≡◌, ℕ, ◌≤◌, List, [], ◌∷◌, ◌++◌, length, map, refl, sym, ap, ◌∙◌, subst, append_assoc, append-nil, arith}
use Rattle.std.proofs.lemmas.List.{map-append}
use Rattle.std.proofs.lemmas.List.Concat.{flat_map-append}
use Rattle.mrpc_base.specs.Heap.{AreLoads}
use Rattle.shared_heap.specs.declared.view.Load.{Load}
use Rattle.shared_heap.specs.Fresh.{IsPrefix, CallLoads, loads_of_calls, load_of, word_of_load, HaveLoadNumbers, AreFresh, Reading, Writing, AfterLoad, HasLoaded, IsLaterWriter}
use Rattle.shared_heap.proofs.Freshness.{length_of, numbered_load, numbered_later, numbered_none}
use Rattle.shared_heap.proofs.Steps.{itself}

pub further : {X : Type 0} (a b c : List X) → IsPrefix a b → IsPrefix b c → IsPrefix a c
further a b c h g = (g.0 ++ h.0, h.1 ∙ ap (λ z. z ++ h.0) g.1 ∙ append_assoc c g.0 h.0)

no_loads : (r : Reading) → HasLoaded r [] r
no_loads r = record {
  heap = refl;
  loads = sym (append-nil (map word_of_load r.loads));
  grows = itself r.known;
  whole = refl;
  none_left = λ whole. refl;
}

pub has_loaded : (old new : Reading) (loads : List (ℕ × ℕ)) → AreLoads AfterLoad old loads new → HasLoaded old loads new
has_loaded old new [] h = subst (HasLoaded old []) (sym h) (no_loads old)
has_loaded old new (load ∷ loads) h =
    let next = h.0 in
    let one = h.1 in
    let rest = has_loaded next new loads h.2 in
    let first : map word_of_load next.loads ≡ map word_of_load old.loads ++ load ∷ [] =
    ap (map word_of_load) one.loads ∙ map-append word_of_load old.loads (load_of load.0 load.1 (length old.known) ∷ []) in
    record {
      heap = rest.heap ∙ one.heap;
      loads = rest.loads ∙ ap (λ l. l ++ loads) first ∙ append_assoc (map word_of_load old.loads) (load ∷ []) loads;
      grows = further new.known next.known old.known rest.grows one.grows;
      whole = rest.whole ∙ one.whole;
      none_left = λ whole. rest.none_left (one.whole ∙ whole) ∙ one.none_left whole;
    }

abbrev at : ℕ → ℕ × ℕ → Load
at after word = load_of word.0 word.1 after

-- the loads of one more call, made one after the other
numbered_call : (made : List Load) (after : ℕ) (old new : Reading) (loads : List (ℕ × ℕ)) → HaveLoadNumbers made old.known
    → after ≤ length old.known → AreLoads AfterLoad old loads new
    → HaveLoadNumbers (made ++ map (at after) loads) new.known
numbered_call made after old new [] f knew h =
    subst (λ l. HaveLoadNumbers l new.known) (sym (append-nil made)) (subst (λ (r : Reading). HaveLoadNumbers made r.known) (sym h) f)
numbered_call made after old new (load ∷ loads) f knew h =
    let next = h.0 in
    let one = h.1 in
    let first : HaveLoadNumbers (made ++ at after load ∷ []) next.known = numbered_load old.known next.known made load.0 load.1 after one.grows knew one.last f in
    let knew' : after ≤ length next.known = omega (arith, knew, length_of next.known old.known one.grows) in
    subst (λ l. HaveLoadNumbers l new.known) (append_assoc made (at after load ∷ []) (map (at after) loads))
    (numbered_call (made ++ at after load ∷ []) after next new loads first knew' h.2)

one_call : (after : ℕ) (loads : List (ℕ × ℕ)) → loads_of_calls ((record { after = after; loads = loads }) ∷ []) ≡ map (at after) loads
one_call after loads = append-nil (map (at after) loads)

pub fresh_none : (stores : List (ℕ × ℕ)) → AreFresh [] stores
fresh_none stores = numbered_none stores

pub fresh_one_more : (calls : List CallLoads) (after : ℕ) (loads : List (ℕ × ℕ)) (old new : Reading)
    → AreFresh calls old.known → after ≤ length old.known → AreLoads AfterLoad old loads new
    → AreFresh (calls ++ (record { after = after; loads = loads }) ∷ []) new.known
fresh_one_more calls after loads old new f knew h =
    let one : CallLoads = record { after = after; loads = loads } in
    let split : loads_of_calls (calls ++ one ∷ []) ≡ loads_of_calls calls ++ loads_of_calls (one ∷ []) = flat_map-append (λ (call : CallLoads). map (at call.after) call.loads) calls (one ∷ []) in
    let both : loads_of_calls (calls ++ one ∷ []) ≡ loads_of_calls calls ++ map (at after) loads = split ∙ ap (λ l. loads_of_calls calls ++ l) (one_call after loads) in
    subst (λ l. HaveLoadNumbers l new.known) (sym both) (numbered_call (loads_of_calls calls) after old new loads f knew h)

pub fresh_after_note : (calls : List CallLoads) (noted loads : List (ℕ × ℕ)) (old new : Reading)
    → AreFresh calls old.known → IsPrefix old.known noted → AreLoads AfterLoad old loads new
    → AreFresh (calls ++ (record { after = length noted; loads = loads }) ∷ []) new.known
fresh_after_note calls noted loads old new f met h = fresh_one_more calls (length noted) loads old new f (length_of old.known noted met) h

pub fresh_later : (calls : List CallLoads) (stores all : List (ℕ × ℕ)) → AreFresh calls stores → IsPrefix all stores → AreFresh calls all
fresh_later calls stores all f h = numbered_later stores all (loads_of_calls calls) h f

pub goes_on_itself : (w : Writing) → IsLaterWriter w w
goes_on_itself w = record { heap = refl; stores = itself w.stores }

pub goes_on_later : (first next last : Writing) → IsLaterWriter first next → IsLaterWriter next last → IsLaterWriter first last
goes_on_later first next last one two = record { heap = two.heap ∙ one.heap; stores = further last.stores next.stores first.stores two.stores one.stores }
