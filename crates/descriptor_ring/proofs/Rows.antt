-- The rule of a ring on two items.
use Rattle.std.proofs.Common.{◌≡◌, ℕ, zero, suc, ◌≤◌, true, false, true≢false, List, [], ◌∷◌, inl, inr, refl, sym, ap, arith, subst, ◌++◌, length, length-append}
use mathlib.Core.Option.{some, some-injective, some-ne-none}
use mathlib.Core.List.{IsPrefix}
use lib.ListN.{get_elem?}
use Rattle.std.proofs.lemmas.List.Elements.{All-nil, All-cons}
use Rattle.shared_heap.specs.Fresh.{HeapId}
use Rattle.descriptor_ring.specs.declared.ring_rule.RingEntry.TheVariants.{Item, Closing}
use Rattle.descriptor_ring.specs.declared.ring_rule.RingView.{RingView}
use Rattle.descriptor_ring.specs.Heaps.{no_heap}
use Rattle.descriptor_ring.specs.RingRule.{ring_entries, queued, view_of, sender, receiver, knowing_view, longer, with_sent_of, with_taken_of, AreComparable, after_push, after_pop, IsViewOfRing, IsFifo}
use Rattle.descriptor_ring.specs.Rings.{HasHeldLast}

both_then_the_closing : ring_entries {T = ℕ} (7 ∷ 8 ∷ []) true ≡ Item 7 ∷ Item 8 ∷ Closing ∷ []
both_then_the_closing = refl

nothing_after_the_closing : queued {T = ℕ} [] true true ≡ []
nothing_after_the_closing = refl

sent_behind : after_push {T = ℕ} (sender no_heap (7 ∷ []) false) (Item 8) ≡ sender no_heap (7 ∷ 8 ∷ []) false
sent_behind = refl

taken_behind : after_pop {T = ℕ} (receiver no_heap (7 ∷ []) false) (Item 8) ≡ receiver no_heap (7 ∷ 8 ∷ []) false
taken_behind = refl

-- the longer of two prefixes, in either order
longer_of_both : longer {T = ℕ} (7 ∷ []) (7 ∷ 8 ∷ []) ≡ 7 ∷ 8 ∷ []
longer_of_both = refl

longer_of_one : longer {T = ℕ} (7 ∷ 8 ∷ []) (7 ∷ []) ≡ 7 ∷ 8 ∷ []
longer_of_one = refl

-- a receiver that took 7 observes a sender that sent 7 and 8
receiver_is_told : with_sent_of {T = ℕ} (receiver no_heap (7 ∷ []) false) (knowing_view (sender no_heap (7 ∷ 8 ∷ []) false))
    ≡ view_of no_heap false (7 ∷ 8 ∷ []) false true (7 ∷ []) false
receiver_is_told = refl

-- and the sender observes the receiver
sender_is_told : with_taken_of {T = ℕ} (sender no_heap (7 ∷ 8 ∷ []) false) (knowing_view (receiver no_heap (7 ∷ []) false))
    ≡ view_of no_heap true (7 ∷ 8 ∷ []) false false (7 ∷ []) false
sender_is_told = refl

-- one of two lists is a prefix of the other, or they don't agree
begins : AreComparable {T = ℕ} (7 ∷ []) (7 ∷ 8 ∷ [])
begins = inl (8 ∷ [], refl)

neither_begins : AreComparable {T = ℕ} (7 ∷ []) (8 ∷ 7 ∷ []) → ⊥
neither_begins (inl p) = cc (p.1)
neither_begins (inr p) = cc (p.1)

-- a full ring of one, after 7 and 8 were sent and the sender has observed 7 as taken
one_held : HasHeldLast {T = ℕ} (7 ∷ 8 ∷ []) (7 ∷ []) 1
one_held = record { taken = 7 ∷ []; waiting = 8 ∷ []; in_order = refl; observed = ([], refl); counted = refl }

-- then it doesn't hold two, and a ring without sent items holds none
not_both_held : HasHeldLast {T = ℕ} (7 ∷ 8 ∷ []) (7 ∷ []) 2 → ⊥
not_both_held h = too_long h.taken h.waiting h.in_order h.observed h.counted
  where
    too_long : (taken waiting : List ℕ) → 7 ∷ 8 ∷ [] ≡ taken ++ waiting → IsPrefix (7 ∷ []) taken → length waiting ≡ 2 → ⊥
    too_long taken waiting order told counted =
        omega (arith, ap length order, length-append taken waiting, counted, ap length told.1, length-append (7 ∷ []) told.0)

none_held : HasHeldLast {T = ℕ} [] [] 1 → ⊥
none_held h = omega (arith, ap length h.in_order, length-append h.taken h.waiting, h.counted)

abbrev small : HeapId → ℕ → Type 0
small heap n = n ≤ 9

abbrev two : List (RingView ℕ)
two =
    view_of no_heap true (7 ∷ 8 ∷ []) true false (7 ∷ []) false
    ∷ view_of no_heap false (7 ∷ 8 ∷ []) false true (7 ∷ []) false
    ∷ []

-- two items and the closing sentinel were sent, and the first was taken; each end has observed the other
one_waits : IsFifo small 2 (Item 8 ∷ Closing ∷ []) two
one_waits = record {
  heap = no_heap;
  sent = 7 ∷ 8 ∷ [];
  closed = true;
  taken = 7 ∷ [];
  ended = false;
  waiting = 8 ∷ [];
  sender = 0;
  receiver = 1;
  in_order = refl;
  holds = refl;
  last = λ e. absurd (cc);
  fit = All-cons (small no_heap) 8 [] (omega arith) (All-nil (small no_heap));
  few = omega arith;
  passes = each;
}
  where
    each : (pass : ℕ) (v : RingView ℕ) → get_elem? two pass ≡ some v → IsViewOfRing small 2 0 1 no_heap (7 ∷ 8 ∷ []) true (7 ∷ []) false pass v
    each zero v e =
        subst (IsViewOfRing small 2 0 1 no_heap (7 ∷ 8 ∷ []) true (7 ∷ []) false 0) (some-injective _ _ e) record {
          sends = λ _. (refl, refl, refl, refl);
          takes = λ t. absurd (cc);
          some_sent = ([], refl);
          some_taken = ([], refl);
          some_closed = λ _. (refl, refl);
        }
    each (suc zero) v e =
        subst (IsViewOfRing small 2 0 1 no_heap (7 ∷ 8 ∷ []) true (7 ∷ []) false 1) (some-injective _ _ e) record {
          sends = λ s. absurd (cc);
          takes = λ _. (refl, refl, refl, refl);
          some_sent = ([], refl);
          some_taken = ([], refl);
          some_closed = λ c. absurd (true≢false (sym c));
        }
    each (suc (suc pass)) v e = absurd (some-ne-none v (sym e))

-- no pass knows of an item that wasn't sent
none_told : (line : IsFifo small 2 [] (view_of no_heap true (7 ∷ []) false false [] false ∷ view_of no_heap false (9 ∷ []) false true (7 ∷ []) false ∷ [])) → ⊥
none_told line =
    let s = (line.passes 0 (view_of no_heap true (7 ∷ []) false false [] false) refl).sends refl in
    let t = (line.passes 1 (view_of no_heap false (9 ∷ []) false true (7 ∷ []) false) refl).some_sent in
    cc (s.2, t.1)
