-- Worked by hand: the definitions on short lists, with two frames and the sentinels to a writer, and a few
-- pieces and the sentinels back.
use Rattle.std.proofs.Common.{◌≡◌, ℕ, Bool, true, false, true≢false, List, [], ◌∷◌, ◌++◌, None, Some}
use Rattle.std.proofs.Common.{refl, sym, ap, inl, inr, arith}
use Rattle.spsc_queue.specs.declared.piece.Piece.{Piece}
use Rattle.spsc_queue.specs.declared.piece.Piece.TheVariants.{Bytes, Sentinel}
use Rattle.link_queue.specs.declared.orders.Order.{Order}
use Rattle.link_queue.specs.declared.orders.Order.TheVariants.{Finish, Close}
use Rattle.link_queue.specs.declared.orders.News.{News}
use Rattle.link_queue.specs.declared.orders.News.TheVariants.{End, Failed, Memory}
use Rattle.link_queue.specs.declared.orders.Health.TheVariants.{Working, Failed as HasFailed, Memory as LacksMemory}
use Rattle.link_queue.specs.Known.{HasGrownBy, frames_since}
use Rattle.spsc_queue.specs.Pieces.{frames_of_pieces}
use Rattle.link_queue.specs.Sentinels.{IsSentinelIn, is_open, is_closed, has_finished, ends_once, may_hold, IsNewsOf}
use Rattle.link_queue.specs.Sentinels.{IsQueueing, IsReceivingBack, HasQueued, IsForwarding, IsReturning, HasReturned}

abbrev orders : List (Piece Order)
orders = Bytes (1 ∷ 2 ∷ []) ∷ Sentinel Finish ∷ Bytes (3 ∷ []) ∷ Sentinel Close ∷ []

abbrev frames : List (List ℕ)
frames = (1 ∷ 2 ∷ []) ∷ (3 ∷ []) ∷ []

both_frames : frames_of_pieces orders ≡ frames
both_frames = refl

finished : has_finished orders ≡ true
finished = refl

closed : is_closed orders ≡ true
closed = refl

-- nothing follows the closing sentinel
closed_early : is_closed (Sentinel Close ∷ Bytes (3 ∷ []) ∷ []) ≡ false
closed_early = refl

still_open : is_open (Bytes (1 ∷ []) ∷ Sentinel Finish ∷ []) ≡ true
still_open = refl

-- the frames sent since a link had sent the first
the_second : frames_since ((1 ∷ 2 ∷ []) ∷ []) frames ≡ (3 ∷ []) ∷ []
the_second = refl

-- an inner link that had received 1 received 2 and 3 since; if the earlier bytes aren't known, nothing is
-- claimed
more_came : HasGrownBy (Some (1 ∷ [])) (Some (1 ∷ 2 ∷ 3 ∷ [])) (2 ∷ 3 ∷ [])
more_came known e = let same : 1 ∷ [] ≡ known = cc (e) in ap (λ (l : List ℕ). Some (l ++ 2 ∷ 3 ∷ [])) same

no_more_came : HasGrownBy (Some (1 ∷ [])) (Some (1 ∷ 2 ∷ [])) (3 ∷ []) → ⊥
no_more_came h = let e = h (1 ∷ []) refl in cc (e)

tells_nothing : HasGrownBy None None (3 ∷ [])
tells_nothing known e = absurd (cc (e))

-- ---- what a writer forwarded of the orders that it popped

-- all were forwarded, or only the first because the inner link failed then
all_passed : IsForwarding orders frames true Working
all_passed = record { unclosed = λ e. absurd (true≢false e); closed_last = λ _. refl; in_order = refl; whole = λ _. refl }

first_passed : IsForwarding orders ((1 ∷ 2 ∷ []) ∷ []) true HasFailed
first_passed = record { unclosed = λ e. absurd (true≢false e); closed_last = λ _. refl; in_order = refl; whole = λ e. absurd (cc (e)) }

-- no frame overtakes another, is duplicated, or is left out while the inner link works
none_overtakes : IsForwarding orders ((3 ∷ []) ∷ (1 ∷ 2 ∷ []) ∷ []) true HasFailed → ⊥
none_overtakes h = cc (h.in_order)

none_twice : IsForwarding orders ((1 ∷ 2 ∷ []) ∷ (1 ∷ 2 ∷ []) ∷ []) true HasFailed → ⊥
none_twice h = cc (h.in_order)

none_left_out : IsForwarding orders ((1 ∷ 2 ∷ []) ∷ []) true Working → ⊥
none_left_out h = cc (h.whole refl)

none_from_nowhere : IsForwarding orders ((9 ∷ []) ∷ []) true HasFailed → ⊥
none_from_nowhere h = cc (h.in_order)

-- the closing sentinel is the last piece that it pops
none_behind_the_closing : IsForwarding (Sentinel Close ∷ Bytes (3 ∷ []) ∷ []) [] true HasFailed → ⊥
none_behind_the_closing h = true≢false (sym (h.closed_last refl))

-- ---- what it returned of the bytes that it received

-- one piece was pushed and one is held; then the end is held
one_held : IsReturning (Bytes (7 ∷ []) ∷ []) (Some (Bytes (8 ∷ 9 ∷ []))) (7 ∷ 8 ∷ 9 ∷ []) false Working
one_held = record { in_order = refl; ends_once = refl; ended_first = λ a. absurd a; holds = refl; failed_first = λ a. absurd a }

end_held : IsReturning (Bytes (7 ∷ []) ∷ []) (Some (Sentinel End)) (7 ∷ []) true Working
end_held = record { in_order = refl; ends_once = refl; ended_first = λ a. absurd a; holds = refl; failed_first = λ a. absurd a }

-- the end is reported after the last piece, and only after the inner link's end; a failure only after a failure
end_before_the_last : ends_once (Sentinel End ∷ Bytes (7 ∷ []) ∷ []) ≡ false
end_before_the_last = refl

no_end_yet : IsReturning (Sentinel End ∷ []) None [] false Working → ⊥
no_end_yet h = true≢false (sym (h.ended_first (inl refl)))

no_failure : IsReturning (Sentinel Failed ∷ []) None [] false LacksMemory → ⊥
no_failure h = cc (h.failed_first (inl refl))

no_bytes_after_the_end : may_hold true (Some (Bytes (7 ∷ []))) ≡ false
no_bytes_after_the_end = refl

no_byte_twice : IsReturning (Bytes (7 ∷ []) ∷ []) (Some (Bytes (7 ∷ 8 ∷ []))) (7 ∷ 8 ∷ []) false Working → ⊥
no_byte_twice h = cc (h.in_order)

no_byte_lost : IsReturning (Bytes (8 ∷ []) ∷ []) None (7 ∷ 8 ∷ []) false Working → ⊥
no_byte_lost h = cc (h.in_order)

-- a failure is reported only of a link that failed, and out of memory only if the writer was
failure_told : IsNewsOf HasFailed Failed
failure_told = refl

no_failure_told : IsNewsOf LacksMemory Failed → ⊥
no_failure_told e = cc (e)

no_want_told : IsNewsOf Working Memory → ⊥
no_want_told e = cc (e)

-- when closed, it drops what it held for a full queue, but no byte before that, and no byte if it reported the
-- end
held_left_out : HasReturned (Bytes (7 ∷ []) ∷ []) (7 ∷ 8 ∷ 9 ∷ []) false Working
held_left_out = record {
  in_order = refl;
  whole = λ a. absurd a;
  ends_once = refl;
  ended_first = λ a. absurd a;
  failed_first = λ a. absurd a;
}

all_brought : HasReturned (Bytes (7 ∷ []) ∷ Bytes (8 ∷ []) ∷ Sentinel End ∷ []) (7 ∷ 8 ∷ []) true Working
all_brought = record {
  in_order = refl;
  whole = λ _. refl;
  ends_once = refl;
  ended_first = λ _. refl;
  failed_first = failed;
}
  where
    failed : IsSentinelIn Failed (End ∷ []) → Working ≡ HasFailed
    failed (inl e) = absurd (cc (e))
    failed (inr a) = absurd a

none_overtaken : HasReturned (Bytes (8 ∷ []) ∷ []) (7 ∷ 8 ∷ []) false Working → ⊥
none_overtaken h = cc (h.in_order)

no_end_with_a_rest : HasReturned (Bytes (7 ∷ []) ∷ Sentinel End ∷ []) (7 ∷ 8 ∷ []) true Working → ⊥
no_end_with_a_rest h = let e = h.whole (inl refl) in cc (e)

-- ---- what a link pushed into a queue of capacity 1, and what it popped from the queue back

abbrev bytes_and_end : List (Piece News)
bytes_and_end = Bytes (7 ∷ 8 ∷ []) ∷ Sentinel End ∷ []

abbrev queues : ℕ → Bool → Type 0
queues free finished = IsQueueing 1 3 free (Bytes (1 ∷ []) ∷ Sentinel Finish ∷ []) finished

abbrev hears : List (Piece News) → List ℕ → Bool → ℕ → Type 0
hears taken given ended failures = IsReceivingBack taken given ended Working failures

one_place_is_left : queues 1 true
one_place_is_left = record {
  places = refl;
  for_the_end = λ e. absurd (true≢false e);
  for_the_closing = omega arith;
  unclosed = refl;
  finishes = refl;
}

still_comes : hears (Bytes (7 ∷ 8 ∷ []) ∷ []) (7 ∷ []) false 0
still_comes = record {
  ends = λ e. absurd (true≢false (sym e));
  gave = λ e. absurd (true≢false (sym e));
  fails = λ e. absurd (cc (e));
  counts = λ some. absurd (omega (arith, some));
}

all_came : hears bytes_and_end (7 ∷ 8 ∷ []) true 0
all_came = record {
  ends = λ _. inl refl;
  gave = λ _. refl;
  fails = λ e. absurd (cc (e));
  counts = λ some. absurd (omega (arith, some));
}

-- it ends only at the end sentinel, after every byte before it was delivered; `finish` pushes a sentinel
no_end_without_the_mark : hears (Bytes (7 ∷ []) ∷ []) (7 ∷ []) true 0 → ⊥
no_end_without_the_mark h = absurd (h.ends refl)

no_end_with_bytes_left : hears bytes_and_end (7 ∷ []) true 0 → ⊥
no_end_with_bytes_left h = let e = h.gave refl in cc (e)

no_mark_without_finish : queues 1 false → ⊥
no_mark_without_finish h = true≢false h.finishes

-- the slots of the sentinels that are still to come are free
no_place_to_close : queues 0 true → ⊥
no_place_to_close h = omega (arith, h.for_the_closing)

-- it counts no failure while the inner link works
no_fault_of_its_own : hears [] [] false 1 → ⊥
no_fault_of_its_own h = let e = h.counts (omega arith) in cc (e)

-- a closed link pushed the closing sentinel last, and knows of a failure only by its sentinel
all_went : HasQueued orders bytes_and_end (7 ∷ 8 ∷ []) true false
all_went = record {
  closed_last = refl;
  ends = λ _. inl refl;
  gave = λ _. refl;
  fails = λ e. absurd (true≢false (sym e));
}

never_closed : HasQueued (Bytes (1 ∷ []) ∷ []) [] [] false false → ⊥
never_closed h = true≢false (sym h.closed_last)

no_failure_without_the_mark : HasQueued orders bytes_and_end (7 ∷ 8 ∷ []) true true → ⊥
no_failure_without_the_mark h = let a = h.fails refl in none a
  where
    none : IsSentinelIn Failed (End ∷ []) → ⊥
    none (inl e) = cc (e)
    none (inr a) = absurd a
