-- The steps of a writer preserve its invariant.
use Rattle.std.proofs.Common.{◌≡◌, ◌≢◌, ℕ, Bool, true, false, true≢false, List, [], ◌∷◌, ◌++◌, Option, None, Some, refl, ap, sym, ◌∙◌, subst}
use Rattle.std.proofs.lemmas.List.{append-nil}
use Rattle.spsc_queue.specs.declared.piece.Piece.{Piece}
use Rattle.spsc_queue.specs.declared.piece.Piece.TheVariants.{Bytes, Sentinel}
use Rattle.spsc_queue.specs.Pieces.{bytes_of_pieces, sentinels_of, frames_of_pieces}
use Rattle.link_queue.specs.declared.orders.Order.{Order}
use Rattle.link_queue.specs.declared.orders.Order.TheVariants.{Finish, Close}
use Rattle.link_queue.specs.declared.orders.News.{News}
use Rattle.link_queue.specs.declared.orders.News.TheVariants.{End, Failed, Memory}
use Rattle.link_queue.specs.declared.orders.Health.{Health}
use Rattle.link_queue.specs.declared.orders.Health.TheVariants.{Working, Failed as HasFailed, Memory as LacksMemory}
use Rattle.link_queue.specs.Known.{IsPrefix}
use Rattle.link_queue.specs.Sentinels.{IsSentinelIn, is_open, is_closed, ends_once, held_bytes, may_hold, IsNewsOf, IsForwarding, IsReturning}
use Rattle.link_queue.proofs.Pieces.{frames_snoc_bytes, frames_snoc_mark, open_snoc_bytes, open_snoc_finish}
use Rattle.link_queue.proofs.Pieces.{closed_snoc_close, put_bytes, put_ends, put_ended, put_failed, told_ended}
use Rattle.link_queue.proofs.Pieces.{told_failed, ends_snoc_mark, bytes_snoc_mark, begins_same}
use Rattle.link_queue.proofs.Pieces.{begins_more}

-- ---- to the inner link

-- a frame was sent on the inner link, and forwarded unless the link is failed from now on
pub frame_was_sent : (taken taken' : List (Piece Order)) (passed passed' : List (List ℕ)) (frame : List ℕ)
    (closed : Bool) (before after : Health) → before ≡ Working → closed ≡ false → taken' ≡ taken ++ Bytes frame ∷ []
    → (after ≡ Working → passed' ≡ passed ++ frame ∷ []) → (after ≢ Working → passed' ≡ passed)
    → IsForwarding taken passed closed before → IsForwarding taken' passed' closed after
frame_was_sent taken taken' passed passed' frame closed before after works unclosed more done kept h =
    let all : frames_of_pieces taken' ≡ frames_of_pieces taken ++ frame ∷ [] = ap frames_of_pieces more ∙ frames_snoc_bytes taken frame in
    record {
      unclosed = λ e. ap is_open more ∙ open_snoc_bytes taken frame (h.unclosed e);
      closed_last = λ e. absurd (true≢false (sym e ∙ unclosed));
      in_order = order after done kept all;
      whole = λ e. done e ∙ ap (λ (l : List (List ℕ)). l ++ frame ∷ []) (h.whole works) ∙ sym all;
    }
  where
    order : (after : Health) → (after ≡ Working → passed' ≡ passed ++ frame ∷ [])
        → (after ≢ Working → passed' ≡ passed) → frames_of_pieces taken' ≡ frames_of_pieces taken ++ frame ∷ []
        → IsPrefix (frames_of_pieces taken') passed'
    order Working done kept all = begins_same (frames_of_pieces taken') passed' (done refl ∙ ap (λ (l : List (List ℕ)). l ++ frame ∷ []) (h.whole works) ∙ sym all)
    order HasFailed done kept all = subst (λ (p : List (List ℕ) × List (List ℕ)). IsPrefix p.0 p.1)
        (λ i. (sym all i, sym (kept (λ e. cc (e))) i)) (begins_more (frames_of_pieces taken) passed (frame ∷ []) h.in_order)
    order LacksMemory done kept all = subst (λ (p : List (List ℕ) × List (List ℕ)). IsPrefix p.0 p.1)
        (λ i. (sym all i, sym (kept (λ e. cc (e))) i)) (begins_more (frames_of_pieces taken) passed (frame ∷ []) h.in_order)

-- a frame was popped, and not forwarded
pub frame_was_left : (taken taken' : List (Piece Order)) (passed : List (List ℕ)) (frame : List ℕ) (closed : Bool)
    (health : Health) → health ≢ Working → closed ≡ false → taken' ≡ taken ++ Bytes frame ∷ []
    → IsForwarding taken passed closed health → IsForwarding taken' passed closed health
frame_was_left taken taken' passed frame closed health fails unclosed more h =
    let all : frames_of_pieces taken' ≡ frames_of_pieces taken ++ frame ∷ [] = ap frames_of_pieces more ∙ frames_snoc_bytes taken frame in
    record {
      unclosed = λ e. ap is_open more ∙ open_snoc_bytes taken frame (h.unclosed e);
      closed_last = λ e. absurd (true≢false (sym e ∙ unclosed));
      in_order = subst (λ (l : List (List ℕ)). IsPrefix l passed) (sym all) (begins_more (frames_of_pieces taken) passed (frame ∷ []) h.in_order);
      whole = λ e. absurd (fails e);
    }

-- the sending side was shut down
pub finish_was_passed : (taken taken' : List (Piece Order)) (passed passed' : List (List ℕ)) (closed : Bool)
    (health health' : Health) → closed ≡ false → taken' ≡ taken ++ Sentinel Finish ∷ [] → passed' ≡ passed
    → health' ≡ health
    → IsForwarding taken passed closed health → IsForwarding taken' passed' closed health'
finish_was_passed taken taken' passed passed' closed health health' unclosed more same stays h =
    let all : frames_of_pieces taken' ≡ frames_of_pieces taken = ap frames_of_pieces more ∙ frames_snoc_mark taken Finish in
    record {
      unclosed = λ e. ap is_open more ∙ open_snoc_finish taken (h.unclosed e);
      closed_last = λ e. absurd (true≢false (sym e ∙ unclosed));
      in_order = subst (λ (p : List (List ℕ) × List (List ℕ)). IsPrefix p.0 p.1) (λ i. (sym all i, sym same i)) h.in_order;
      whole = λ e. same ∙ h.whole (sym stays ∙ e) ∙ sym all;
    }

-- the link was closed
pub close_was_passed : (taken taken' : List (Piece Order)) (passed passed' : List (List ℕ)) (closed : Bool)
    (health health' : Health) → closed ≡ false → taken' ≡ taken ++ Sentinel Close ∷ [] → passed' ≡ passed
    → health' ≡ health
    → IsForwarding taken passed closed health → IsForwarding taken' passed' true health'
close_was_passed taken taken' passed passed' closed health health' unclosed more same stays h =
    let all : frames_of_pieces taken' ≡ frames_of_pieces taken = ap frames_of_pieces more ∙ frames_snoc_mark taken Close in
    record {
      unclosed = λ e. absurd (true≢false e);
      closed_last = λ _. ap is_closed more ∙ closed_snoc_close taken (h.unclosed unclosed);
      in_order = subst (λ (p : List (List ℕ) × List (List ℕ)). IsPrefix p.0 p.1) (λ i. (sym all i, sym same i)) h.in_order;
      whole = λ e. same ∙ h.whole (sym stays ∙ e) ∙ sym all;
    }

-- ---- the queue back

-- what was held was pushed into the queue
pub held_was_put : (put put' : List (Piece News)) (piece : Piece News) (held held' : Option (Piece News))
    (came : List ℕ) (ended : Bool) (health : Health) → held ≡ Some piece → held' ≡ None → put' ≡ put ++ piece ∷ []
    → IsReturning put held came ended health → IsReturning put' held' came ended health
held_was_put put put' piece held held' came ended health was is more h =
    let may : may_hold ended (Some piece) ≡ true = subst (λ (o : Option (Piece News)). may_hold ended o ≡ true) was h.holds in
    record {
      in_order = ap (λ (o : Option (Piece News)). bytes_of_pieces put' ++ held_bytes o) is ∙ append-nil (bytes_of_pieces put')
          ∙ ap bytes_of_pieces more ∙ put_bytes put piece ∙ ap (λ (o : Option (Piece News)). bytes_of_pieces put ++ held_bytes o)
          (sym was) ∙ h.in_order;
      ends_once = ap ends_once more ∙ put_ends ended put piece may h.ended_first h.ends_once;
      ended_first = λ a. put_ended ended put piece may h.ended_first (subst (λ (l : List (Piece News)). IsSentinelIn End (sentinels_of l)) more a);
      holds = ap (λ (o : Option (Piece News)). may_hold ended o) is;
      failed_first = λ a. h.failed_first (put_failed ended put piece may (subst (λ (l : List (Piece News)). IsSentinelIn Failed (sentinels_of l)) more a));
    }

-- the inner link may be failed from now on
pub brings_back_still : (put : List (Piece News)) (held : Option (Piece News)) (came came' : List ℕ)
    (ended ended' : Bool) (before after : Health) → before ≡ Working → came' ≡ came → ended' ≡ ended
    → IsReturning put held came ended before → IsReturning put held came' ended' after
brings_back_still put held came came' ended ended' before after works same stays h = record {
  in_order = h.in_order ∙ sym same;
  ends_once = h.ends_once;
  ended_first = λ a. stays ∙ h.ended_first a;
  holds = ap (λ e. may_hold e held) stays ∙ h.holds;
  failed_first = λ a. absurd (cc (works, h.failed_first a));
}

-- nothing changed
pub brings_back_same : (put : List (Piece News)) (held : Option (Piece News)) (came came' : List ℕ)
    (ended ended' : Bool) (health health' : Health) → came' ≡ came → ended' ≡ ended → health' ≡ health
    → IsReturning put held came ended health → IsReturning put held came' ended' health'
brings_back_same put held came came' ended ended' health health' same stays too h = record {
  in_order = h.in_order ∙ sym same;
  ends_once = h.ends_once;
  ended_first = λ a. stays ∙ h.ended_first a;
  holds = ap (λ e. may_hold e held) stays ∙ h.holds;
  failed_first = λ a. too ∙ h.failed_first a;
}

-- the health of the inner link was reported to the link
pub news_was_told : (news : News) (put put' : List (Piece News)) (held : Option (Piece News)) (came : List ℕ)
    (ended : Bool) (health : Health) → IsNewsOf health news → put' ≡ put ++ Sentinel news ∷ []
    → IsReturning put held came ended health → held ≡ None
    → IsReturning put' held came ended health
news_was_told End put put' held came ended health so more h holds = absurd so
news_was_told Failed put put' held came ended health so more h holds = record {
  in_order = ap (λ (l : List ℕ). l ++ held_bytes held) (ap bytes_of_pieces more ∙ bytes_snoc_mark put Failed) ∙ h.in_order;
  ends_once = ap ends_once more ∙ ends_snoc_mark put Failed h.ends_once;
  ended_first = λ a. h.ended_first (told_ended put Failed (λ e. cc (e)) (subst (λ (l : List (Piece News)). IsSentinelIn End (sentinels_of l)) more a));
  holds = h.holds;
  failed_first = λ _. so;
}
news_was_told Memory put put' held came ended health so more h holds = record {
  in_order = ap (λ (l : List ℕ). l ++ held_bytes held) (ap bytes_of_pieces more ∙ bytes_snoc_mark put Memory) ∙ h.in_order;
  ends_once = ap ends_once more ∙ ends_snoc_mark put Memory h.ends_once;
  ended_first = λ a. h.ended_first (told_ended put Memory (λ e. cc (e)) (subst (λ (l : List (Piece News)). IsSentinelIn End (sentinels_of l)) more a));
  holds = h.holds;
  failed_first = λ a. h.failed_first (told_failed put Memory (λ e. cc (e)) (subst (λ (l : List (Piece News)). IsSentinelIn Failed (sentinels_of l)) more a));
}
