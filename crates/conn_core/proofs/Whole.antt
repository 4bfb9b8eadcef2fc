-- A complete drain, by its turns and its sends.
use Rattle.std.proofs.Common.{◌≡◌, ℕ, ◌++◌, List, length, map, ap, sym, ◌∙◌, subst}
use Rattle.std.specs.Prelude.{None, Option, Some}
use Rattle.std.proofs.lemmas.List.{length-map}
use Rattle.engine_core.specs.Chains.{Chain}
use Rattle.engine_core.specs.Engines.{EngineParts}
use Rattle.engine_core.specs.Moves.{first_at}
use Rattle.call_history.specs.Trace.{chain}
use Rattle.call_history.specs.Draining.{HasPartlyDrained, HasDrained, IsPass, HasSentSome}
use Rattle.call_history.specs.Transitions.{IsTransition, ConnState, IsValidState, fails}
use Rattle.call_history.specs.Frames.{frame_of}
use Rattle.call_history.specs.Positions.{IsSettled}
use Rattle.call_history.specs.Rules.{JudgeContext}
use Rattle.call_history.specs.Tickets.{tickets_of_trace}
use Rattle.conn_core.specs.Connections.{Connection, IsConnection, IsSameConnection, conn_trace, conn_state, conn_frames, judge_context}
use Rattle.conn_core.specs.Invariant.{HasFailedAfterSends}
use Rattle.conn_core.specs.ConnectionSteps.{HasDrawnInWindow, HasDrawnTickets, HasFailedInDrain, HasHandedOver}
use Rattle.conn_core.proofs.SentAll.{ready-as}
use Rattle.conn_core.proofs.TurnByTurn.{same-under}

pub begins : (a m : Connection) (now : ConnState) → IsSameConnection a m → IsPass (judge_context a) 0 (conn_state a) (conn_state m)
    → HasSentSome (judge_context m) (conn_state m) now → HasPartlyDrained (judge_context a) (conn_state a) now
begins a m now same passes sent = record {
  between = conn_state m;
  passes = passes;
  sent = subst (λ (u : JudgeContext). HasSentSome u (conn_state m) now) (same-under a m same) sent;
}

-- its chain has as many engines as the chain of its history has entries
as-many : (c : Connection) → IsConnection c → length c.chain.engines ≡ length (chain (conn_trace c)).entries
as-many c h =
    sym (length-map c.chain.engines (λ (e : EngineParts). e.entry)) ∙ ap (λ (ch : Chain). length ch.entries) h.same_chain

pub drains : (a m f : Connection) → IsSameConnection a m → IsPass (judge_context a) 0 (conn_state a) (conn_state m)
    → HasSentSome (judge_context m) (conn_state m) (conn_state f) → IsConnection f
    → first_at (length f.chain.engines) f.chain.row ≡ None → HasDrained (judge_context a) (conn_state a) (conn_state f)
drains a m f same passes sent h none = record {
  begins = begins a m (conn_state f) same passes sent;
  none_ready = subst (λ (n : ℕ). first_at n f.chain.row ≡ None) (as-many f h) none;
}

pub fails-in-drain : {L : Type 0} (Refused : L → List ℕ → L → Type 0) (handed_of : L → List (List ℕ))
    (faults_of : L → ℕ) (Since : L → L → Type 0) (a m f : Connection) (x y : L) → IsSameConnection a m
    → IsPass (judge_context a) 0 (conn_state a) (conn_state m) → HasFailedAfterSends Refused handed_of faults_of Since m f x y
    → HasFailedInDrain Refused handed_of faults_of Since a f x y
fails-in-drain Refused handed_of faults_of Since a m f x y same passes fault = record {
  between = fault.between;
  link = fault.link;
  front = begins a m fault.between same passes fault.front;
  seq = fault.seq;
  bytes = fault.bytes;
  ready = ready-as a m fault.between fault.seq fault.bytes same fault.ready;
  failed = subst (λ (u : JudgeContext). IsTransition u fault.between fails (conn_state f)) (same-under a m same) fault.failed;
  refused = subst (λ T. Refused fault.link (frame_of T fault.ready.sent) y) same.table fault.refused;
  same_handed = fault.same_handed;
  same_faults = fault.same_faults;
  since = fault.since;
}

-- a complete drain settles
abbrev pub DrainsSettle : Type 0
DrainsSettle = (u : JudgeContext) (old new : ConnState) → IsValidState u old → HasDrained u old new
    → IsSettled u new.past (map (λ call. call.1) new.row)

pub settled : DrainsSettle → (a f : Connection) → IsConnection a → IsSameConnection a f → HasDrained (judge_context a) (conn_state a) (conn_state f)
    → IsSettled (judge_context f) (conn_trace f) (map (λ call. call.1) f.chain.row)
settled settle a f h same drained =
    subst (λ (u : JudgeContext). IsSettled u (conn_trace f) (map (λ call. call.1) f.chain.row)) (sym (same-under a f same))
    (settle (judge_context a) (conn_state a) (conn_state f) h.is_valid_state drained)

draws-still : (tenant window : ℕ) (a m f : Connection) (x y : Option (List ℕ))
    → tickets_of_trace tenant window (conn_trace f) ≡ tickets_of_trace tenant window (conn_trace m)
    → HasDrawnInWindow tenant window a m x y → HasDrawnInWindow tenant window a f x y
draws-still tenant window a m f x None same draws = tt
draws-still tenant window a m f None (Some now) same draws = draws
draws-still tenant window a m f (Some earlier) (Some now) same draws = (draws.0, same ∙ draws.1, draws.2)

pub draws-later : {Q : Type 0} (Knows : Q → ℕ → Type 0) (drawn_of : Q → ℕ → ℕ → Option (List ℕ)) (Since : Q → Q
    → Type 0) (a m f : Connection) (x y : Q)
    → HasDrawnTickets Knows drawn_of Since a m x y
    → ((tenant window : ℕ) → tickets_of_trace tenant window (conn_trace f) ≡ tickets_of_trace tenant window (conn_trace m))
    → HasDrawnTickets Knows drawn_of Since a f x y
draws-later Knows drawn_of Since a m f x y draws same = record {
  drawn = λ tenant window known within.
      draws-still tenant window a m f (drawn_of x tenant window) (drawn_of y tenant window) (same tenant window)
      (draws.drawn tenant window known within);
  knows = draws.knows;
  since = draws.since;
}

pub hands-from : (a m f : Connection) (x y : List (List ℕ)) → conn_frames m ≡ conn_frames a → HasHandedOver m f x y → HasHandedOver a f x y
hands-from a m f x y same hands = (hands.0, hands.1 ∙ ap (λ fs. fs ++ hands.0) same, hands.2)
