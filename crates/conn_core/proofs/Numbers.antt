-- The numbers of the accepted calls, and of the pending ones.
use Rattle.std.proofs.Common.{◌≡◌, ℕ, ◌+◌, ◌<◌, ◌≤◌, true, false, cond, List, [], ◌∷◌, ◌++◌, length, map, refl, ap}
use Rattle.std.proofs.Common.{sym, ◌∙◌, arith, length-append, Contains}
use Rattle.std.specs.Prelude.{All}
use Rattle.std.specs.Str.{bytes_eq}
use Rattle.std.proofs.lemmas.List.{length-map}
use Rattle.std.proofs.lemmas.List.Elements.{All-nil, All-push, All-weaker, All-filter, All-map, All-contains, All-same}
use Rattle.engine_core.specs.Answers.{nothing, charged, drawn, counted}
use Rattle.engine_core.specs.declared.op.Op.TheVariants.{Attach}
use Rattle.engine_core.specs.Marks.{PendingCall, seqs_of}
use Rattle.call_history.specs.Trace.{Trace, noted, pending_calls, is_pending, taken}
use Rattle.call_history.specs.Legal.{IsLegalPrefix}
use Rattle.call_history.specs.Rules.{JudgeContext}
use Rattle.call_history.specs.declared.happening.Happening.TheVariants.{Took, Op, Charged, Drawn, Counted}
use Rattle.call_history.specs.declared.happening.AcceptedCall.{AcceptedCall}
use Rattle.conn_core.specs.Connections.{Connection, IsConnection, conn_trace}
use Rattle.conn_core.proofs.Lists.{all-of-map}
use Rattle.conn_core.proofs.Told.{isnt-call}

-- no number is greater than the count of accepted calls
numbered : (u : JudgeContext) (past : Trace) → IsLegalPrefix u past → All (λ call. call.seq ≤ length (taken past)) (taken past)
numbered u [] prefix = All-nil (λ (call : AcceptedCall). call.seq ≤ 0)
numbered u (Took call ∷ past) prefix =
    let next : call.seq ≡ length (taken past) + 1 = prefix.1.numbered.number in
    let long : length (taken past ++ call ∷ []) ≡ length (taken past) + 1 = length-append (taken past) (call ∷ []) in
    All-push (λ (t : AcceptedCall). t.seq ≤ length (taken past ++ call ∷ [])) (taken past) call
    (All-weaker (λ (t : AcceptedCall). t.seq ≤ length (taken past)) (λ (t : AcceptedCall). t.seq ≤ length (taken past ++ call ∷ []))
    (λ t few. omega (arith, few, long)) (taken past) (numbered u past prefix.0))
    (omega (arith, next, long))
numbered u (x ∷ past) prefix = numbered u past prefix.0

pub stand-numbered : (u : JudgeContext) (past : Trace) → IsLegalPrefix u past
    → All (λ seq. seq ≤ length (taken past)) (map (λ call. call.seq) (pending_calls past))
stand-numbered u past prefix =
    All-map (λ (seq : ℕ). seq ≤ length (taken past)) (λ (call : AcceptedCall). call.seq) (pending_calls past)
    (All-filter (is_pending past) (λ (call : AcceptedCall). call.seq ≤ length (taken past)) (taken past) (numbered u past prefix))

stood : (u : JudgeContext) (past : Trace) (seq : ℕ) → IsLegalPrefix u past → Contains (map (λ call. call.seq) (pending_calls past)) seq
    → seq ≤ length (taken past)
stood u past seq prefix there =
    All-contains (λ (n : ℕ). n ≤ length (taken past)) (map (λ (call : AcceptedCall). call.seq) (pending_calls past)) seq
    (stand-numbered u past prefix) there

-- nothing is noted of a call that isn't accepted yet
pub untold : (u : JudgeContext) (past : Trace) (name : List ℕ) (seq : ℕ) → IsLegalPrefix u past → length (taken past) < seq
    → noted name seq past ≡ nothing
untold u [] name seq prefix above = refl
untold u (Took call ∷ past) name seq prefix above =
    untold u past name seq prefix.0 (omega (arith, above, length-append (taken past) (call ∷ [])))
untold u (Op (Attach at other label policy) ∷ past) name seq prefix above =
    elim (bytes_eq other name) as (λ b. cond b nothing (noted name seq past) ≡ nothing) [
      | true ↦ refl
      | false ↦ untold u past name seq prefix.0 above
    ]
untold u (Charged call other left ∷ past) name seq prefix above =
    let few : call ≤ length (taken past) = stood u past call prefix.0 prefix.1.notes_due.meets.at.is_pending in
    ap (λ b. cond b charged (noted name seq past))
    (isnt-call call seq other name (λ same. omega (arith, few, same, above))) ∙ untold u past name seq prefix.0
    above
untold u (Drawn call other window ticket ∷ past) name seq prefix above =
    let few : call ≤ length (taken past) = stood u past call prefix.0 prefix.1.notes_due.meets.at.is_pending in
    ap (λ b. cond b (drawn ticket) (noted name seq past))
    (isnt-call call seq other name (λ same. omega (arith, few, same, above))) ∙ untold u past name seq prefix.0
    above
untold u (Counted call other ∷ past) name seq prefix above =
    let few : call ≤ length (taken past) = stood u past call prefix.0 prefix.1.notes_due.meets.at.is_pending in
    ap (λ b. cond b counted (noted name seq past))
    (isnt-call call seq other name (λ same. omega (arith, few, same, above))) ∙ untold u past name seq prefix.0
    above
untold u (x ∷ past) name seq prefix above = untold u past name seq prefix.0 above

-- ---- the calls of a chain are the pending ones

pub numbers : (c : Connection) → IsConnection c
    → seqs_of c.chain.calls ≡ map (λ call. call.seq) (pending_calls (conn_trace c))
numbers c h = sym h.is_chain_state.row ∙ h.is_valid_state.calls

pub as-many : (c : Connection) → IsConnection c → length c.chain.calls ≡ length (pending_calls (conn_trace c))
as-many c h =
    sym (length-map c.chain.calls (λ (s : PendingCall). s.call.seq)) ∙ ap length (numbers c h) ∙ length-map
    (pending_calls (conn_trace c)) (λ (call : AcceptedCall). call.seq)

pub few-numbers : (c : Connection) → IsConnection c → All (λ s. s.call.seq ≤ length (taken (conn_trace c))) c.chain.calls
few-numbers c h =
    all-of-map (λ (s : PendingCall). s.call.seq) (λ (seq : ℕ). seq ≤ length (taken (conn_trace c))) c.chain.calls
    (All-same (λ (seq : ℕ). seq ≤ length (taken (conn_trace c))) (seqs_of c.chain.calls)
    (map (λ (call : AcceptedCall). call.seq) (pending_calls (conn_trace c))) (numbers c h)
    (stand-numbered (record { conn = c.conn; table = c.table; limit = c.limit }) (conn_trace c) h.is_valid_state.legal.prefix))
