-- After a complete drain a connection is settled.
use Rattle.std.proofs.Common.{◌≡◌, ◌≢◌, ℕ, ◌+◌, ◌<◌, ◌≤◌, zero, suc, Bool, true, false, ◌==◌, cond, inl, inr, List}
use Rattle.std.proofs.Common.{[], ◌∷◌, length, map, refl, sym, ap, ◌∙◌, subst, arith}
use Rattle.std.specs.Prelude.{All, Option, Some, None, option_map, slice_get}
use Rattle.std.proofs.lemmas.Bool.{cases_lt, eq-eqb, ne_eqb, eqb-false}
use Rattle.std.proofs.lemmas.List.Elements.{All-nil, All-cons}
use Rattle.std.proofs.lemmas.Option.{slice_get-map, slice_get_within, get_or_from_slice_get}
use Rattle.mrpc_table.specs.declared.call.Call.{Call}
use Rattle.engine_core.specs.Answers.{Past, Answer, hold, IsEntryAnswer}
use Rattle.engine_core.specs.Chains.{Entry}
use Rattle.engine_core.specs.Moves.{Row, first_at, without_call}
use Rattle.engine_core.specs.Turns.{IsTurnOutcome, passes, is_noted_and_passes, is_held, is_refused, is_noted_and_refused, is_redacted}
use Rattle.engine_core.specs.declared.outcome.Outcome.{Outcome}
use Rattle.engine_core.specs.declared.outcome.Outcome.TheVariants.{Held, Redacted}
use Rattle.engine_core.specs.declared.policy.Policy.{Policy}
use Rattle.call_history.specs.Trace.{Trace, chain, taken, pending_calls, form, level_in_trace, timestamp, noted}
use Rattle.call_history.specs.Draining.{TurnsEnding, at_rest, again, HasTurns, is_idle, is_held as holds_first, redacts, goes}
use Rattle.call_history.specs.Draining.{IsPass, is_over, next, begins_again, HasSentSome, none, one, HasPartlyDrained}
use Rattle.call_history.specs.Draining.{HasDrained, HasFailedDrain}
use Rattle.call_history.specs.Transitions.{ConnState, Transition, IsTransition, turns, sends, fails, takes, is_away, changes, rises, stays, has_turn, is_sent, link_failed, IsEntryTurn, trace_after_turn, IsValidState}
use Rattle.call_history.specs.Positions.{IsHeld, IsSettled}
use Rattle.call_history.specs.Rules.{JudgeContext}
use Rattle.call_history.specs.declared.happening.Happening.TheVariants.{Sent}
use Rattle.call_history.specs.declared.happening.AcceptedCall.{AcceptedCall}
use Rattle.call_history.proofs.Holding.{Holds, to_course, from_course}
use Rattle.call_history.proofs.Keeping.{event-holds}
use Rattle.call_history.proofs.Noting.{gives-by}
use Rattle.call_history.proofs.Prefixes.{StaysChain}
use Rattle.call_history.proofs.Resting.{IsHeldAt, AtRest, rests-on, rests-sent}
use Rattle.call_history.proofs.Rowed.{IsRow}

-- all positions before one are settled
abbrev pub RestBefore : JudgeContext → ConnState → ℕ → Type 0
RestBefore u c position = (q : ℕ) → q < position → AtRest u c q

-- ---- turns

turn-holds : (u : JudgeContext) (c : ConnState) (position seq : ℕ) (outcome : Outcome) (e : Entry) → StaysChain → Holds u c
    → IsEntryTurn u c position seq outcome e → Holds u (trace_after_turn e seq outcome c)
turn-holds u c position seq outcome e chains h turn =
    event-holds u c (trace_after_turn e seq outcome c) (turns position seq outcome) chains h (has_turn position seq outcome e refl turn refl)

-- what holds after the turns at a position
record HasRested (u : JudgeContext) (position : ℕ) (ending : TurnsEnding) (new : ConnState) : Type 0 where
  holds : Holds u new
  rest : ending ≡ at_rest → RestBefore u new (position + 1)

one-more : (u : JudgeContext) (c : ConnState) (position : ℕ) → RestBefore u c position → AtRest u c position → RestBefore u c (position + 1)
one-more u c position before here q less = elim (cases_lt q position) [
  | inl earlier ↦ before q earlier
  | inr later ↦ (let same : position ≡ q = omega (arith, later, less) in subst (AtRest u c) same here)
]

pub same-number : (a b : ℕ × ℕ) → Some a ≡ Some b → a.0 ≡ b.0
same-number a b is = let same : a ≡ b = cc in ap (λ (call : ℕ × ℕ). call.0) same

turns-rest : (u : JudgeContext) (position : ℕ) (old new : ConnState) (ending : TurnsEnding) → StaysChain → HasTurns u position old ending new → Holds u old → RestBefore u old position
    → HasRested u position ending new
turns-rest u position old new ending chains (is_idle c idle) h before = record {
  holds = h;
  rest = λ ended. one-more u c position before (record { held = λ seq first. (let wrong : None ≡ Some (seq, position) = sym idle ∙ first in absurd cc) });
}
turns-rest u position old new ending chains (holds_first c seq left cost e turn) h before = record {
  holds = h;
  rest = λ ended. one-more u c position before (record {
    held = λ s first. (
        let same : seq ≡ s = same-number (seq, position) (s, position) (sym turn.first ∙ first) in
        record { level = left; cost = cost; entry = e; turn = subst (λ (n : ℕ). IsEntryTurn u c position n (Held left cost) e) same turn }
        );
  });
}
turns-rest u position old new ending chains (redacts c seq e turn) h before = record {
  holds = turn-holds u c position seq Redacted e chains h turn;
  rest = λ ended. absurd cc;
}
turns-rest u position old new ending chains (goes c d how seq outcome e turn done rest) h before =
    turns-rest u position (trace_after_turn e seq outcome c) d how chains rest (turn-holds u c position seq outcome e chains h turn)
    (λ q less. rests-on u c position q seq outcome e chains h turn done less (before q less))

-- ---- passes

-- all positions are settled
pub record HasPassed (u : JudgeContext) (new : ConnState) : Type 0 where
  pub holds : Holds u new
  pub rest : RestBefore u new (length (chain new.past).entries)

passes-rest : (u : JudgeContext) (position : ℕ) (old new : ConnState) → StaysChain → IsPass u position old new → Holds u old → RestBefore u old position → HasPassed u new
passes-rest u position old new chains (is_over p c at) h before = record { holds = h; rest = subst (RestBefore u c) at before }
passes-rest u position old new chains (next p c between d within turn rest) h before =
    let behind : HasRested u p at_rest between = turns-rest u p c between at_rest chains turn h before in
    passes-rest u (p + 1) between d chains rest behind.holds (behind.rest refl)
passes-rest u position old new chains (begins_again p c between d within turn rest) h before =
    let behind : HasRested u p again between = turns-rest u p c between again chains turn h before in
    passes-rest u 0 between d chains rest behind.holds (λ q less. absurd (omega (arith, less)))

-- ---- sends

-- the call at the end of the row is sent
record IsSending (u : JudgeContext) (old : ConnState) (seq : ℕ) (new : ConnState) : Type 0 where
  bytes : ℕ
  first : first_at (length (chain old.past).entries) old.row ≡ Some (seq, length (chain old.past).entries)
  new_is : new ≡ record old { past = Sent seq bytes ∷ old.past; row = without_call seq old.row }

sending-by : (u : JudgeContext) (old new : ConnState) (event : Transition) (seq bytes : ℕ) → event ≡ sends seq bytes → IsTransition u old event new → IsSending u old seq new
sending-by u old new event seq bytes is (takes call event_is running may new_is) = absurd cc
sending-by u old new event seq bytes is (is_away method number addr event_is full new_is) = absurd cc
sending-by u old new event seq bytes is (changes step event_is may new_is) = absurd cc
sending-by u old new event seq bytes is (rises ms event_is above new_is) = absurd cc
sending-by u old new event seq bytes is (stays ms event_is below new_is) = absurd cc
sending-by u old new event seq bytes is (has_turn position s outcome e event_is has new_is) = absurd cc
sending-by u old new event seq bytes is (is_sent s long event_is running ready new_is) =
    let same : s ≡ seq = cc in
    subst (λ (n : ℕ). IsSending u old n new) same (record { bytes = long; first = ready.first; new_is = new_is })
sending-by u old new event seq bytes is (link_failed event_is new_is) = absurd cc

sends-rest : (u : JudgeContext) (old new : ConnState) → StaysChain → HasSentSome u old new → HasPassed u old → HasPassed u new
sends-rest u old new chains (none c) passed = passed
sends-rest u old new chains (one c between d seq bytes comes rest) passed =
    let sending : IsSending u c seq between = sending-by u c between (sends seq bytes) seq bytes refl comes in
    sends-rest u between d chains rest (record {
      holds = event-holds u c between (sends seq bytes) chains passed.holds comes;
      rest = subst (λ (b : ConnState). RestBefore u b (length (chain b.past).entries)) (sym sending.new_is)
          (λ q less. rests-sent u c (length (chain c.past).entries) q seq sending.bytes passed.holds sending.first less (passed.rest q less));
    })

-- ---- a drain preserves the invariant

pub begins-hold : (u : JudgeContext) (old new : ConnState) → StaysChain → Holds u old → HasPartlyDrained u old new → HasPassed u new
begins-hold u old new chains h drain =
    sends-rest u drain.between new chains drain.sent (passes-rest u 0 old drain.between chains drain.passes h (λ q less. absurd (omega (arith, less))))

pub begins-keep : StaysChain → (u : JudgeContext) (old new : ConnState) → IsValidState u old → HasPartlyDrained u old new → IsValidState u new
begins-keep chains u old new h drain = to_course u new (begins-hold u old new chains (from_course u old h) drain).holds

pub drains-keep : StaysChain → (u : JudgeContext) (old new : ConnState) → IsValidState u old → HasDrained u old new → IsValidState u new
drains-keep chains u old new h drain = begins-keep chains u old new h drain.begins

pub fails-keep : StaysChain → (u : JudgeContext) (old new : ConnState) → IsValidState u old → HasFailedDrain u old new → IsValidState u new
fails-keep chains u old new h drain =
    to_course u new (event-holds u drain.between new fails chains (begins-hold u old drain.between chains (from_course u old h) drain.begins).holds drain.failed)

-- ---- settled

-- no call is at the bound
all-before : (u : JudgeContext) (past : Trace) (below top bound end : ℕ) (row : Row) → bound ≤ end
    → IsRow u past below top bound row → first_at end row ≡ None → All (λ p. p < end) (map (λ call. call.1) row)
all-before u past below top bound end [] within h is = All-nil (λ p. p < end)
all-before u past below top bound end (x ∷ row) within h is =
    let given : (b : Bool) → (x.1 == end) ≡ b → cond b (Some x) (first_at end row) ≡ None
    → All (λ p. p < end) (map (λ call. call.1) (x ∷ row)) = λ b. elim b as (λ b. (x.1 == end) ≡ b
    → cond b (Some x) (first_at end row) ≡ None → All (λ p. p < end) (map (λ call. call.1) (x ∷ row))) [
      | true ↦ λ test none. absurd cc
      | false ↦ λ test none.
          let apart = eqb-false x.1 end test in
          let low : x.1 < end = omega (arith, within, h.0.falls, apart) in
          All-cons (λ p. p < end) x.1 (map (λ (call : ℕ × ℕ). call.1) row) low (all-before u past x.0 top x.1 end row (omega (arith, low)) h.1 none)
    ] in
    given (x.1 == end) refl is

abbrev found-at : ℕ → ℕ → Option (ℕ × ℕ)
found-at position seq = Some (seq, position)

-- a call with none at its position before it is the first there
first-there : (row : Row) (place seq position : ℕ) → slice_get (map (λ call. call.0) row) place ≡ Some seq → slice_get (map (λ call. call.1) row) place ≡ Some position
    → ((i p : ℕ) → i < place → slice_get (map (λ call. call.1) row) i ≡ Some p → position < p) → first_at position row ≡ Some (seq, position)
first-there [] place seq position number at before = absurd cc
first-there (x ∷ row) zero seq position number at before =
    let is_number : x.0 ≡ seq = cc in
    let is_at : x.1 ≡ position = cc in
    ap (λ b. cond b (Some x) (first_at position row)) (eq-eqb x.1 position is_at)
    ∙ ap (found-at x.1) is_number ∙ ap (λ (p : ℕ). found-at p seq) is_at
first-there (x ∷ row) (suc place) seq position number at before =
    let apart : x.1 ≢ position = λ same. (let less : position < x.1 = before 0 x.1 (omega arith) refl in omega (arith, same, less)) in
    ap (λ b. cond b (Some x) (first_at position row)) (ne_eqb x.1 position apart)
    ∙ first-there row place seq position number at (λ i p less there. before (suc i) p (omega (arith, less)) there)

holds-by : (policy : Policy) (level_in_trace timestamp : ℕ) (form : Call) (past : Past) (outcome : Outcome) (left cost : ℕ)
    → IsTurnOutcome policy level_in_trace timestamp form past outcome → outcome ≡ Held left cost
    → IsEntryAnswer policy level_in_trace timestamp form past (hold left cost)
holds-by policy level_in_trace timestamp form past outcome left cost (passes answers outcome_is) is = absurd cc
holds-by policy level_in_trace timestamp form past outcome left cost (is_noted_and_passes n notes after outcome_is) is = absurd cc
holds-by policy level_in_trace timestamp form past outcome left cost (is_held l k answers outcome_is) is =
    let same : hold l k ≡ hold left cost = cc in subst (λ (a : Answer). IsEntryAnswer policy level_in_trace timestamp form past a) same answers
holds-by policy level_in_trace timestamp form past outcome left cost (is_refused why answers outcome_is) is = absurd cc
holds-by policy level_in_trace timestamp form past outcome left cost (is_noted_and_refused n why notes after outcome_is) is = absurd cc
holds-by policy level_in_trace timestamp form past outcome left cost (is_redacted answers outcome_is) is = absurd cc

held-there : (u : JudgeContext) (c : ConnState) (call : AcceptedCall) (position : ℕ) → IsHeldAt u c position call.seq → (level_in_trace : ℕ) × (cost : ℕ) × IsHeld u c.past call position level_in_trace cost
held-there u c call position held = (
  held.level,
  held.cost,
  record {
    entry = held.entry;
    at = held.turn.entry;
    holds = gives-by u c.past call.seq held.entry held.turn.call (hold held.level held.cost) held.turn.is_form
        (holds-by held.entry.policy (level_in_trace held.entry.name c.past) (timestamp c.past) held.turn.call
        (noted held.entry.name call.seq c.past) (Held held.level held.cost) held.level held.cost held.turn.comes
        refl);
  },
)

settled-by : (u : JudgeContext) (c : ConnState) → HasPassed u c → first_at (length (chain c.past).entries) c.row ≡ None → IsSettled u c.past (map (λ call. call.1) c.row)
settled-by u c passed none_ready = record {
  none_ready = before;
  held = λ call position head. held-there u c call position ((passed.rest position (low position head.place head.at)).held call.seq
      (first-there c.row head.place call.seq position (number call head.place head.is_call) head.at head.first));
}
  where
    before : All (λ p. p < length (chain c.past).entries) (map (λ call. call.1) c.row)
    before = all-before u c.past 0 (length (taken c.past)) (length (chain c.past).entries) (length (chain c.past).entries) c.row (omega arith) passed.holds.row none_ready

    low : (position place : ℕ) → slice_get (map (λ call. call.1) c.row) place ≡ Some position → position < length (chain c.past).entries
    low position place at =
        let positions : List ℕ = map (λ call. call.1) c.row in
        subst (λ (p : ℕ). p < length (chain c.past).entries) (get_or_from_slice_get positions place position 0 at) (before place 0 (slice_get_within positions place position at))

    number : (call : AcceptedCall) (place : ℕ) → slice_get (pending_calls c.past) place ≡ Some call → slice_get (map (λ other. other.0) c.row) place ≡ Some call.seq
    number call place there =
        ap (λ (ns : List ℕ). slice_get ns place) passed.holds.calls ∙ slice_get-map (λ (other : AcceptedCall). other.seq) (pending_calls c.past) place
        ∙ ap (option_map (λ (other : AcceptedCall). other.seq)) there

pub drains-settle : StaysChain → (u : JudgeContext) (old new : ConnState) → IsValidState u old → HasDrained u old new → IsSettled u new.past (map (λ call. call.1) new.row)
drains-settle chains u old new h drain = settled-by u new (begins-hold u old new chains (from_course u old h) drain.begins) drain.none_ready
