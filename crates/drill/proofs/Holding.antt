-- If no policy ever holds a call, none is pending once no call can advance.
use Rattle.std.proofs.Common.{◌≡◌, ℕ, zero, suc, ◌+◌, Bool, true, false, cond, not, List, [], ◌∷◌, ◌++◌, Option, Some, None}
use Rattle.std.proofs.Common.{length, map, take, drop, refl, sym, ap, ◌∙◌, subst, arith}
use Rattle.std.specs.Prelude.{All, IsSomeAnd, slice_get}
use Rattle.std.specs.List.{AllZip}
use Rattle.std.proofs.lemmas.Bool.{false≢true}
use Rattle.std.proofs.lemmas.List.{length-map}
use Rattle.std.proofs.lemmas.List.Elements.{All-append, All-cons, All-drop, All-filter, All-head, All-map, All-nil, All-pop, All-tail, All-take, All-weaker}
use Rattle.mrpc_table.specs.declared.call.Call.{Call}
use Rattle.engine_core.specs.Answers.{Answer, IsEntryAnswer, Past, hold}
use Rattle.engine_core.specs.Answers.IsEntryAnswer.{allows, denies, was_charged, charges, holds, refuses, is_within, is_over, draws, was_counted, counts, is_clear, redacts}
use Rattle.engine_core.specs.Chains.{Chain, Entry, changed, is_named, new_entry, upgraded}
use Rattle.engine_core.specs.declared.op.Op.{Op as Step}
use Rattle.engine_core.specs.declared.op.Op.TheVariants.{Attach, Detach, Upgrade}
use Rattle.engine_core.specs.declared.policy.Policy.{Policy}
use Rattle.call_history.specs.Trace.{Trace, chain, form, pending_calls, taken}
use Rattle.call_history.specs.Positions.{AreLegalPositions, IsHead, IsHeld, IsSettled, IsLegalPosition}
use Rattle.call_history.specs.Rules.{JudgeContext}
use Rattle.call_history.specs.declared.happening.Happening.TheVariants.{Op}
use Rattle.call_history.specs.declared.happening.AcceptedCall.{AcceptedCall}
use Rattle.conn_core.specs.Connections.{IsConnection, conn_trace, judge_context}
use Rattle.conn_core.specs.ConnectionSteps.{IfPolicy}
use Rattle.service_loop.specs.Serving.{IsServed}
use Rattle.service_loop.specs.ScheduledOps.{IsApplied, applied_ops}
use Rattle.service_loop.specs.declared.scheduled_op.ScheduledOp.{ScheduledOp}
use Rattle.service_loop.specs.declared.submissions.Submissions.{Submissions}
use Rattle.drill.specs.Holding.{IsNonHolding, IsNonHoldingOp}

-- ---- the chain has only such policies

abbrev EntryNeverHolds : Entry → Type 0
EntryNeverHolds e = IsNonHolding e.policy

abbrev StepIsSo : Step → Type 0
StepIsSo step = IfPolicy step IsNonHolding

changed-never : (step : Step) (before : Chain) → StepIsSo step → All EntryNeverHolds before.entries
    → All EntryNeverHolds (changed step before).entries
changed-never (Attach at name label policy) before never all =
    All-append EntryNeverHolds (take at before.entries) (new_entry name (before.attached + 1) policy ∷ drop at before.entries)
    (All-take EntryNeverHolds at before.entries all)
    (All-cons EntryNeverHolds (new_entry name (before.attached + 1) policy) (drop at before.entries) never
    (All-drop EntryNeverHolds at before.entries all))
changed-never (Detach name) before never all = All-filter (λ (e : Entry). not (is_named name e)) EntryNeverHolds before.entries all
changed-never (Upgrade name label policy) before never all =
    let given : (b : Bool) (e : Entry) → EntryNeverHolds e → EntryNeverHolds (cond b (upgraded e policy) e) =
    λ b e is. elim b as (λ b. EntryNeverHolds (cond b (upgraded e policy) e)) [ true ↦ never | false ↦ is ] in
    All-map EntryNeverHolds (λ (e : Entry). cond (is_named name e) (upgraded e policy) e) before.entries
    (All-weaker EntryNeverHolds (λ (e : Entry). EntryNeverHolds (cond (is_named name e) (upgraded e policy) e))
    (λ e. given (is_named name e) e) before.entries all)

abbrev CameSo : Step × ℕ → Type 0
CameSo came = StepIsSo came.0

chain-never : (past : Trace) → All CameSo (applied_ops past) → All EntryNeverHolds (chain past).entries
chain-never [] all = All-nil EntryNeverHolds
chain-never (Op step ∷ past) all =
    let parts = All-pop CameSo (applied_ops past ++ (step, length (taken past)) ∷ []) (applied_ops past)
    (Some (step, length (taken past))) refl all in
    changed-never step (chain past) parts.1 (chain-never past parts.0)
chain-never (x ∷ past) all = chain-never past all

-- the operations applied are scheduled ones
came-so : (all : Option ℕ) (came : List (Step × ℕ)) (steps : List ScheduledOp) → AllZip (IsApplied all) came steps
    → All IsNonHoldingOp steps → All CameSo came
came-so all [] steps have never = All-nil CameSo
came-so all (one ∷ came) [] have never = absurd have
came-so all (one ∷ came) (due ∷ steps) have never =
    All-cons CameSo one came (subst StepIsSo (sym have.0.step) (All-head IsNonHoldingOp due steps never))
    (came-so all came steps have.1 (All-tail IsNonHoldingOp due steps never))

-- ---- such a policy doesn't hold

hold-none : (policy : Policy) (level moment : ℕ) (call : Call) (past : Past) (answer : Answer) (at cost : ℕ)
    → IsEntryAnswer policy level moment call past answer → answer ≡ hold at cost → IsNonHolding policy → ⊥
hold-none policy level moment call past answer at cost (allows p is allowed gives) held never = absurd cc
hold-none policy level moment call past answer at cost (denies p is denied gives) held never = absurd cc
hold-none policy level moment call past answer at cost (was_charged r is was gives) held never = absurd cc
hold-none policy level moment call past answer at cost (charges r is was enough gives) held never = absurd cc
hold-none policy level moment call past answer at cost (holds r is was less mode gives) held never =
    let no : r.hold ≡ false = subst IsNonHolding is never in
    false≢true (sym no ∙ mode)
hold-none policy level moment call past answer at cost (refuses r is was less mode gives) held never = absurd cc
hold-none policy level moment call past answer at cost (is_within tenant per cap ticket is was less gives) held never = absurd cc
hold-none policy level moment call past answer at cost (is_over tenant per cap ticket is was more gives) held never = absurd cc
hold-none policy level moment call past answer at cost (draws tenant per cap ticket is was gives) held never = absurd cc
hold-none policy level moment call past answer at cost (was_counted is was gives) held never = absurd cc
hold-none policy level moment call past answer at cost (counts is was gives) held never = absurd cc
hold-none policy level moment call past answer at cost (is_clear clears is clear gives) held never = absurd cc
hold-none policy level moment call past answer at cost (redacts clears is clear gives) held never = absurd cc

gives-none : (policy : Policy) (level moment : ℕ) (o : Option Call) (past : Past) (at cost : ℕ)
    → IsSomeAnd o (λ call. IsEntryAnswer policy level moment call past (hold at cost)) → IsNonHolding policy → ⊥
gives-none policy level moment None past at cost gives never = absurd gives
gives-none policy level moment (Some call) past at cost gives never =
    hold-none policy level moment call past (hold at cost) at cost gives refl never

-- ---- so no call is the first at its position

pub all-at : {X : Type 0} (P : X → Type 0) (xs : List X) (i : ℕ) (x : X) → slice_get xs i ≡ Some x → All P xs → P x
all-at P [] i x is h = absurd cc
all-at P (y ∷ xs) zero x is h = let same : y ≡ x = cc in subst P same (All-head P y xs h)
all-at P (y ∷ xs) (suc i) x is h = all-at P xs i x is (All-tail P y xs h)

module _ (u : JudgeContext) (past : Trace) (never : All EntryNeverHolds (chain past).entries) where
  none-is-held : (call : AcceptedCall) (position level cost : ℕ) → IsHeld u past call position level cost → ⊥
  none-is-held call position level cost held =
      gives-none held.entry.policy _ _ (form u.conn call.seq past) _ level cost held.holds
      (all-at EntryNeverHolds (chain past).entries position held.entry held.at never)

  none-at-all : (calls : List AcceptedCall) (positions : List ℕ) → pending_calls past ≡ calls
      → AllZip (IsLegalPosition u past) calls positions → IsSettled u past positions → calls ≡ []
  none-at-all [] positions is each settled = refl
  none-at-all (call ∷ calls) [] is each settled = absurd each
  none-at-all (call ∷ calls) (position ∷ positions) is each settled =
      let head : IsHead past (position ∷ positions) call position = record {
        place = 0;
        is_call = ap (λ (cs : List AcceptedCall). slice_get cs 0) is;
        at = refl;
        first = λ i p less at. absurd (omega (arith, less));
      } in
      let held = settled.held call position head in
      absurd (none-is-held call position held.0 held.1 held.2)

  pub none-stands : (positions : List ℕ) → AreLegalPositions u past positions → IsSettled u past positions → pending_calls past ≡ []
  none-stands positions places settled = none-at-all (pending_calls past) positions refl places.each settled

-- ---- the calls of an application

no-row : (row : List (ℕ × ℕ)) → length row ≡ 0 → row ≡ []
no-row [] none = refl
no-row (call ∷ row) none = absurd (omega (arith, none))

pub served-none : (s : Submissions) → IsConnection s.conn → IsServed s → All IsNonHoldingOp s.steps.now
    → s.conn.chain.row ≡ []
served-none s is served never =
    let past : Trace = conn_trace s.conn in
    let came : All CameSo (applied_ops past) =
    came-so _ (applied_ops past) (take s.applied s.steps.now) served.serving.came
    (All-take IsNonHoldingOp s.applied s.steps.now never) in
    let stands : pending_calls past ≡ [] =
    none-stands (judge_context s.conn) past (chain-never past came) (map (λ (call : ℕ × ℕ). call.1) s.conn.chain.row)
    is.is_valid_state.places served.settled in
    let long : length s.conn.chain.row ≡ 0 =
    sym (length-map s.conn.chain.row (λ (call : ℕ × ℕ). call.0)) ∙ ap length is.is_valid_state.calls
    ∙ length-map (pending_calls past) (λ (call : AcceptedCall). call.seq) ∙ ap length stands in
    no-row s.conn.chain.row long
