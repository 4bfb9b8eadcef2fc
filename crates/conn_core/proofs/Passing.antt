-- Sequences of turns: the first part of a drain.
use Rattle.std.proofs.Common.{◌≡◌, ◌≢◌, ℕ, ◌+◌, inl, inr, ◌<◌, ◌≤◌, not, cond, if◌then◌else◌, ◌==◌, List, [], ◌∷◌}
use Rattle.std.proofs.Common.{◌++◌, map, refl, ap, sym, ◌∙◌, subst, arith}
use Rattle.std.specs.Prelude.{All, Some}
use Rattle.std.proofs.lemmas.Bool.{eq-eqb, ne_eqb, cases_eq}
use Rattle.std.proofs.lemmas.List.Elements.{All-head, All-cons, All-nil, All-tail, All-weaker}
use Rattle.std.proofs.lemmas.List.Sums.{sum_by-cons, sum_by-append}
use Rattle.mrpc_table.specs.Weight.{weight}
use Rattle.mrpc_table.specs.declared.call.Call.{Call}
use Rattle.engine_core.specs.Chains.{Entry}
use Rattle.engine_core.specs.Marks.{PendingCall}
use Rattle.engine_core.specs.Moves.{Row, first_at, advanced, without_call}
use Rattle.engine_core.specs.Turns.{form_after}
use Rattle.engine_core.specs.declared.outcome.Outcome.{Outcome}
use Rattle.engine_core.specs.declared.outcome.Outcome.TheVariants.{Passed, Held, Refused, Redacted}
use Rattle.engine_core.specs.declared.policy.Policy.{Policy}
use Rattle.chain_upgrade.specs.Chains.{ChainParts, IsEngineTurn, AreAscendingAbove, AreAscending, IsChainState, calls_after}
use Rattle.call_history.specs.Draining.{IsFinalOutcome}
use Rattle.call_history.specs.Transitions.{IsTransition, ConnState, changes, has_turn, is_away, is_sent, link_failed, rises, stays, takes, trace_after_turn, turns, IsEntryTurn as HasTurnBehind}
use Rattle.call_history.specs.Rules.{JudgeContext}
use Rattle.conn_core.specs.Connections.{Connection, IsConnection, conn_state, judge_context}
use Rattle.conn_core.specs.ConnectionSteps.{IsStep, call_parts, redactions}

-- ---- the parts of the calls' trees

same-weight : (outcome : Outcome) (policy : Policy) (s s' : PendingCall) → s'.call ≡ form_after outcome policy s.call
    → outcome ≢ Redacted → weight s'.call.tree ≡ weight s.call.tree
same-weight (Passed noted) policy s s' is other = ap (λ (c : Call). weight c.tree) is
same-weight (Held left cost) policy s s' is other = ap (λ (c : Call). weight c.tree) is
same-weight (Refused noted why) policy s s' is other = ap (λ (c : Call). weight c.tree) is
same-weight Redacted policy s s' is other = absurd (other refl)

middle : (front : List PendingCall) (s : PendingCall) (back : List PendingCall)
    → call_parts (front ++ s ∷ back) ≡ call_parts front + (weight s.call.tree + call_parts back)
middle front s back = sum_by-append (λ (t : PendingCall). weight t.call.tree) front (s ∷ back)
    ∙ ap (λ n. call_parts front + n) (sum_by-cons (λ (t : PendingCall). weight t.call.tree) s back)

parts-by : (outcome : Outcome) (policy : Policy) (front : List PendingCall) (s s' : PendingCall)
    (back : List PendingCall) → s'.call ≡ form_after outcome policy s.call
    → (outcome ≡ Redacted → weight s'.call.tree < weight s.call.tree)
    → call_parts (calls_after outcome front s' back) + redactions outcome ≤ call_parts (front ++ s ∷ back)
parts-by (Passed noted) policy front s s' back is less =
    omega (
      arith,
      middle front s back,
      middle front s' back,
      same-weight (Passed noted) policy s s' is (λ same.
          absurd cc),
    )
parts-by (Held left cost) policy front s s' back is less =
    omega (
      arith,
      middle front s back,
      middle front s' back,
      same-weight (Held left cost) policy s s' is (λ same.
          absurd cc),
    )
parts-by (Refused noted why) policy front s s' back is less =
    omega (arith, middle front s back, sum_by-append (λ (t : PendingCall). weight t.call.tree) front back)
parts-by Redacted policy front s s' back is less = omega (arith, middle front s back, middle front s' back, less refl)

-- no turn makes the trees of the calls larger, and a redaction makes them smaller
pub parts-fall : (before after : ChainParts) (position moment seq : ℕ) (outcome : Outcome)
    → IsEngineTurn before position moment seq outcome after
    → call_parts after.calls + redactions outcome ≤ call_parts before.calls
parts-fall before after position moment seq outcome has =
    let less = parts-by outcome has.engine.entry.policy has.front has.call has.call' has.back has.leaves_call.form
    has.leaves_call.smaller in
    omega (arith, less, ap call_parts has.calls_before, ap call_parts has.calls)

-- ---- how many calls are at a position

pub waiting : ℕ → Row → ℕ
waiting position [] = 0
waiting position (call ∷ row) = if call.1 == position then waiting position row + 1 else waiting position row

waiting-here : (position : ℕ) (call : ℕ × ℕ) (row : Row) → call.1 ≡ position
    → waiting position (call ∷ row) ≡ waiting position row + 1
unfolding waiting
waiting-here position call row is =
    ap (λ b. cond b (waiting position row + 1) (waiting position row)) (eq-eqb call.1 position is)

waiting-there : (position : ℕ) (call : ℕ × ℕ) (row : Row) → call.1 ≢ position
    → waiting position (call ∷ row) ≡ waiting position row
unfolding waiting
waiting-there position call row other =
    ap (λ b. cond b (waiting position row + 1) (waiting position row)) (ne_eqb call.1 position other)

waiting-less : (position seq : ℕ) (row : Row) → waiting position (without_call seq row) ≤ waiting position row
waiting-less position seq [] = omega arith
waiting-less position seq (call ∷ row) = elim (cases_eq seq call.0) [
  | inl same ↦
      let gone : without_call seq (call ∷ row) ≡ without_call seq row =
      ap (λ b. if not b then call ∷ without_call seq row else without_call seq row) (eq-eqb seq call.0 same) in
      elim (cases_eq call.1 position) [
        | inl here ↦ omega (
          arith,
          ap (waiting position) gone,
          waiting-less position seq row,
          waiting-here position call
              row here,
        )
        | inr there ↦ omega (
          arith,
          ap (waiting position) gone,
          waiting-less position seq row,
          waiting-there position
              call row there,
        )
      ]
  | inr other ↦
      let stays-in : without_call seq (call ∷ row) ≡ call ∷ without_call seq row =
      ap (λ b. if not b then call ∷ without_call seq row else without_call seq row) (ne_eqb seq call.0 other) in
      elim (cases_eq call.1 position) [
        | inl here ↦ omega (
          arith,
          ap (waiting position) stays-in,
          waiting-less position seq row,
          waiting-here position
              call row here,
          waiting-here position call (without_call seq row) here,
        )
        | inr there ↦ omega (
          arith,
          ap (waiting position) stays-in,
          waiting-less position seq row,
          waiting-there
              position call row there,
          waiting-there position call (without_call seq row) there,
        )
      ]
]

-- calls with other numbers stay where they are
unmoved : (seq : ℕ) (row : Row) → All (λ n. n ≢ seq) (map (λ call. call.0) row) → advanced seq row ≡ row
unmoved seq [] apart = refl
unmoved seq (call ∷ row) apart =
    ap (λ b. (call.0, if b then call.1 + 1 else call.1) ∷ advanced seq row)
    (ne_eqb call.0 seq (All-head (λ (n : ℕ). n ≢ seq) call.0 (map (λ (call : ℕ × ℕ). call.0) row) apart))
    ∙ ap (λ (r : Row). call ∷ r)
    (unmoved seq row (All-tail (λ (n : ℕ). n ≢ seq) call.0 (map (λ (call : ℕ × ℕ). call.0) row) apart))

-- each number occurs once
abbrev pub AreApart : Row → Type 0
AreApart [] = Unit {0}
AreApart (call ∷ row) = All (λ n. n ≢ call.0) (map (λ other. other.0) row) × AreApart row

found-number : (position seq : ℕ) (row : Row) (P : ℕ → Type 0) → All P (map (λ call. call.0) row)
    → first_at position row ≡ Some (seq, position) → P seq
found-number position seq [] P all first = absurd cc
found-number position seq (call ∷ row) P all first = elim (cases_eq call.1 position) [
  | inl here ↦
      let is : Some call ≡ Some (seq, position) =
      sym (ap (λ b. cond b (Some call) (first_at position row)) (eq-eqb call.1 position here)) ∙ first in
      let number : call.0 ≡ seq = cc in
      subst P number (All-head P call.0 (map (λ (call : ℕ × ℕ). call.0) row) all)
  | inr there ↦
      found-number position seq row P (All-tail P call.0 (map (λ (call : ℕ × ℕ). call.0) row) all)
      (sym (ap (λ b. cond b (Some call) (first_at position row)) (ne_eqb call.1 position there)) ∙ first)
]

-- if the first call at a position advances or leaves, one fewer is there
waiting-goes : (position seq : ℕ) (row : Row) → AreApart row → first_at position row ≡ Some (seq, position)
    → waiting position (advanced seq row) + 1 ≤ waiting position row
waiting-goes position seq [] apart first = absurd cc
waiting-goes position seq (call ∷ row) apart first = elim (cases_eq call.1 position) [
  | inl here ↦
      let is : Some call ≡ Some (seq, position) =
      sym (ap (λ b. cond b (Some call) (first_at position row)) (eq-eqb call.1 position here)) ∙ first in
      let number : call.0 ≡ seq = cc in
      let moved : advanced seq (call ∷ row) ≡ (call.0, call.1 + 1) ∷ row =
      ap (λ b. (call.0, if b then call.1 + 1 else call.1) ∷ advanced seq row) (eq-eqb call.0 seq number)
      ∙ ap (λ (r : Row). (call.0, call.1 + 1) ∷ r)
      (unmoved seq row (subst (λ (n : ℕ). All (λ m. m ≢ n) (map (λ (other : ℕ × ℕ). other.0) row)) number apart.0))
      in
      omega (
        arith,
        ap (waiting position) moved,
        waiting-there position (call.0, call.1 + 1) row (λ same.
            omega (arith, same, here)),
        waiting-here position call row here,
      )
  | inr there ↦
      let rest : first_at position row ≡ Some (seq, position) =
      sym (ap (λ b. cond b (Some call) (first_at position row)) (ne_eqb call.1 position there)) ∙ first in
      let other : seq ≢ call.0 = found-number position seq row (λ n. n ≢ call.0) apart.0 rest in
      let stays-in : advanced seq (call ∷ row) ≡ call ∷ advanced seq row =
      ap (λ b. (call.0, if b then call.1 + 1 else call.1) ∷ advanced seq row)
      (ne_eqb call.0 seq (λ same. other (sym same))) in
      omega (
        arith,
        ap (waiting position) stays-in,
        waiting-there position call row there,
        waiting-there position call
            (advanced seq row) there,
        waiting-goes position seq row apart.1 rest,
      )
]

waiting-gone : (position seq : ℕ) (row : Row) → first_at position row ≡ Some (seq, position)
    → waiting position (without_call seq row) + 1 ≤ waiting position row
waiting-gone position seq [] first = absurd cc
waiting-gone position seq (call ∷ row) first = elim (cases_eq call.1 position) [
  | inl here ↦
      let is : Some call ≡ Some (seq, position) =
      sym (ap (λ b. cond b (Some call) (first_at position row)) (eq-eqb call.1 position here)) ∙ first in
      let number : seq ≡ call.0 = cc in
      let gone : without_call seq (call ∷ row) ≡ without_call seq row =
      ap (λ b. if not b then call ∷ without_call seq row else without_call seq row) (eq-eqb seq call.0 number) in
      omega (arith, ap (waiting position) gone, waiting-here position call row here, waiting-less position seq row)
  | inr there ↦
      let rest : first_at position row ≡ Some (seq, position) =
      sym (ap (λ b. cond b (Some call) (first_at position row)) (ne_eqb call.1 position there)) ∙ first in
      elim (cases_eq seq call.0) [
        | inl same ↦
            let gone : without_call seq (call ∷ row) ≡ without_call seq row =
            ap (λ b. if not b then call ∷ without_call seq row
            else without_call seq row) (eq-eqb seq call.0 same) in
            omega (
              arith,
              ap (waiting position) gone,
              waiting-there position call row there,
              waiting-gone position seq
                  row rest,
            )
        | inr other ↦
            let stays-in : without_call seq (call ∷ row) ≡ call ∷ without_call seq row =
            ap (λ b. if not b then call ∷ without_call seq row
            else without_call seq row) (ne_eqb seq call.0 other) in
            omega (
              arith,
              ap (waiting position) stays-in,
              waiting-there position call row there,
              waiting-there position
                  call (without_call seq row) there,
              waiting-gone position seq row rest,
            )
      ]
]

above-apart : (low : ℕ) (row : Row) → AreAscendingAbove low (map (λ call. call.0) row)
    → All (λ n. n ≢ low) (map (λ call. call.0) row) × All (λ n. low < n) (map (λ call. call.0) row) × AreApart row
above-apart low [] h = (All-nil (λ (n : ℕ). n ≢ low), All-nil (λ (n : ℕ). low < n), tt)
above-apart low (call ∷ row) h =
    let rest = above-apart call.0 row h.1 in
    let more : All (λ n. low < n) (map (λ (call : ℕ × ℕ). call.0) row) =
    All-weaker (λ (n : ℕ). call.0 < n) (λ (n : ℕ). low < n) (λ n less. omega (arith, less, h.0))
    (map (λ (call : ℕ × ℕ). call.0) row) rest.1 in (
      All-cons (λ (n : ℕ). n ≢ low) call.0 (map (λ (call : ℕ × ℕ). call.0) row) (λ same. omega (arith, same, h.0))
          (All-weaker (λ (n : ℕ). low < n) (λ (n : ℕ). n ≢ low) (λ n less same. omega (arith, less, same))
          (map (λ (call : ℕ × ℕ). call.0) row) more),
      All-cons (λ (n : ℕ). low < n) call.0 (map (λ (call : ℕ × ℕ). call.0) row) h.0 more,
      (rest.0, rest.2),
    )

ascending-apart : (row : Row) → AreAscending (map (λ call. call.0) row) → AreApart row
ascending-apart [] h = tt
ascending-apart (call ∷ row) h = let rest = above-apart call.0 row h in (rest.0, rest.2)

row-apart : (c : ChainParts) → IsChainState c → AreApart c.row
row-apart c stands = ascending-apart c.row (subst AreAscending (sym stands.row) stands.stands.ascend)

-- ---- the turn in a transition

-- a transition that is a turn, by the trace
pub record Turning (u : JudgeContext) (old new : ConnState) (position seq : ℕ) (outcome : Outcome) : Type 0 where
  pub entry : Entry
  pub has : HasTurnBehind u old position seq outcome entry
  pub is : new ≡ trace_after_turn entry seq outcome old

pub turn-in : (u : JudgeContext) (old new : ConnState) (position seq : ℕ) (outcome : Outcome)
    → IsTransition u old (turns position seq outcome) new → Turning u old new position seq outcome
turn-in u old new position seq outcome (takes call is running may new-is) = absurd cc
turn-in u old new position seq outcome (is_away method number addr is full new-is) = absurd cc
turn-in u old new position seq outcome (changes step is may new-is) = absurd cc
turn-in u old new position seq outcome (rises ms is above new-is) = absurd cc
turn-in u old new position seq outcome (stays ms is below new-is) = absurd cc
turn-in u old new position seq outcome (has_turn p s o e is has new-is) =
    let a : p ≡ position = cc in
    let b : s ≡ seq = cc in
    let d : o ≡ outcome = cc in
    subst (λ (n : ℕ). Turning u old new n seq outcome) a
    (subst (λ (n : ℕ). Turning u old new p n outcome) b
    (subst (λ (x : Outcome). Turning u old new p s x) d (record { entry = e; has = has; is = new-is })))
turn-in u old new position seq outcome (is_sent s bytes is running ready new-is) = absurd cc
turn-in u old new position seq outcome (link_failed is new-is) = absurd cc

fewer-by : (e : Entry) (position seq : ℕ) (outcome : Outcome) (c : ConnState) → IsFinalOutcome outcome → AreApart c.row
    → first_at position c.row ≡ Some (seq, position)
    → waiting position (trace_after_turn e seq outcome c).row + 1 ≤ waiting position c.row
fewer-by e position seq (Passed noted) c done apart first = waiting-goes position seq c.row apart first
fewer-by e position seq (Held left cost) c done apart first = absurd done
fewer-by e position seq (Refused noted why) c done apart first = waiting-gone position seq c.row first
fewer-by e position seq Redacted c done apart first = absurd done

-- after a turn that is final for its call, fewer are at the position
pub fewer-waiting : (before after : Connection) (position seq : ℕ) (outcome : Outcome) → IsConnection before
    → IsFinalOutcome outcome → IsStep before (turns position seq outcome) after
    → waiting position after.chain.row + 1 ≤ waiting position before.chain.row
fewer-waiting before after position seq outcome h done step =
    let t = turn-in (judge_context before) (conn_state before) (conn_state after) position seq outcome step in
    omega (
      arith,
      ap (λ (c : ConnState). waiting position c.row) t.is,
      fewer-by t.entry position seq outcome (conn_state before) done (row-apart before.chain h.is_chain_state) t.has.first,
    )
