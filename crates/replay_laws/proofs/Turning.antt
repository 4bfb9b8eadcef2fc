-- An entry has a turn with the first call at its position, whatever the trace.
use Rattle.std.proofs.Common.{◌≡◌, ◌≢◌, ◌⊎◌, inl, inr, ℕ, ◌+◌, ◌-◌, ◌<◌, ◌≤◌, ◌==◌, Bool, true, false, cond, not}
use Rattle.std.proofs.Common.{nat_lt, List, ◌∷◌, length, map, refl, sym, ap, ◌∙◌, subst, arith}
use Rattle.std.specs.Prelude.{Contains, Option, Some, None, option_map, slice_get}
use Rattle.std.proofs.lemmas.Bool.{eq-eqb}
use Rattle.std.proofs.lemmas.Option.{slice_get_cases}
use Rattle.mrpc_table.specs.Weight.{weight}
use Rattle.mrpc_table.specs.declared.call.Call.{Call}
use Rattle.policy_redact.specs.Redacting.{cleared}
use Rattle.policy_redact.specs.declared.redact.Clear.{Clear}
use Rattle.engine_core.specs.Chains.{Entry, IsChain}
use Rattle.engine_core.specs.Moves.{Row, first_at, advanced, without_call}
use Rattle.engine_core.specs.declared.outcome.Noted.{Noted}
use Rattle.engine_core.specs.declared.outcome.Noted.TheVariants as notes
use Rattle.engine_core.specs.declared.outcome.Outcome.{Outcome}
use Rattle.engine_core.specs.declared.outcome.Outcome.TheVariants as outcomes
use Rattle.engine_core.specs.declared.policy.Policy.{Policy}
use Rattle.engine_core.specs.declared.policy.Policy.TheVariants.{Redact}
use Rattle.call_history.specs.Trace.{Trace, chain, form, level_in_trace, timestamp, noted, policy_in_trace, redacted, pending_calls}
use Rattle.call_history.specs.Draining.{IsFinalOutcome}
use Rattle.call_history.specs.Transitions.{IsTransition, ConnState, Transition, IsEntryTurn, IsValidState, cause_of, has_turn, with_note, trace_after_turn, turns}
use Rattle.call_history.specs.Frames.{frames}
use Rattle.call_history.specs.Legal.{HasForm, History, IsLegalTrace, IsLegalPrefix}
use Rattle.call_history.specs.Rules.{JudgeContext}
use Rattle.call_history.specs.declared.happening.Happening.TheVariants.{Refused}
use Rattle.call_history.specs.declared.happening.AcceptedCall.{AcceptedCall}
use Rattle.replay_laws.proofs.Found.{IsIn, contains-in, filter-le, filter-lt, found-at, in-map, in-unmap, named-first, total, total-le, total-lt, total-map}
use Rattle.replay_laws.proofs.Growing.{GrowthLaws, Grows, IsHere, after_turn, turn-grows, turn-still}
use Rattle.replay_laws.proofs.Outcomes.{AnswerLaw, comes-out}
use Rattle.replay_laws.proofs.Turns.{next_in}

pub record TurnLaws : Type 0 where
  pub growth : GrowthLaws
  pub answer : AnswerLaw
  pub keeps : (u : JudgeContext) (old new : ConnState) (event : Transition) → IsValidState u old → IsTransition u old event new → IsValidState u new
  pub forms : (u : JudgeContext) (past : Trace) (call : AcceptedCall) → IsLegalTrace u past → Contains (pending_calls past) call → HasForm u past call
  pub is_chain : (u : JudgeContext) (past : Trace) → IsLegalPrefix u past → IsChain (chain past)
  pub smaller : (clears : List Clear) (call : Call)
      → (cleared clears call ≡ call.tree) ⊎ (weight (cleared clears call) < weight call.tree)

-- a connection between two steps, whose link is up, and the events of all connections
pub record Stands (u : JudgeContext) (h : History) (c : ConnState) : Type 0 where
  pub course : IsValidState u c
  pub going : c.ended ≡ false
  pub here : IsHere u.conn h c.past

abbrev pub entries_of : ConnState → List Entry
entries_of c = (chain c.past).entries

-- ---- how far a row is from its end, and how many parts its calls have

abbrev pub distance : ℕ → Row → ℕ
distance end row = total (λ call. end - call.1) row

abbrev pub weight_of : Option Call → ℕ
weight_of None = 0
weight_of (Some call) = weight call.tree

abbrev pub parts_in : ℕ → Trace → Row → ℕ
parts_in conn past row = total (λ call. weight_of (form conn call.0 past)) row

abbrev pub parts : ℕ → ConnState → ℕ
parts conn c = parts_in conn c.past c.row

step-le : (b : Bool) (end p : ℕ) → end - cond b (p + 1) p ≤ end - p
step-le true end p = omega arith
step-le false end p = omega arith

step-lt : (b : Bool) (end p : ℕ) → b ≡ true → p < end → end - cond b (p + 1) p < end - p
step-lt true end p is low = omega arith
step-lt false end p is low = absurd cc

goes-nearer : (end seq position : ℕ) (row : Row) → IsIn (seq, position) row → position < end → distance end (advanced seq row) < distance end row
goes-nearer end seq position row there low =
    let moved : ℕ × ℕ → ℕ × ℕ = λ call. (call.0, cond (call.0 == seq) (call.1 + 1) call.1) in
    subst (λ n. n < distance end row) (sym (total-map (λ (call : ℕ × ℕ). end - call.1) moved row))
    (total-lt (λ (call : ℕ × ℕ). end - (moved call).1) (λ (call : ℕ × ℕ). end - call.1) row (seq, position)
    (λ call. step-le (call.0 == seq) end call.1) there (step-lt (seq == seq) end position (eq-eqb seq seq refl) low))

leaves-nearer : (end seq position : ℕ) (row : Row) → IsIn (seq, position) row → position < end → distance end (without_call seq row) < distance end row
leaves-nearer end seq position row there low =
    let some : 0 < end - position = omega arith in
    filter-lt (λ (call : ℕ × ℕ). end - call.1) (λ (call : ℕ × ℕ). not (seq == call.0)) row (seq, position) there
    (ap not (eq-eqb seq seq refl)) some

-- ---- what turns preserve

chain-noted : (name : List ℕ) (seq : ℕ) (n : Noted) (past : Trace) → chain (with_note name seq n past) ≡ chain past
chain-noted name seq notes.Nothing past = refl
chain-noted name seq (notes.Charged left) past = refl
chain-noted name seq (notes.Drawn window ticket) past = refl
chain-noted name seq notes.Counted past = refl

pub chain-turned : (e : Entry) (seq : ℕ) (outcome : Outcome) (c : ConnState) → chain (trace_after_turn e seq outcome c).past ≡ chain c.past
chain-turned e seq (outcomes.Passed n) c = chain-noted e.name seq n c.past
chain-turned e seq (outcomes.Held left cost) c = refl
chain-turned e seq (outcomes.Refused n why) c = chain-noted e.name seq n c.past
chain-turned e seq outcomes.Redacted c = refl

going-turned : (e : Entry) (seq : ℕ) (outcome : Outcome) (c : ConnState) → (trace_after_turn e seq outcome c).ended ≡ c.ended
going-turned e seq (outcomes.Passed n) c = refl
going-turned e seq (outcomes.Held left cost) c = refl
going-turned e seq (outcomes.Refused n why) c = refl
going-turned e seq outcomes.Redacted c = refl

form-noted : (conn s : ℕ) (name : List ℕ) (seq : ℕ) (n : Noted) (past : Trace) → form conn s (with_note name seq n past) ≡ form conn s past
form-noted conn s name seq notes.Nothing past = refl
form-noted conn s name seq (notes.Charged left) past = refl
form-noted conn s name seq (notes.Drawn window ticket) past = refl
form-noted conn s name seq notes.Counted past = refl

same-le : (a b : ℕ) → a ≡ b → a ≤ b
same-le a b is = omega arith

-- if forms are unchanged, those of calls that advance or leave have no more parts
goes-parts : (conn seq : ℕ) (past new : Trace) (row : Row) → ((s : ℕ) → form conn s new ≡ form conn s past)
    → parts_in conn new (advanced seq row) ≤ parts_in conn past row
goes-parts conn seq past new row same =
    let moved : ℕ × ℕ → ℕ × ℕ = λ call. (call.0, cond (call.0 == seq) (call.1 + 1) call.1) in
    subst (λ n. n ≤ parts_in conn past row) (sym (total-map (λ (call : ℕ × ℕ). weight_of (form conn call.0 new)) moved row))
    (total-le (λ (call : ℕ × ℕ). weight_of (form conn call.0 new)) (λ (call : ℕ × ℕ). weight_of (form conn call.0 past)) row
    (λ call. same-le (weight_of (form conn call.0 new)) (weight_of (form conn call.0 past)) (ap weight_of (same call.0))))

leaves-parts : (conn seq : ℕ) (past new : Trace) (row : Row) → ((s : ℕ) → form conn s new ≡ form conn s past)
    → parts_in conn new (without_call seq row) ≤ parts_in conn past row
leaves-parts conn seq past new row same =
    let fewer : parts_in conn new (without_call seq row) ≤ parts_in conn new row =
    filter-le (λ (call : ℕ × ℕ). weight_of (form conn call.0 new)) (λ (call : ℕ × ℕ). not (seq == call.0)) row in
    let forms : parts_in conn new row ≤ parts_in conn past row =
    total-le (λ (call : ℕ × ℕ). weight_of (form conn call.0 new)) (λ (call : ℕ × ℕ). weight_of (form conn call.0 past)) row
    (λ call. same-le (weight_of (form conn call.0 new)) (weight_of (form conn call.0 past)) (ap weight_of (same call.0))) in
    omega arith

pub done-parts : (conn : ℕ) (e : Entry) (seq : ℕ) (outcome : Outcome) (c : ConnState) → IsFinalOutcome outcome → parts conn (trace_after_turn e seq outcome c) ≤ parts conn c
done-parts conn e seq (outcomes.Passed n) c done =
    goes-parts conn seq c.past (with_note e.name seq n c.past) c.row (λ s. form-noted conn s e.name seq n c.past)
done-parts conn e seq (outcomes.Held left cost) c done = absurd done
done-parts conn e seq (outcomes.Refused n why) c done =
    leaves-parts conn seq c.past (Refused seq (cause_of e why) ∷ with_note e.name seq n c.past) c.row (λ s. form-noted conn s e.name seq n c.past)
done-parts conn e seq outcomes.Redacted c done = absurd done

pub done-nearer : (end : ℕ) (e : Entry) (seq position : ℕ) (outcome : Outcome) (c : ConnState) → IsFinalOutcome outcome → IsIn (seq, position) c.row → position < end
    → distance end (trace_after_turn e seq outcome c).row < distance end c.row
done-nearer end e seq position (outcomes.Passed n) c done there low = goes-nearer end seq position c.row there low
done-nearer end e seq position (outcomes.Held left cost) c done there low = absurd done
done-nearer end e seq position (outcomes.Refused n why) c done there low = leaves-nearer end seq position c.row there low
done-nearer end e seq position outcomes.Redacted c done there low = absurd done

-- ---- redactions

abbrev IsSmaller : Type 0
IsSmaller = (clears : List Clear) (call : Call) → (cleared clears call ≡ call.tree) ⊎ (weight (cleared clears call) < weight call.tree)

cleared-le : IsSmaller → (clears : List Clear) (form : Option Call) → weight_of (option_map (redacted (Some (Redact clears))) form) ≤ weight_of form
cleared-le law clears None = omega arith
cleared-le law clears (Some call) = elim (law clears call) [
  | inl same ↦ same-le (weight (cleared clears call)) (weight call.tree) (ap weight same)
  | inr less ↦ omega arith
]

cleared-lt : IsSmaller → (clears : List Clear) (form : Option Call) (call : Call) → form ≡ Some call → cleared clears call ≢ call.tree
    → weight_of (option_map (redacted (Some (Redact clears))) form) < weight_of form
cleared-lt law clears form call is left =
    subst (λ (f : Option Call). weight_of (option_map (redacted (Some (Redact clears))) f) < weight_of f) (sym is)
    (elim (law clears call) [ inl same ↦ absurd (left same) | inr less ↦ less ])

if-le : (b : Bool) (x y : Option Call) → weight_of x ≤ weight_of y → weight_of (cond b x y) ≤ weight_of y
if-le true x y le = le
if-le false x y le = omega arith

if-lt : (b : Bool) (x y : Option Call) → b ≡ true → weight_of x < weight_of y → weight_of (cond b x y) < weight_of y
if-lt true x y is lt = lt
if-lt false x y is lt = absurd cc

pub redacted-parts : IsSmaller → (conn : ℕ) (e : Entry) (seq position : ℕ) (c : ConnState) (call : Call) (clears : List Clear) → IsIn (seq, position) c.row
    → form conn seq c.past ≡ Some call → policy_in_trace e.name c.past ≡ Some (Redact clears) → cleared clears call ≢ call.tree
    → parts conn (trace_after_turn e seq outcomes.Redacted c) < parts conn c
redacted-parts law conn e seq position c call clears there is policy left =
    let new : Trace = (trace_after_turn e seq outcomes.Redacted c).past in
    let moved : ℕ × ℕ → ℕ × ℕ = λ x. (x.0, cond (nat_lt x.0 seq) x.1 0) in
    let shrunk : Option Call → Option Call = option_map (redacted (policy_in_trace e.name c.past)) in
    let no-more : (s : ℕ) → weight_of (shrunk (form conn s c.past)) ≤ weight_of (form conn s c.past) = λ s.
    subst (λ (p : Option Policy). weight_of (option_map (redacted p) (form conn s c.past)) ≤ weight_of (form conn s c.past)) (sym policy)
    (cleared-le law clears (form conn s c.past)) in
    let less : weight_of (shrunk (form conn seq c.past)) < weight_of (form conn seq c.past) =
    subst (λ (p : Option Policy). weight_of (option_map (redacted p) (form conn seq c.past)) < weight_of (form conn seq c.past)) (sym policy)
    (cleared-lt law clears (form conn seq c.past) call is left) in
    subst (λ n. n < parts conn c) (sym (total-map (λ (x : ℕ × ℕ). weight_of (form conn x.0 new)) moved c.row))
    (total-lt (λ (x : ℕ × ℕ). weight_of (form conn x.0 new)) (λ (x : ℕ × ℕ). weight_of (form conn x.0 c.past)) c.row (seq, position)
    (λ x. if-le (seq == x.0) (shrunk (form conn x.0 c.past)) (form conn x.0 c.past) (no-more x.0)) there
    (if-lt (seq == seq) (shrunk (form conn seq c.past)) (form conn seq c.past) (eq-eqb seq seq refl) less))

-- ---- a turn

pub record Turned (u : JudgeContext) (h : History) (c : ConnState) (position : ℕ) : Type 0 where
  pub seq : ℕ
  pub outcome : Outcome
  pub entry : Entry
  pub there : IsIn (seq, position) c.row
  pub has : IsEntryTurn u c position seq outcome entry
  pub policy : policy_in_trace entry.name c.past ≡ Some entry.policy
  pub history : History
  pub grows : Grows u.conn h c.past history (trace_after_turn entry seq outcome c).past
  pub stands : Stands u history (trace_after_turn entry seq outcome c)
  pub still : length (frames u.table history) ≡ length (frames u.table h)

module _ (laws : TurnLaws) (u : JudgeContext) (h : History) (c : ConnState) (stands : Stands u h c) where
  -- the form of a pending call
  pub form-there : (seq position : ℕ) → IsIn (seq, position) c.row → (call : Call) × (form u.conn seq c.past ≡ Some call)
  form-there seq position there =
      let number : IsIn seq (map (λ call. call.seq) (pending_calls c.past)) =
      subst (λ ns. IsIn seq ns) stands.course.calls (in-map (λ (call : ℕ × ℕ). call.0) c.row (seq, position) there) in
      let found = in-unmap (λ (call : AcceptedCall). call.seq) (pending_calls c.past) seq number in
      let has = laws.forms u c.past found.0 stands.course.legal (contains-in (pending_calls c.past) found.0 found.1) in
      (has.now, ap (λ s. form u.conn s c.past) found.2 ∙ has.is_form)

  entry-at : (position : ℕ) → position < length (entries_of c) → (e : Entry) × (slice_get (entries_of c) position ≡ Some e)
  entry-at position low = elim ((slice_get_cases (entries_of c) position).1) [
    | inl found ↦ (found.0, found.2)
    | inr past ↦ let far : length (entries_of c) ≤ position = past.0 in absurd (omega arith)
  ]

  pub has-turn : (position : ℕ) (x : ℕ × ℕ) → position < length (entries_of c) → first_at position c.row ≡ Some x → Turned u h c position
  has-turn position x low found =
      let at = found-at position c.row x found in
      let same : x ≡ (x.0, position) = ap (λ p. (x.0, p)) at.1 in
      let there : IsIn (x.0, position) c.row = subst (λ y. IsIn y c.row) same at.0 in
      let e = entry-at position low in
      let call = form-there x.0 position there in
      let policy : policy_in_trace e.0.name c.past ≡ Some e.0.policy =
      ap (option_map (λ (d : Entry). d.policy)) (named-first (entries_of c) position e.0
      (laws.is_chain u c.past stands.course.legal.prefix).names e.1) in
      let out = comes-out (next_in h) e.0.policy (level_in_trace e.0.name c.past) (timestamp c.past) call.0 (noted e.0.name x.0 c.past) laws.answer in
      let has : IsEntryTurn u c position x.0 out.outcome e.0 = record {
        entry = e.1;
        first = found ∙ ap (λ y. Some y) same;
        call = call.0;
        is_form = call.1;
        comes = out.comes;
      } in
      let new : ConnState = trace_after_turn e.0 x.0 out.outcome c in
      let grows = turn-grows laws.growth u.conn h c e.0 x.0 out.outcome stands.here policy out.in_turn in
      record {
        seq = x.0;
        outcome = out.outcome;
        entry = e.0;
        there = there;
        has = has;
        policy = policy;
        history = after_turn laws.growth u.conn e.0 x.0 out.outcome h;
        grows = grows;
        stands = record {
          course = laws.keeps u c new (turns position x.0 out.outcome) stands.course (has_turn position x.0 out.outcome e.0 refl has refl);
          going = going-turned e.0 x.0 out.outcome c ∙ stands.going;
          here = grows.here;
        };
        still = turn-still laws.growth u.conn u.table h e.0 x.0 out.outcome;
      }
