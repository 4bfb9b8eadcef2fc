-- An entry refuses a call, possibly after it drew a ticket for it.
use Rattle.std.proofs.Common.{◌≡◌, ◌≢◌, ℕ, ◌||◌, true, false, cond, not, inl, inr, List, [], ◌∷◌, length, map, refl, sym, ap, ◌∙◌, subst, arith}
use Rattle.std.specs.Prelude.{Contains, Some, slice_get}
use Rattle.std.proofs.lemmas.Bool.{cases_eq, eq-eqb, ne_eqb}
use Rattle.mrpc_table.specs.declared.call.Call.{Call}
use Rattle.engine_core.specs.Answers.{Past, nothing, charged, drawn, counted, pass, deny, refuse, over, note}
use Rattle.engine_core.specs.Answers.{past_after, level_after_note, IsEntryAnswer, allows, denies, was_charged, charges, holds}
use Rattle.engine_core.specs.Answers.{refuses, is_within, is_over, draws, was_counted, counts, is_clear, redacts}
use Rattle.engine_core.specs.Chains.{Entry}
use Rattle.engine_core.specs.Turns.{refusal}
use Rattle.engine_core.specs.declared.outcome.Noted.{Noted}
use Rattle.engine_core.specs.declared.outcome.Noted.TheVariants as notes
use Rattle.engine_core.specs.declared.outcome.Why.{Why}
use Rattle.engine_core.specs.declared.outcome.Why.TheVariants.{Denied, Short, Over}
use Rattle.engine_core.specs.declared.policy.Policy.{Policy}
use Rattle.call_history.specs.Trace.{Trace, chain, taken, pending_calls, has_failed, is_transport_refusal, form, level_in_trace, timestamp, noted, policy_in_trace}
use Rattle.call_history.specs.Transitions.{ConnState, AreNotesAscending, with_note, rule_name_at, cause_of}
use Rattle.engine_core.specs.Moves.{Row, first_at, without_call}
use Rattle.call_history.specs.Rules.{JudgeContext, IsAt, IsDenied, IsAnswered, IsNoMalformedRefusal, IsLinkRefusal, CanFollow, cap_of}
use Rattle.call_history.specs.declared.happening.Cause.{Cause}
use Rattle.call_history.specs.declared.happening.Cause.TheVariants as cause
use Rattle.call_history.specs.declared.happening.Happening.{Happening}
use Rattle.call_history.specs.declared.happening.Happening.TheVariants.{Drawn, Refused}
use Rattle.call_history.specs.declared.happening.AcceptedCall.{AcceptedCall}
use Rattle.call_history.proofs.Further.{KeepsOthers}
use Rattle.call_history.proofs.Going.{may, may-draw}
use Rattle.call_history.proofs.Holding.{Holds, stands-still, works-on}
use Rattle.call_history.proofs.Looking.{lets-still}
use Rattle.call_history.proofs.Noting.{IsTurn, before-apart, gives-by, IsNote, draw-note, noted-here, note-keeps, front-lets, note-ascends, Notes, notes-by}
use Rattle.call_history.proofs.Passing.{called-for, policy-there, no-note}
use Rattle.call_history.proofs.Prefixes.{StaysChain}
use Rattle.call_history.proofs.Rowed.{IsRow, row-weaker}
use Rattle.call_history.proofs.Sending.{stood-before}
use Rattle.call_history.proofs.Standing.{standing-refused, calls-without}

-- ---- the others keep their places in the row

pub row-left : (u : JudgeContext) (past new : Trace) (seq below top bound : ℕ) (row : Row) → KeepsOthers u past new seq
    → IsRow u past below top bound row → IsRow u new below top bound (without_call seq row)
row-left u past new seq below top bound [] keeps h = tt
row-left u past new seq below top bound (call ∷ row) keeps h = elim (cases_eq seq call.0) [
  | inl same ↦ subst (λ b. IsRow u new below top bound (cond (not b) (call ∷ without_call seq row) (without_call seq row))) (sym (eq-eqb seq call.0 same))
      (row-weaker u new call.0 below top top call.1 bound (without_call seq row) (omega (arith, h.0.number))
      (omega arith) (omega (arith, h.0.falls)) (row-left u past new seq call.0 top call.1 row keeps h.1))
  | inr apart ↦ subst (λ b. IsRow u new below top bound (cond (not b) (call ∷ without_call seq row) (without_call seq row))) (sym (ne_eqb seq call.0 apart)) (
    record { number = h.0.number; few = h.0.few; falls = h.0.falls; stands = keeps call.0 call.1 (λ same. apart (sym same)) h.0.stands },
    row-left u past new seq call.0 top call.1 row keeps h.1,
  )
]

-- ---- the cause is the answer

denied-by : (u : JudgeContext) (past : Trace) (seq rule : ℕ) (e : Entry) (call : Call) → IsAt u past seq e.name e → form u.conn seq past ≡ Some call
    → (answers : IsEntryAnswer e.policy (level_in_trace e.name past) (timestamp past) call (noted e.name seq past) (deny rule)) → IsDenied u past seq e.name e.version (rule_name_at e.policy rule)
denied-by u past seq rule e call at is (allows p policy allow answer) = absurd cc
denied-by u past seq rule e call at is (denies p policy allow answer) = record {
  entry = e;
  at = at;
  present = refl;
  policy = p;
  is_policy = policy;
  place = rule;
  gives = gives-by u past seq e call (deny rule) is (denies p policy allow answer);
  names = ap (λ (q : Policy). rule_name_at q rule) policy;
}
denied-by u past seq rule e call at is (was_charged r policy some answer) = absurd cc
denied-by u past seq rule e call at is (charges r policy none enough answer) = absurd cc
denied-by u past seq rule e call at is (holds r policy none less mode answer) = absurd cc
denied-by u past seq rule e call at is (refuses r policy none less mode answer) = absurd cc
denied-by u past seq rule e call at is (is_within tenant per cap ticket policy some less answer) = absurd cc
denied-by u past seq rule e call at is (is_over tenant per cap ticket policy some more answer) = absurd cc
denied-by u past seq rule e call at is (draws tenant per cap ticket policy none answer) = absurd cc
denied-by u past seq rule e call at is (was_counted policy some answer) = absurd cc
denied-by u past seq rule e call at is (counts policy none answer) = absurd cc
denied-by u past seq rule e call at is (is_clear clears policy left answer) = absurd cc
denied-by u past seq rule e call at is (redacts clears policy other answer) = absurd cc

answered-by : (u : JudgeContext) (past : Trace) (seq : ℕ) (e : Entry) (why : Why) (call : Call) → IsAt u past seq e.name e → form u.conn seq past ≡ Some call
    → IsEntryAnswer e.policy (level_in_trace e.name past) (timestamp past) call (noted e.name seq past) (refusal why) → IsAnswered u past seq (cause_of e why)
answered-by u past seq e (Denied rule) call at is answers = denied-by u past seq rule e call at is answers
answered-by u past seq e (Short left cost) call at is answers = record { entry = e; at = at; gives = gives-by u past seq e call (refuse left cost) is answers }
answered-by u past seq e (Over ticket cap) call at is answers = record { entry = e; at = at; gives = gives-by u past seq e call (over ticket cap) is answers }

not-malformed : (seq : ℕ) (e : Entry) (why : Why) → IsNoMalformedRefusal (Refused seq (cause_of e why))
not-malformed seq e (Denied rule) = tt
not-malformed seq e (Short left cost) = tt
not-malformed seq e (Over ticket cap) = tt

no-link : (past : Trace) (seq : ℕ) (e : Entry) (why : Why) → IsLinkRefusal past (Refused seq (cause_of e why))
no-link past seq e (Denied rule) = tt
no-link past seq e (Short left cost) = tt
no-link past seq e (Over ticket cap) = tt

not-transport : (seq : ℕ) (e : Entry) (why : Why) → is_transport_refusal (Refused seq (cause_of e why)) ≡ false
not-transport seq e (Denied rule) = refl
not-transport seq e (Short left cost) = refl
not-transport seq e (Over ticket cap) = refl

failed-same : (past : Trace) (seq : ℕ) (e : Entry) (why : Why) → has_failed (Refused seq (cause_of e why) ∷ past) ≡ has_failed past
failed-same past seq e why = ap (λ b. b || has_failed past) (not-transport seq e why)

none-without : (seq : ℕ) (row : Row) → row ≡ [] → without_call seq row ≡ []
none-without seq row none = ap (without_call seq) none

-- ---- without a note

pub refused : (u : JudgeContext) (c : ConnState) (position seq : ℕ) (e : Entry) (why : Why) (call : Call) → Holds u c → IsTurn u c position seq e → form u.conn seq c.past ≡ Some call
    → IsEntryAnswer e.policy (level_in_trace e.name c.past) (timestamp c.past) call (noted e.name seq c.past) (refusal why)
    → Holds u (record c { past = Refused seq (cause_of e why) ∷ c.past; row = without_call seq c.row })
refused u c position seq e why call h turn is answers =
    let x : Happening = Refused seq (cause_of e why) in
    let new : Trace = x ∷ c.past in
    record {
      prefix = (
        h.prefix,
        may u c.past x turn.free (record {
          numbered = tt;
          no_malformed = not-malformed seq e why;
          chain_kept = tt;
          notes_due = tt;
          in_order = tt;
          answered = answered-by u c.past seq e why call turn.at is answers;
          link_refusal = no-link c.past seq e why;
        }),
      );
      settled = record { malformed = λ awaits. awaits; quota = λ awaits. awaits; link = works-on new (failed-same c.past seq e why ∙ turn.free.works) };
      row = row-left u c.past new seq 0 (length (taken c.past)) (length (chain c.past).entries) c.row
          (λ s p apart. stands-still u c.past new s p refl (λ d. lets-still u c.past new s d refl refl)) h.row;
      calls = calls-without seq c.row (pending_calls c.past) h.calls ∙ ap (map (λ (other : AcceptedCall). other.seq)) (sym (standing-refused c.past seq (cause_of e why)));
      notes_ascend = λ name s stands none. h.notes_ascend name s
          (stood-before (pending_calls c.past) seq s (subst (λ (calls : List AcceptedCall). Contains (map (λ other. other.seq) calls) s) (standing-refused c.past seq (cause_of e why)) stands)) none;
      failed = λ failed. h.failed (sym (failed-same c.past seq e why) ∙ failed);
      none_left = λ ended. none-without seq c.row (h.none_left ended);
    }

-- ---- after a ticket

not-pass : (why : Why) → refusal why ≡ pass → ⊥
not-pass (Denied rule) is = cc
not-pass (Short left cost) is = cc
not-pass (Over ticket cap) is = cc

not-noted : (why : Why) (n : Noted) → refusal why ≡ note n → ⊥
not-noted (Denied rule) n is = cc
not-noted (Short left cost) n is = cc
not-noted (Over ticket cap) n is = cc

is-over-why : (why : Why) (ticket cap : ℕ) → refusal why ≡ over ticket cap → why ≡ Over ticket cap
is-over-why (Denied rule) ticket cap is = absurd cc
is-over-why (Short left cost) ticket cap is = absurd cc
is-over-why (Over t most) ticket cap is = cc

-- what refuses a call of which something was noted
record IsOverCap (policy : Policy) (past : Past) (why : Why) : Type 0 where
  ticket : ℕ
  cap : ℕ
  is_drawn : past ≡ drawn ticket
  is_cap : cap_of policy ≡ Some cap
  is_why : why ≡ Over ticket cap

over-cap : (policy : Policy) (level_in_trace timestamp : ℕ) (form : Call) (past : Past) (why : Why) → Notes policy
    → past ≢ nothing → IsEntryAnswer policy level_in_trace timestamp form past (refusal why) → IsOverCap policy past why
over-cap policy level_in_trace timestamp form past why noting some (allows p is allow answer) = absurd (subst Notes is noting)
over-cap policy level_in_trace timestamp form past why noting some (denies p is allow answer) = absurd (subst Notes is noting)
over-cap policy level_in_trace timestamp form past why noting some (was_charged r is was answer) = absurd (not-pass why answer)
over-cap policy level_in_trace timestamp form past why noting some (charges r is none enough answer) = absurd (some none)
over-cap policy level_in_trace timestamp form past why noting some (holds r is none less mode answer) = absurd (some none)
over-cap policy level_in_trace timestamp form past why noting some (refuses r is none less mode answer) = absurd (some none)
over-cap policy level_in_trace timestamp form past why noting some (is_within tenant per cap ticket is was less answer) = absurd (not-pass why answer)
over-cap policy level_in_trace timestamp form past why noting some (is_over tenant per cap ticket is was more answer) =
    record { ticket = ticket; cap = cap; is_drawn = was; is_cap = ap cap_of is; is_why = is-over-why why ticket cap answer }
over-cap policy level_in_trace timestamp form past why noting some (draws tenant per cap ticket is none answer) = absurd (not-noted why _ answer)
over-cap policy level_in_trace timestamp form past why noting some (was_counted is was answer) = absurd (not-pass why answer)
over-cap policy level_in_trace timestamp form past why noting some (counts is none answer) = absurd (some none)
over-cap policy level_in_trace timestamp form past why noting some (is_clear clears is left answer) = absurd (subst Notes is noting)
over-cap policy level_in_trace timestamp form past why noting some (redacts clears is other answer) = absurd (subst Notes is noting)

may-over : (u : JudgeContext) (c : ConnState) (position seq window ticket cap : ℕ) (e : Entry) (call : Call) → Holds u c → IsTurn u c position seq e → form u.conn seq c.past ≡ Some call
    → cap_of e.policy ≡ Some cap
    → IsEntryAnswer e.policy (level_in_trace e.name c.past) (timestamp c.past) call (drawn ticket) (over ticket cap)
    → CanFollow u (Drawn seq e.name window ticket ∷ c.past) (Refused seq (cause.Quota e.name ticket cap))
may-over u c position seq window ticket cap e call h turn is caps answers = record {
  numbered = tt;
  malformed = tt;
  chain_kept = tt;
  notes_due = tt;
  drawn_refused = λ policy most policy_is most_is more. same-cap policy most policy_is most_is;
  in_order = tt;
  answered = record {
    entry = e;
    at = record {
      front = turn.cut.front;
      back = turn.cut.back;
      entries = turn.cut.entries;
      named = refl;
      is_pending = turn.at.is_pending;
      allowed = front-lets u c.past drew seq e.name (notes.Drawn window ticket) turn.cut.front drawing (λ x. before-apart u c position seq e x turn) turn.lets;
    };
    gives = gives-by u drew seq e call (over ticket cap) is
        (subst (λ (p : Past). IsEntryAnswer e.policy (level_in_trace e.name c.past) (timestamp c.past) call p (over ticket cap))
        (sym (noted-here c.past drew seq e.name (notes.Drawn window ticket) drawing)) answers);
  };
  link_end = (λ failed. (let wrong : false ≡ true = sym turn.free.works ∙ failed in absurd cc), tt);
}
  where
    drew : Trace
    drew = Drawn seq e.name window ticket ∷ c.past

    drawing : IsNote c.past (Drawn seq e.name window ticket ∷ c.past) seq e.name (notes.Drawn window ticket)
    drawing = draw-note c.past seq e.name window ticket

    same-cap : (policy : Policy) (most : ℕ) → policy_in_trace e.name c.past ≡ Some policy → cap_of policy ≡ Some most
        → Refused seq (cause.Quota e.name ticket cap) ≡ Refused seq (cause.Quota e.name ticket most)
    same-cap policy most policy_is most_is =
        let policies : Some policy ≡ Some e.policy = sym policy_is ∙ policy-there u c position seq e turn in
        let same : policy ≡ e.policy = cc in
        let both : Some most ≡ Some cap = sym most_is ∙ ap cap_of same ∙ caps in
        let is_most : most ≡ cap = cc in
        ap (λ k. Refused seq (cause.Quota e.name ticket k)) (sym is_most)

drawn-over : (u : JudgeContext) (c : ConnState) (position seq window ticket cap : ℕ) (e : Entry) (call : Call) → StaysChain → Holds u c → IsTurn u c position seq e
    → slice_get (chain c.past).entries position ≡ Some e → first_at position c.row ≡ Some (seq, position) → form u.conn seq c.past ≡ Some call
    → IsEntryAnswer e.policy (level_in_trace e.name c.past) (timestamp c.past) call (noted e.name seq c.past) (note (notes.Drawn window ticket))
    → cap_of e.policy ≡ Some cap
    → IsEntryAnswer e.policy (level_in_trace e.name c.past) (timestamp c.past) call (drawn ticket) (over ticket cap)
    → Holds u (record c { past = Refused seq (cause.Quota e.name ticket cap) ∷ Drawn seq e.name window ticket ∷ c.past; row = without_call seq c.row })
drawn-over u c position seq window ticket cap e call stays h turn entry first is draws_ticket caps answers =
    let n : Noted = notes.Drawn window ticket in
    let drew : Trace = Drawn seq e.name window ticket ∷ c.past in
    let why : Cause = cause.Quota e.name ticket cap in
    let new : Trace = Refused seq why ∷ drew in
    let drawing : IsNote c.past drew seq e.name n = draw-note c.past seq e.name window ticket in
    let ascends : AreNotesAscending drew =
    note-ascends u c drew position seq e n h (notes-by e.policy (level_in_trace e.name c.past) (timestamp c.past) call (noted e.name seq c.past) n draws_ticket) (λ none. cc) entry first drawing in
    record {
      prefix = (
        (h.prefix, may-draw u c.past seq e.name window ticket turn.free (called-for u c position seq e n call stays h turn is draws_ticket)),
        may-over u c position seq window ticket cap e call h turn is caps answers,
      );
      settled = record { malformed = λ awaits. awaits; quota = λ awaits. awaits; link = works-on new turn.free.works };
      row = row-left u c.past new seq 0 (length (taken c.past)) (length (chain c.past).entries) c.row
          (λ s p apart stands. stands-still u drew new s p refl (λ d. lets-still u drew new s d refl refl) (note-keeps u c.past drew seq e.name n drawing s p apart stands)) h.row;
      calls = calls-without seq c.row (pending_calls c.past) h.calls ∙ ap (map (λ (other : AcceptedCall). other.seq)) (sym (standing-refused drew seq why));
      notes_ascend = λ name s stands none. ascends name s
          (stood-before (pending_calls drew) seq s (subst (λ (calls : List AcceptedCall). Contains (map (λ other. other.seq) calls) s) (standing-refused drew seq why) stands)) none;
      failed = h.failed;
      none_left = λ ended. none-without seq c.row (h.none_left ended);
    }

pub refused-noted : (u : JudgeContext) (c : ConnState) (position seq : ℕ) (e : Entry) (n : Noted) (why : Why) (call : Call) → StaysChain → Holds u c → IsTurn u c position seq e
    → slice_get (chain c.past).entries position ≡ Some e → first_at position c.row ≡ Some (seq, position) → form u.conn seq c.past ≡ Some call
    → IsEntryAnswer e.policy (level_in_trace e.name c.past) (timestamp c.past) call (noted e.name seq c.past) (note n)
    → IsEntryAnswer e.policy (level_after_note n (level_in_trace e.name c.past)) (timestamp c.past) call (past_after n (noted e.name seq c.past)) (refusal why)
    → Holds u (record c { past = Refused seq (cause_of e why) ∷ with_note e.name seq n c.past; row = without_call seq c.row })
refused-noted u c position seq e notes.Nothing why call stays h turn entry first is calls after =
    absurd (no-note e.policy (level_in_trace e.name c.past) (timestamp c.past) call (noted e.name seq c.past) calls)
refused-noted u c position seq e (notes.Charged left) why call stays h turn entry first is calls after =
    let noting : Notes e.policy = notes-by e.policy (level_in_trace e.name c.past) (timestamp c.past) call (noted e.name seq c.past) (notes.Charged left) calls in
    let beyond = over-cap e.policy left (timestamp c.past) call charged why noting (λ none. cc) after in
    let wrong : charged ≡ drawn beyond.ticket = beyond.is_drawn in
    absurd cc
refused-noted u c position seq e notes.Counted why call stays h turn entry first is calls after =
    let noting : Notes e.policy = notes-by e.policy (level_in_trace e.name c.past) (timestamp c.past) call (noted e.name seq c.past) notes.Counted calls in
    let beyond = over-cap e.policy (level_in_trace e.name c.past) (timestamp c.past) call counted why noting (λ none. cc) after in
    let wrong : counted ≡ drawn beyond.ticket = beyond.is_drawn in
    absurd cc
refused-noted u c position seq e (notes.Drawn window ticket) why call stays h turn entry first is calls after =
    let noting : Notes e.policy = notes-by e.policy (level_in_trace e.name c.past) (timestamp c.past) call (noted e.name seq c.past) (notes.Drawn window ticket) calls in
    let beyond : IsOverCap e.policy (drawn ticket) why = over-cap e.policy (level_in_trace e.name c.past) (timestamp c.past) call (drawn ticket) why noting (λ none. cc) after in
    let drew : drawn ticket ≡ drawn beyond.ticket = beyond.is_drawn in
    let number : beyond.ticket ≡ ticket = cc in
    let cause_is : why ≡ Over ticket beyond.cap = beyond.is_why ∙ ap (λ t. Over t beyond.cap) number in
    subst (λ (w : Why). Holds u (record c { past = Refused seq (cause_of e w) ∷ Drawn seq e.name window ticket ∷ c.past; row = without_call seq c.row })) (sym cause_is)
    (drawn-over u c position seq window ticket beyond.cap e call stays h turn entry first is calls beyond.is_cap
    (subst (λ (w : Why). IsEntryAnswer e.policy (level_in_trace e.name c.past) (timestamp c.past) call (drawn ticket) (refusal w)) cause_is after))
