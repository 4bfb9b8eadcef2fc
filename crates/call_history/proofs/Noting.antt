-- A note of one call by one entry doesn't change the notes of another call or another name; and calls are noted
-- in order.
use Rattle.std.proofs.Common.{◌≡◌, ◌≢◌, ℕ, ◌+◌, ◌<◌, ◌≤◌, ◌==◌, ◌&&◌, zero, suc, Bool, true, false, cond, inl, inr}
use Rattle.std.proofs.Common.{List, [], ◌∷◌, ◌++◌, length, map, take, refl, sym, ap, ◌∙◌, subst, arith, add-one}
use Rattle.std.specs.Prelude.{All, Contains, IsSomeAnd, Option, Some, None, slice_get}
use Rattle.std.specs.Str.{bytes_eq}
use Rattle.std.proofs.lemmas.Bool.{cases_order, and_right}
use Rattle.std.proofs.lemmas.List.Elements.{All-cons, All-contains, All-push}
use Rattle.mrpc_table.specs.Valid.{AreDistinct}
use Rattle.mrpc_table.specs.declared.call.Call.{Call}
use Rattle.engine_core.specs.Answers.{Past, nothing, Answer, pass, note, IsEntryAnswer, allows, denies, was_charged}
use Rattle.engine_core.specs.Answers.{charges, holds, refuses, is_within, is_over, draws, was_counted, counts}
use Rattle.engine_core.specs.Answers.{is_clear, redacts}
use Rattle.engine_core.specs.Chains.{Entry, names_of}
use Rattle.engine_core.specs.declared.outcome.Noted.{Noted}
use Rattle.engine_core.specs.declared.outcome.Noted.TheVariants as notes
use Rattle.engine_core.specs.declared.policy.Policy.{Policy}
use Rattle.engine_core.specs.declared.policy.Policy.TheVariants.{Rate, Quota, Count}
use Rattle.call_history.specs.Trace.{Trace, chain, taken, pending_calls, has_failed, form, level_in_trace, timestamp, noted, noted_calls}
use Rattle.call_history.specs.Transitions.{ConnState, AreNotesAscending}
use Rattle.engine_core.specs.Moves.{first_at, advanced}
use Rattle.call_history.specs.Rules.{JudgeContext, IsAllowedInTrace, IsAnswerInTrace, IsAt}
use Rattle.call_history.specs.declared.happening.Happening.TheVariants.{Charged, Drawn, Counted}
use Rattle.call_history.specs.declared.happening.AcceptedCall.{AcceptedCall}
use Rattle.call_history.proofs.Chained.{IsCut, cut, contains-in, front-apart, all-step}
use Rattle.call_history.proofs.Fitting.{past_by}
use Rattle.call_history.proofs.Further.{IsFound, found, IsFurther, earlier-further, KeepsOthers, goes-further, contains-first, contains-later}
use Rattle.call_history.proofs.Going.{IsOpen}
use Rattle.call_history.proofs.Holding.{Holds, stands-still, works-there}
use Rattle.call_history.proofs.Looking.{same-name, lets-still, is-for, isnt-call, isnt-named}
use Rattle.call_history.proofs.Prefixes.{StaysChain, chained}
use Rattle.call_history.proofs.Rowed.{StandsAt, IsRow}

-- ---- a turn

-- the first call at a position, and the entry there
pub record IsTurn (u : JudgeContext) (c : ConnState) (position seq : ℕ) (e : Entry) : Type 0 where
  pub cut : IsCut (chain c.past).entries position e
  pub found : IsFound u c.past 0 (length (taken c.past)) (length (chain c.past).entries) position c.row (seq, position)
  pub free : IsOpen c.past
  pub at : IsAt u c.past seq e.name e
  pub lets : All (IsAllowedInTrace u c.past seq) cut.front
  pub there : Contains (chain c.past).entries e
  pub distinct : AreDistinct (names_of (chain c.past).entries)

pub turn_of : (u : JudgeContext) (c : ConnState) (position seq : ℕ) (e : Entry) → StaysChain → Holds u c → slice_get (chain c.past).entries position ≡ Some e
    → first_at position c.row ≡ Some (seq, position) → IsTurn u c position seq e
turn_of u c position seq e stays h entry first =
    let place : IsCut (chain c.past).entries position e = cut (chain c.past).entries position e entry in
    let call : IsFound u c.past 0 (length (taken c.past)) (length (chain c.past).entries) position c.row (seq, position) =
    found u c.past 0 (length (taken c.past)) (length (chain c.past).entries) position c.row (seq, position) first h.row in
    let before : All (IsAllowedInTrace u c.past seq) place.front = subst (λ (es : List Entry). All (IsAllowedInTrace u c.past seq) es) place.before call.placed.stands.allowed in
    record {
      cut = place;
      found = call;
      lets = before;
      free = works-there u c position (seq, position) h first;
      at = record {
        front = place.front;
        back = place.back;
        entries = place.entries;
        named = refl;
        is_pending = subst (λ (ns : List ℕ). Contains ns seq) h.calls call.there;
        allowed = before;
      };
      there = contains-in (chain c.past).entries place.front place.back e place.entries;
      distinct = (chained stays u c.past h.prefix).names;
    }

-- entries before the one of a turn have other names
pub before-apart : (u : JudgeContext) (c : ConnState) (position seq : ℕ) (e x : Entry) (turn : IsTurn u c position seq e) → Contains turn.cut.front x → x.name ≢ e.name
before-apart u c position seq e x turn has = front-apart turn.cut.front turn.cut.back e x (subst (λ (es : List Entry). AreDistinct (names_of es)) turn.cut.entries turn.distinct) has

pub gives-by : (u : JudgeContext) (past : Trace) (seq : ℕ) (e : Entry) (call : Call) (answer : Answer) → form u.conn seq past ≡ Some call
    → IsEntryAnswer e.policy (level_in_trace e.name past) (timestamp past) call (noted e.name seq past) answer → IsAnswerInTrace u past e seq answer
gives-by u past seq e call answer is answers =
    subst (λ (f : Option Call). IsSomeAnd f (λ other. IsEntryAnswer e.policy (level_in_trace e.name past) (timestamp past) other (noted e.name seq past) answer)) (sym is) answers

-- ---- a note

-- the trace after a note of a call by the entry with a name
pub record IsNote (past new : Trace) (seq : ℕ) (name : List ℕ) (n : Noted) : Type 0 where
  pub entries : (chain new).entries ≡ (chain past).entries
  pub forms : (conn s : ℕ) → form conn s new ≡ form conn s past
  pub standing_same : pending_calls new ≡ pending_calls past
  pub taken_same : taken new ≡ taken past
  pub failed_same : has_failed new ≡ has_failed past
  pub noted_is : (other : List ℕ) (s : ℕ) → noted other s new ≡ cond ((seq == s) && bytes_eq name other) (past_by n) (noted other s past)
  pub calls_is : (other : List ℕ) → noted_calls other new ≡ cond (bytes_eq name other) (seq ∷ noted_calls other past) (noted_calls other past)

pub charge-note : (past : Trace) (seq : ℕ) (name : List ℕ) (left : ℕ) → IsNote past (Charged seq name left ∷ past) seq name (notes.Charged left)
charge-note past seq name left = record {
  entries = refl;
  forms = λ conn s. refl;
  standing_same = refl;
  taken_same = refl;
  failed_same = refl;
  noted_is = λ other s. refl;
  calls_is = λ other. refl;
}

pub draw-note : (past : Trace) (seq : ℕ) (name : List ℕ) (window ticket : ℕ) → IsNote past (Drawn seq name window ticket ∷ past) seq name (notes.Drawn window ticket)
draw-note past seq name window ticket = record {
  entries = refl;
  forms = λ conn s. refl;
  standing_same = refl;
  taken_same = refl;
  failed_same = refl;
  noted_is = λ other s. refl;
  calls_is = λ other. refl;
}

pub count-note : (past : Trace) (seq : ℕ) (name : List ℕ) → IsNote past (Counted seq name ∷ past) seq name notes.Counted
count-note past seq name = record {
  entries = refl;
  forms = λ conn s. refl;
  standing_same = refl;
  taken_same = refl;
  failed_same = refl;
  noted_is = λ other s. refl;
  calls_is = λ other. refl;
}

-- the notes of the call itself, of another call, and by another name
pub noted-here : (past new : Trace) (seq : ℕ) (name : List ℕ) (n : Noted) → IsNote past new seq name n → noted name seq new ≡ past_by n
noted-here past new seq name n is = is.noted_is name seq ∙ ap (λ b. cond b (past_by n) (noted name seq past)) (is-for seq seq name name refl refl)

pub noted-call : (past new : Trace) (seq s : ℕ) (name other : List ℕ) (n : Noted) → IsNote past new seq name n → seq ≢ s → noted other s new ≡ noted other s past
noted-call past new seq s name other n is apart = is.noted_is other s ∙ ap (λ b. cond b (past_by n) (noted other s past)) (isnt-call seq s name other apart)

pub noted-name : (past new : Trace) (seq s : ℕ) (name other : List ℕ) (n : Noted) → IsNote past new seq name n → name ≢ other → noted other s new ≡ noted other s past
noted-name past new seq s name other n is apart = is.noted_is other s ∙ ap (λ b. cond b (past_by n) (noted other s past)) (isnt-named seq s name other apart)

-- ---- other calls keep their positions, and this one advances

pub note-keeps : (u : JudgeContext) (past new : Trace) (seq : ℕ) (name : List ℕ) (n : Noted) → IsNote past new seq name n → KeepsOthers u past new seq
note-keeps u past new seq name n is s position apart = stands-still u past new s position is.entries
    (λ e. lets-still u past new s e (is.forms u.conn s) (noted-call past new seq s name e.name n is (λ same. apart (sym same))))

-- the entries before it still let the call pass
pub front-lets : (u : JudgeContext) (past new : Trace) (seq : ℕ) (name : List ℕ) (n : Noted) (front : List Entry) → IsNote past new seq name n
    → ((x : Entry) → Contains front x → x.name ≢ name) → All (IsAllowedInTrace u past seq) front → All (IsAllowedInTrace u new seq) front
front-lets u past new seq name n front is apart lets = all-step (IsAllowedInTrace u past seq) (IsAllowedInTrace u new seq) front
    (λ x has let_x. lets-still u past new seq x (is.forms u.conn seq) (noted-name past new seq seq name x.name n is (λ same. apart x has (sym same))) let_x) lets

pub note-row : (u : JudgeContext) (c : ConnState) (new : Trace) (position seq : ℕ) (e : Entry) (n : Noted) → Holds u c
    → IsTurn u c position seq e → first_at position c.row ≡ Some (seq, position)
    → IsNote c.past new seq e.name n → IsAllowedInTrace u new seq e → IsRow u new 0 (length (taken c.past)) (length (chain c.past).entries) (advanced seq c.row)
note-row u c new position seq e n h turn first is lets =
    goes-further u c.past new 0 (length (taken c.past)) (length (chain c.past).entries) position seq c.row first turn.cut.within (note-keeps u c.past new seq e.name n is) step h.row
  where
    through : take (position + 1) (chain c.past).entries ≡ turn.cut.front ++ e ∷ []
    through = rw add-one turn.cut.through

    step : StandsAt u c.past seq position → StandsAt u new seq (position + 1)
    step stands = record {
      within = subst (λ (es : List Entry). position + 1 ≤ length es) (sym is.entries) (omega (arith, turn.cut.within));
      allowed = subst (λ (es : List Entry). All (IsAllowedInTrace u new seq) (take (position + 1) es)) (sym is.entries)
          (subst (λ (es : List Entry). All (IsAllowedInTrace u new seq) es) (sym through)
          (All-push (IsAllowedInTrace u new seq) turn.cut.front e (front-lets u c.past new seq e.name n turn.cut.front is (λ x. before-apart u c position seq e x turn) turn.lets) lets));
    }

-- ---- calls are noted in order

-- the policy makes notes
abbrev pub Notes : Policy → Type 0
Notes (Rate r) = Unit {0}
Notes (Quota tenant per cap) = Unit {0}
Notes Count = Unit {0}
Notes policy = ⊥

pub notes-by : (policy : Policy) (level_in_trace timestamp : ℕ) (form : Call) (past : Past) (n : Noted) → IsEntryAnswer policy level_in_trace timestamp form past (note n) → Notes policy
notes-by policy level_in_trace timestamp form past n (allows p is allow answer) = absurd cc
notes-by policy level_in_trace timestamp form past n (denies p is allow answer) = absurd cc
notes-by policy level_in_trace timestamp form past n (was_charged r is some answer) = absurd cc
notes-by policy level_in_trace timestamp form past n (charges r is none enough answer) = subst Notes (sym is) tt
notes-by policy level_in_trace timestamp form past n (holds r is none less mode answer) = absurd cc
notes-by policy level_in_trace timestamp form past n (refuses r is none less mode answer) = absurd cc
notes-by policy level_in_trace timestamp form past n (is_within tenant per cap ticket is some less answer) = absurd cc
notes-by policy level_in_trace timestamp form past n (is_over tenant per cap ticket is some more answer) = absurd cc
notes-by policy level_in_trace timestamp form past n (draws tenant per cap ticket is none answer) = subst Notes (sym is) tt
notes-by policy level_in_trace timestamp form past n (was_counted is some answer) = absurd cc
notes-by policy level_in_trace timestamp form past n (counts is none answer) = subst Notes (sym is) tt
notes-by policy level_in_trace timestamp form past n (is_clear clears is left answer) = absurd cc
notes-by policy level_in_trace timestamp form past n (redacts clears is other answer) = absurd cc

-- such a policy lets a call pass if something was noted of it
pass-noted : (policy : Policy) (level_in_trace timestamp : ℕ) (form : Call) (past : Past) → Notes policy → IsEntryAnswer policy level_in_trace timestamp form past pass → past ≢ nothing
pass-noted policy level_in_trace timestamp form past noting (allows p is allow answer) none = subst Notes is noting
pass-noted policy level_in_trace timestamp form past noting (denies p is allow answer) none = cc
pass-noted policy level_in_trace timestamp form past noting (was_charged r is some answer) none = some none
pass-noted policy level_in_trace timestamp form past noting (charges r is none enough answer) gone = cc
pass-noted policy level_in_trace timestamp form past noting (holds r is none less mode answer) gone = cc
pass-noted policy level_in_trace timestamp form past noting (refuses r is none less mode answer) gone = cc
pass-noted policy level_in_trace timestamp form past noting (is_within tenant per cap ticket is some less answer) none = cc
pass-noted policy level_in_trace timestamp form past noting (is_over tenant per cap ticket is some more answer) none = cc
pass-noted policy level_in_trace timestamp form past noting (draws tenant per cap ticket is none answer) gone = cc
pass-noted policy level_in_trace timestamp form past noting (was_counted is some answer) none = some none
pass-noted policy level_in_trace timestamp form past noting (counts is none answer) gone = cc
pass-noted policy level_in_trace timestamp form past noting (is_clear clears is left answer) none = subst Notes is noting
pass-noted policy level_in_trace timestamp form past noting (redacts clears is other answer) none = cc

lets-noted : (policy : Policy) (level_in_trace timestamp : ℕ) (form : Option Call) (past : Past) → Notes policy
    → IsSomeAnd form (λ call. IsEntryAnswer policy level_in_trace timestamp call past pass) → past ≢ nothing
lets-noted policy level_in_trace timestamp None past noting lets = absurd lets
lets-noted policy level_in_trace timestamp (Some call) past noting lets = pass-noted policy level_in_trace timestamp call past noting lets

contains-take : (es : List Entry) (k m : ℕ) (e : Entry) → slice_get es k ≡ Some e → k < m → Contains (take m es) e
contains-take [] k m e at less = absurd cc
contains-take (x ∷ es) zero zero e at less = absurd (omega (arith, less))
contains-take (x ∷ es) zero (suc m) e at less = contains-first x (take m es) e (cc)
contains-take (x ∷ es) (suc k) zero e at less = absurd (omega (arith, less))
contains-take (x ∷ es) (suc k) (suc m) e at less = contains-later x (take m es) e (contains-take es k m e at (omega (arith, less)))

-- the previous entry noted a call with a smaller number
pub earlier-noted : (u : JudgeContext) (c : ConnState) (position seq s : ℕ) (e : Entry) → Holds u c → Notes e.policy
    → slice_get (chain c.past).entries position ≡ Some e → first_at position c.row ≡ Some (seq, position)
    → Contains (map (λ (call : AcceptedCall). call.seq) (pending_calls c.past)) s → s < seq → noted e.name s c.past ≢ nothing
earlier-noted u c position seq s e h noting entry first stands less =
    let further : IsFurther u c.past s position =
    earlier-further u c.past 0 (length (taken c.past)) (length (chain c.past).entries) position seq s c.row first
    h.row (subst (λ (ns : List ℕ). Contains ns s) (sym h.calls) stands) less in
    let lets : IsAllowedInTrace u c.past s e =
    All-contains (IsAllowedInTrace u c.past s) (take further.place (chain c.past).entries) e further.stands.allowed
    (contains-take (chain c.past).entries position further.place e entry further.further) in
    lets-noted e.policy (level_in_trace e.name c.past) (timestamp c.past) (form u.conn s c.past) (noted e.name s c.past) noting lets

pub note-ascends : (u : JudgeContext) (c : ConnState) (new : Trace) (position seq : ℕ) (e : Entry) (n : Noted) → Holds u c → Notes e.policy → past_by n ≢ nothing
    → slice_get (chain c.past).entries position ≡ Some e → first_at position c.row ≡ Some (seq, position) → IsNote c.past new seq e.name n → AreNotesAscending new
note-ascends u c new position seq e n h noting something entry first is name s stands none = given (bytes_eq e.name name) refl
  where
    stood : Contains (map (λ (call : AcceptedCall). call.seq) (pending_calls c.past)) s
    stood = subst (λ (calls : List AcceptedCall). Contains (map (λ call. call.seq) calls) s) is.standing_same stands

    here : e.name ≡ name → All (λ other. other < s) (seq ∷ noted_calls name c.past)
    here same = elim (cases_order seq s) [
      | inl equal ↦ absurd (something (sym (is.noted_is name s ∙ ap (λ b. cond b (past_by n) (noted name s c.past)) (is-for seq s e.name name equal same)) ∙ none))
      | inr rest ↦ elim rest [
        | inl less ↦ All-cons (λ other. other < s) seq (noted_calls name c.past) less
            (h.notes_ascend name s stood
            (sym (noted-call c.past new seq s e.name name n is (λ equal. omega (arith, equal, less))) ∙ none))
        | inr more ↦ absurd (earlier-noted u c position seq s e h noting entry first stood more
            (subst (λ (m : List ℕ). noted m s c.past ≡ nothing) (sym same) (sym (noted-call c.past new seq s e.name name n is (λ equal. omega (arith, equal, more))) ∙ none)))
      ]
    ]

    given : (b : Bool) → bytes_eq e.name name ≡ b → All (λ other. other < s) (noted_calls name new)
    given true test = subst (λ (calls : List ℕ). All (λ other. other < s) calls)
        (sym (is.calls_is name ∙ ap (λ b. cond b (seq ∷ noted_calls name c.past) (noted_calls name c.past)) test))
        (here (same-name e.name name test))
    given false test =
        let quiet : noted name s new ≡ noted name s c.past =
        is.noted_is name s ∙ ap (λ b. cond b (past_by n) (noted name s c.past))
        (and_right (seq == s) (bytes_eq e.name name) test) in
        subst (λ (calls : List ℕ). All (λ other. other < s) calls)
        (sym (is.calls_is name ∙ ap (λ b. cond b (seq ∷ noted_calls name c.past) (noted_calls name c.past)) test))
        (h.notes_ascend name s stood (sym quiet ∙ none))
