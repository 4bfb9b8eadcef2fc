-- A call passes an entry, after the entry noted what is due.
use Rattle.std.proofs.Common.{◌≡◌, ◌≢◌, ℕ, ◌+◌, ◌<◌, ◌==◌, cond, List, [], ◌∷◌, ◌++◌, length, map, take, refl, sym, ap, ◌∙◌, subst, arith, add-one}
use Rattle.std.specs.Prelude.{All, find, Some, None, option_map, slice_get}
use Rattle.std.proofs.lemmas.List.Elements.{All-push}
use Rattle.mrpc_table.specs.declared.call.Call.{Call}
use Rattle.engine_core.specs.Answers.{Past, nothing, drawn, pass, note, past_after, level_after_note, IsEntryAnswer, allows}
use Rattle.engine_core.specs.Answers.{denies, was_charged, charges, holds, refuses, is_within, is_over, draws}
use Rattle.engine_core.specs.Answers.{was_counted, counts, is_clear, redacts}
use Rattle.engine_core.specs.Chains.{Entry, names_of}
use Rattle.mrpc_table.specs.Valid.{AreDistinct}
use Rattle.engine_core.specs.declared.outcome.Noted.{Noted}
use Rattle.engine_core.specs.declared.outcome.Noted.TheVariants as notes
use Rattle.engine_core.specs.declared.policy.Policy.{Policy}
use Rattle.call_history.specs.Trace.{Trace, chain, taken, form, level_in_trace, timestamp, noted, policy_in_trace}
use Rattle.engine_core.specs.Chains.{is_named}
use Rattle.call_history.specs.Transitions.{ConnState, with_note}
use Rattle.engine_core.specs.Moves.{Row, first_at, advanced}
use Rattle.call_history.specs.Legal.{HasNoObligation, IsPastCap}
use Rattle.call_history.specs.Rules.{JudgeContext, IsAllowedInTrace, IsNoteDue, CanFollow, cap_of}
use Rattle.call_history.specs.declared.happening.Happening.{Happening}
use Rattle.call_history.specs.declared.happening.Happening.TheVariants.{Charged, Drawn, Counted}
use Rattle.call_history.specs.declared.happening.AcceptedCall.{AcceptedCall}
use Rattle.call_history.proofs.Chained.{find-entry}
use Rattle.call_history.proofs.Fitting.{past_by, fitting, none-noted}
use Rattle.call_history.proofs.Further.{goes-further}
use Rattle.call_history.proofs.Going.{may-charge, may-draw, may-count}
use Rattle.call_history.proofs.Holding.{Holds, works-on}
use Rattle.call_history.proofs.Looking.{pass-always}
use Rattle.call_history.proofs.Noting.{IsTurn, gives-by, IsNote, charge-note, draw-note, count-note, noted-here, note-row, note-ascends, Notes, notes-by}
use Rattle.call_history.proofs.Prefixes.{StaysChain}
use Rattle.call_history.proofs.Rowed.{StandsAt, IsRow}

-- moved calls keep their numbers
pub numbers-same : (f : ℕ × ℕ → ℕ) (row : Row) → map (λ (call : ℕ × ℕ). call.0) (map (λ call. (call.0, f call)) row) ≡ map (λ (call : ℕ × ℕ). call.0) row
numbers-same f [] = refl
numbers-same f (call ∷ row) = ap (λ (ns : List ℕ). call.0 ∷ ns) (numbers-same f row)

-- an ended connection has no call that could advance
pub ended-still : (f : ℕ × ℕ → ℕ) (row : Row) → row ≡ [] → map {B = ℕ × ℕ} (λ call. (call.0, f call)) row ≡ []
ended-still f row none = let go : ℕ × ℕ → ℕ × ℕ = λ call. (call.0, f call) in ap (map go) none

-- ---- no note is due

pub passed : (u : JudgeContext) (c : ConnState) (position seq : ℕ) (e : Entry) → Holds u c → IsTurn u c position seq e
    → first_at position c.row ≡ Some (seq, position) → IsAllowedInTrace u c.past seq e
    → Holds u (record c { row = advanced seq c.row })
passed u c position seq e h turn first lets = record {
  prefix = h.prefix;
  settled = h.settled;
  row = goes-further u c.past c.past 0 (length (taken c.past)) (length (chain c.past).entries) position seq c.row first turn.cut.within (λ s p apart stands. stands) step h.row;
  calls = numbers-same (λ call. cond (call.0 == seq) (call.1 + 1) call.1) c.row ∙ h.calls;
  notes_ascend = h.notes_ascend;
  failed = h.failed;
  none_left = λ ended. ended-still (λ call. cond (call.0 == seq) (call.1 + 1) call.1) c.row (h.none_left ended);
}
  where
    through : take (position + 1) (chain c.past).entries ≡ turn.cut.front ++ e ∷ []
    through = rw add-one turn.cut.through

    step : StandsAt u c.past seq position → StandsAt u c.past seq (position + 1)
    step stands = record {
      within = omega (arith, turn.cut.within);
      allowed = subst (λ (es : List Entry). All (IsAllowedInTrace u c.past seq) es) (sym through) (All-push (IsAllowedInTrace u c.past seq) turn.cut.front e turn.lets lets);
    }

-- ---- a note comes first

-- an event that is a note, and the trace after it
pub record IsNoted (u : JudgeContext) (c : ConnState) (x : Happening) (seq : ℕ) (e : Entry) (n : Noted) : Type 0 where
  pub is : IsNote c.past (x ∷ c.past) seq e.name n
  pub may : CanFollow u c.past x
  pub something : past_by n ≢ nothing
  pub noting : Notes e.policy

pub noted-holds : (u : JudgeContext) (c : ConnState) (x : Happening) (position seq : ℕ) (e : Entry) (n : Noted) → Holds u c
    → IsTurn u c position seq e → slice_get (chain c.past).entries position ≡ Some e
    → first_at position c.row ≡ Some (seq, position) → IsNoted u c x seq e n → HasNoObligation (x ∷ c.past)
    → IsAllowedInTrace u (x ∷ c.past) seq e → Holds u (record c { past = x ∷ c.past; row = advanced seq c.row })
noted-holds u c x position seq e n h turn entry first noted settled lets =
    let new : Trace = x ∷ c.past in
    record {
      prefix = (h.prefix, noted.may);
      settled = settled;
      row = subst (λ (calls : List AcceptedCall). IsRow u new 0 (length calls) (length (chain new).entries) (advanced seq c.row)) (sym noted.is.taken_same)
          (subst (λ (es : List Entry). IsRow u new 0 (length (taken c.past)) (length es) (advanced seq c.row)) (sym noted.is.entries)
          (note-row u c new position seq e n h turn first noted.is lets));
      calls = numbers-same (λ call. cond (call.0 == seq) (call.1 + 1) call.1) c.row ∙ h.calls ∙ ap (map (λ (call : AcceptedCall). call.seq)) (sym noted.is.standing_same);
      notes_ascend = note-ascends u c new position seq e n h noted.noting noted.something entry first noted.is;
      failed = λ failed. h.failed (sym noted.is.failed_same ∙ failed);
      none_left = λ ended. ended-still (λ call. cond (call.0 == seq) (call.1 + 1) call.1) c.row (h.none_left ended);
    }

-- the note is due
pub called-for : (u : JudgeContext) (c : ConnState) (position seq : ℕ) (e : Entry) (n : Noted) (call : Call) → StaysChain
    → Holds u c → IsTurn u c position seq e → form u.conn seq c.past ≡ Some call
    → IsEntryAnswer e.policy (level_in_trace e.name c.past) (timestamp c.past) call (noted e.name seq c.past) (note n) → IsNoteDue u c.past seq e.name n
called-for u c position seq e n call stays h turn is answers = record {
  meets = record { entry = e; at = turn.at; gives = gives-by u c.past seq e call (note n) is answers };
  ascends = h.notes_ascend e.name seq turn.at.is_pending
      (none-noted e.policy (level_in_trace e.name c.past) (timestamp c.past) call (noted e.name seq c.past) n (fitting stays u c.past seq h.prefix e turn.there) answers);
}

-- the entry lets the call pass after its note
lets-after : (u : JudgeContext) (past new : Trace) (seq l m : ℕ) (e : Entry) (n : Noted) (call : Call) → IsNote past new seq e.name n → form u.conn seq past ≡ Some call
    → IsEntryAnswer e.policy l m call (past_by n) pass → IsAllowedInTrace u new seq e
lets-after u past new seq l m e n call is form_is answers =
    gives-by u new seq e call pass (is.forms u.conn seq ∙ form_is)
    (subst (λ (p : Past). IsEntryAnswer e.policy (level_in_trace e.name new) (timestamp new) call p pass) (sym (noted-here past new seq e.name n is))
    (pass-always e.policy l m (level_in_trace e.name new) (timestamp new) call (past_by n) answers))

-- ---- a ticket below the cap

pub policy-there : (u : JudgeContext) (c : ConnState) (position seq : ℕ) (e : Entry) → IsTurn u c position seq e → policy_in_trace e.name c.past ≡ Some e.policy
policy-there u c position seq e turn =
    ap (λ (es : List Entry). option_map (λ x. x.policy) (find (is_named e.name) es)) turn.cut.entries
    ∙ ap (option_map (λ (x : Entry). x.policy)) (find-entry turn.cut.front turn.cut.back e (subst (λ (es : List Entry). AreDistinct (names_of es)) turn.cut.entries turn.distinct))

pass-within : (policy : Policy) (level_in_trace timestamp ticket cap : ℕ) (form : Call) → IsEntryAnswer policy level_in_trace timestamp form (drawn ticket) pass → cap_of policy ≡ Some cap → ticket < cap
pass-within policy level_in_trace timestamp ticket cap form (allows p is allow answer) caps = let wrong : None ≡ Some cap = sym (ap cap_of is) ∙ caps in absurd cc
pass-within policy level_in_trace timestamp ticket cap form (denies p is allow answer) caps = absurd cc
pass-within policy level_in_trace timestamp ticket cap form (was_charged r is some answer) caps = let wrong : None ≡ Some cap = sym (ap cap_of is) ∙ caps in absurd cc
pass-within policy level_in_trace timestamp ticket cap form (charges r is none enough answer) caps = absurd cc
pass-within policy level_in_trace timestamp ticket cap form (holds r is none less mode answer) caps = absurd cc
pass-within policy level_in_trace timestamp ticket cap form (refuses r is none less mode answer) caps = absurd cc
pass-within policy level_in_trace timestamp ticket cap form (is_within tenant per most number is some less answer) caps =
    let same_cap : Some most ≡ Some cap = sym (ap cap_of is) ∙ caps in
    let same : most ≡ cap = cc in
    let ticket_is : ticket ≡ number = cc in
    omega (arith, same, ticket_is, less)
pass-within policy level_in_trace timestamp ticket cap form (is_over tenant per most number is some more answer) caps = absurd cc
pass-within policy level_in_trace timestamp ticket cap form (draws tenant per most number is none answer) caps = absurd cc
pass-within policy level_in_trace timestamp ticket cap form (was_counted is some answer) caps = let wrong : None ≡ Some cap = sym (ap cap_of is) ∙ caps in absurd cc
pass-within policy level_in_trace timestamp ticket cap form (counts is none answer) caps = absurd cc
pass-within policy level_in_trace timestamp ticket cap form (is_clear clears is left answer) caps = let wrong : None ≡ Some cap = sym (ap cap_of is) ∙ caps in absurd cc
pass-within policy level_in_trace timestamp ticket cap form (redacts clears is other answer) caps = absurd cc

not-over : (u : JudgeContext) (c : ConnState) (position seq ticket level_in_trace timestamp : ℕ) (e : Entry) (call : Call)
    → IsTurn u c position seq e → IsEntryAnswer e.policy level_in_trace timestamp call (drawn ticket) pass → IsPastCap c.past e.name ticket
    → ⊥
not-over u c position seq ticket level_in_trace timestamp e call turn answers over =
    let policies : Some over.policy ≡ Some e.policy = sym over.is_policy ∙ policy-there u c position seq e turn in
    let same : over.policy ≡ e.policy = cc in
    over.over (pass-within e.policy level_in_trace timestamp ticket over.cap call answers (ap cap_of (sym same) ∙ over.is_cap))

-- ---- the kinds of note

pub no-note : (policy : Policy) (level_in_trace timestamp : ℕ) (form : Call) (past : Past) → IsEntryAnswer policy level_in_trace timestamp form past (note notes.Nothing) → ⊥
no-note policy level_in_trace timestamp form past (allows p is allow answer) = cc
no-note policy level_in_trace timestamp form past (denies p is allow answer) = cc
no-note policy level_in_trace timestamp form past (was_charged r is some answer) = cc
no-note policy level_in_trace timestamp form past (charges r is none enough answer) = cc
no-note policy level_in_trace timestamp form past (holds r is none less mode answer) = cc
no-note policy level_in_trace timestamp form past (refuses r is none less mode answer) = cc
no-note policy level_in_trace timestamp form past (is_within tenant per cap ticket is some less answer) = cc
no-note policy level_in_trace timestamp form past (is_over tenant per cap ticket is some more answer) = cc
no-note policy level_in_trace timestamp form past (draws tenant per cap ticket is none answer) = cc
no-note policy level_in_trace timestamp form past (was_counted is some answer) = cc
no-note policy level_in_trace timestamp form past (counts is none answer) = cc
no-note policy level_in_trace timestamp form past (is_clear clears is left answer) = cc
no-note policy level_in_trace timestamp form past (redacts clears is other answer) = cc

pub passed-noted : (u : JudgeContext) (c : ConnState) (position seq : ℕ) (e : Entry) (n : Noted) (call : Call) → StaysChain
    → Holds u c → IsTurn u c position seq e → slice_get (chain c.past).entries position ≡ Some e
    → first_at position c.row ≡ Some (seq, position) → form u.conn seq c.past ≡ Some call
    → IsEntryAnswer e.policy (level_in_trace e.name c.past) (timestamp c.past) call (noted e.name seq c.past) (note n)
    → IsEntryAnswer e.policy (level_after_note n (level_in_trace e.name c.past)) (timestamp c.past) call (past_after n (noted e.name seq c.past)) pass
    → Holds u (record c { past = with_note e.name seq n c.past; row = advanced seq c.row })
passed-noted u c position seq e notes.Nothing call stays h turn entry first is calls after =
    absurd (no-note e.policy (level_in_trace e.name c.past) (timestamp c.past) call (noted e.name seq c.past) calls)
passed-noted u c position seq e (notes.Charged left) call stays h turn entry first is calls after =
    let x : Happening = Charged seq e.name left in
    noted-holds u c x position seq e (notes.Charged left) h turn entry first
    (record {
      is = charge-note c.past seq e.name left;
      may = may-charge u c.past seq e.name left turn.free (called-for u c position seq e (notes.Charged left) call stays h turn is calls);
      something = λ none. cc;
      noting = notes-by e.policy (level_in_trace e.name c.past) (timestamp c.past) call (noted e.name seq c.past) (notes.Charged left) calls;
    })
    (record { malformed = λ awaits. awaits; quota = λ awaits. awaits; link = works-on (x ∷ c.past) turn.free.works })
    (lets-after u c.past (x ∷ c.past) seq left (timestamp c.past) e (notes.Charged left) call (charge-note c.past seq e.name left) is after)
passed-noted u c position seq e (notes.Drawn window ticket) call stays h turn entry first is calls after =
    let x : Happening = Drawn seq e.name window ticket in
    noted-holds u c x position seq e (notes.Drawn window ticket) h turn entry first
    (record {
      is = draw-note c.past seq e.name window ticket;
      may = may-draw u c.past seq e.name window ticket turn.free (called-for u c position seq e (notes.Drawn window ticket) call stays h turn is calls);
      something = λ none. cc;
      noting = notes-by e.policy (level_in_trace e.name c.past) (timestamp c.past) call (noted e.name seq c.past) (notes.Drawn window ticket) calls;
    })
    (record {
      malformed = λ awaits. awaits;
      quota = not-over u c position seq ticket (level_in_trace e.name c.past) (timestamp c.past) e call turn after;
      link = works-on (x ∷ c.past) turn.free.works;
    })
    (lets-after u c.past (x ∷ c.past) seq (level_in_trace e.name c.past) (timestamp c.past) e (notes.Drawn window ticket) call (draw-note c.past seq e.name window ticket) is after)
passed-noted u c position seq e notes.Counted call stays h turn entry first is calls after =
    let x : Happening = Counted seq e.name in
    noted-holds u c x position seq e notes.Counted h turn entry first
    (record {
      is = count-note c.past seq e.name;
      may = may-count u c.past seq e.name turn.free (called-for u c position seq e notes.Counted call stays h turn is calls);
      something = λ none. cc;
      noting = notes-by e.policy (level_in_trace e.name c.past) (timestamp c.past) call (noted e.name seq c.past) notes.Counted calls;
    })
    (record { malformed = λ awaits. awaits; quota = λ awaits. awaits; link = works-on (x ∷ c.past) turn.free.works })
    (lets-after u c.past (x ∷ c.past) seq (level_in_trace e.name c.past) (timestamp c.past) e notes.Counted call (count-note c.past seq e.name) is after)
