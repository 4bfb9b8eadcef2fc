-- Small histories of one connection, calculated by hand: each is legal, its pending calls are at these
-- positions, and its text is this one.
use Rattle.std.proofs.Common.{◌≡◌, ℕ, ◌+◌, ◌<◌, ◌≤◌, zero, suc, false, true, List, [], ◌∷◌, ◌++◌, codes, length, map, reverse, get_or, arith, refl}
use Rattle.std.proofs.Common.{sym, ap, subst, ◌∙◌}
use Rattle.std.specs.Fmt.{digits}
use Rattle.std.specs.Prelude.{Contains, Some, slice_get}
use Rattle.hex.specs.Hex.{encode_with}
use Rattle.std.proofs.lemmas.List.Elements.{All-cons, All-contains, All-nil}
use Rattle.mrpc_table.specs.Node.{Node, no_fields, field, one, number}
use Rattle.mrpc_table.specs.Normal.{IsNormal}
use Rattle.mrpc_table.specs.declared.call.Call.{Call}
use Rattle.mrpc_table.specs.declared.call.CallKind.TheVariants.{Request}
use Rattle.mrpc_table.specs.declared.table.Field.{Field}
use Rattle.mrpc_table.specs.declared.table.Kind.TheVariants.{Uint64}
use Rattle.mrpc_table.specs.declared.table.Label.TheVariants.{Plain}
use Rattle.mrpc_table.specs.declared.table.Table.{Table}
use Rattle.wire_base.specs.Encoding.{varint, groups}
use Rattle.frame_transport.specs.declared.format.TheConstants.{HEADER_LEN}
use Rattle.policy_access.specs.Verdict.{AccessPolicy}
use Rattle.policy_access.specs.declared.rule.CallSelector.TheVariants.{Calls as OfCalls}
use Rattle.policy_access.specs.declared.rule.Comparison.TheVariants.{Equal}
use Rattle.policy_access.specs.declared.rule.Condition.TheVariants.{Compares}
use Rattle.policy_access.specs.declared.rule.Operand.TheVariants.{Number}
use Rattle.policy_access.specs.declared.rule.Rule.{Rule}
use Rattle.policy_rate.specs.declared.rate.Rate.{Rate as RatePolicy}
use Rattle.policy_redact.specs.declared.redact.Clear.{Clear}
use Rattle.engine_core.specs.Answers.{IsEntryAnswer, hold, nothing, charged, counted, allows, charges, counts, denies, draws, holds, redacts, refuses}
use Rattle.engine_core.specs.Answers.{is_clear, is_over, is_within, was_charged, was_counted}
use Rattle.engine_core.specs.Chains.{HasChanged, Entry, IsReasonToReject, Refusal, attaches, changed, detaches_none, names_of, new_entry, upgrades_none}
use Rattle.engine_core.specs.Chains.{is_taken, is_past, is_full, is_other}
use Rattle.engine_core.specs.declared.op.Op.TheVariants.{Attach, Detach}
use Rattle.engine_core.specs.declared.policy.Policy.{Policy}
use Rattle.engine_core.specs.declared.policy.Policy.TheVariants.{Access, Count, Rate, Redact}
use Rattle.call_history.specs.Trace.{Trace, has_failed, level_in_trace, timestamp, pending_calls, taken}
use Rattle.call_history.specs.Legal.{History, IsLegalTrace, IsLegalPrefix}
use Rattle.call_history.specs.Positions.{AreLegalPositions, IsHead, IsHeld, IsSettled, AreNonIncreasing}
use Rattle.call_history.specs.Rules.{IsEndedWithLink, IsAnswerInTrace, IsLinkRefusal, IsSentNext, IsAllowedInTrace, CanFollow, MayTake, IsNotedAsDue, IsRefusedIfPastCap, IsMalformedRefusedAtOnce}
use Rattle.call_history.specs.Rules.{IsChainPreserved, JudgeContext, payload}
use Rattle.call_history.specs.declared.happening.Cause.TheVariants as cause
use Rattle.call_history.specs.declared.happening.ConnectionEvent.{ConnectionEvent}
use Rattle.call_history.specs.declared.happening.Happening.{Happening}
use Rattle.call_history.specs.declared.happening.Happening.TheVariants.{Took, Op, Moment, Charged, Counted, Redacted, Sent, Refused}
use Rattle.call_history.specs.declared.happening.AcceptedCall.{AcceptedCall}
use Rattle.call_history.specs.declared.happening.TookCopy.TheVariants.{Copy}
use Rattle.audit_text.specs.Lines.{audit, stands_line}

-- ---- tables and requests

abbrev number_field : ℕ → List ℕ → Field
number_field n name = record { number = n; name = name; kind = Uint64; label = Plain }

abbrev table_of : List Field → Table
table_of fields = record {
  messages = record { name = codes "M"; fields = fields; oneofs = [] } ∷ [];
  enums = [];
  methods = record { service = codes "S"; name = codes "Get"; input = 0; output = 0 } ∷ [];
}

abbrev field_a : Field
field_a = number_field 1 (codes "a")

abbrev field_b : Field
field_b = number_field 2 (codes "b")

abbrev one_field : Table
one_field = table_of (field_a ∷ [])

abbrev two_fields : Table
two_fields = table_of (field_a ∷ field_b ∷ [])

abbrev under : JudgeContext
under = record { conn = 1; table = one_field; limit = 1024 }

abbrev under_two : JudgeContext
under_two = record { conn = 1; table = two_fields; limit = 1024 }

abbrev with_7 : Node
with_7 = field 1 (one (number 7)) no_fields

abbrev seven : ℕ → AcceptedCall
seven seq = record { seq = seq; method = 0; number = 0; addr = 2; after = 1; count = 1; copy = Copy with_7 }

abbrev with_7_and_9 : Node
with_7_and_9 = field 1 (one (number 7)) (field 2 (one (number 9)) no_fields)

abbrev seven_nine : AcceptedCall
seven_nine = record { seq = 1; method = 0; number = 0; addr = 2; after = 2; count = 2; copy = Copy with_7_and_9 }

abbrev form_of : ℕ → Call
form_of seq = record { conn = 1; seq = seq; method = 0; number = 0; tree = with_7 }

normal-7 : IsNormal one_field 0 with_7
normal-7 = record {
  fields = (omega arith, (field_a, refl, λ (e : 7 ≡ 0). omega (arith, e), omega arith), tt);
  oneofs = λ o. omega arith;
  depth = omega arith;
}

normal-two : IsNormal two_fields 0 with_7_and_9
normal-two = record {
  fields = (
    omega arith,
    (field_a, refl, λ (e : 7 ≡ 0). omega (arith, e), omega arith),
    (omega arith, (field_b, refl, λ (e : 9 ≡ 0). omega (arith, e), omega arith), tt),
  );
  oneofs = λ o. omega arith;
  depth = omega arith;
}

abbrev on_one : Happening → ConnectionEvent
on_one what = record { conn = 1; what = what }

-- the events of connection 1, in order
abbrev history_of : Trace → History
history_of past = map on_one (reverse past)

long-7 : (seq : ℕ) → 18 ≡ HEADER_LEN + length (payload one_field (form_of seq))
unfolding varint groups
long-7 seq = refl

-- ---- events on a link that hasn't failed

stands_open : (past : Trace) (next : Happening) → has_failed past ≡ false → IsLinkRefusal past next → IsEndedWithLink past next
stands_open past next live refusal = (λ failed. absurd (let wrong : false ≡ true = sym live ∙ failed in cc), refusal)

may-take : (u : JudgeContext) (past : Trace) (call : AcceptedCall) → has_failed past ≡ false → MayTake u past call
    → IsMalformedRefusedAtOnce past (Took call) → IsRefusedIfPastCap past (Took call) → CanFollow u past (Took call)
may-take u past call live takes malformed over = record {
  numbered = takes;
  malformed = malformed;
  chain_kept = tt;
  notes_due = tt;
  drawn_refused = over;
  in_order = tt;
  answered = tt;
  link_end = stands_open past (Took call) live tt;
}

takes-7 : (past : Trace) (seq : ℕ) → seq ≡ length (taken past) + 1 → length (pending_calls past) < 64 → MayTake under past (seven seq)
takes-7 past seq next few = record { number = next; few = few; loads = omega arith; copy = (omega arith, normal-7) }

may-charge : (past : Trace) (seq left : ℕ) (name : List ℕ) → has_failed past ≡ false → IsNotedAsDue under past (Charged seq name left)
    → IsMalformedRefusedAtOnce past (Charged seq name left) → IsRefusedIfPastCap past (Charged seq name left) → CanFollow under past (Charged seq name left)
may-charge past seq left name live due malformed over = record {
  numbered = tt;
  malformed = malformed;
  chain_kept = tt;
  notes_due = due;
  drawn_refused = over;
  in_order = tt;
  answered = tt;
  link_end = stands_open past (Charged seq name left) live tt;
}

may-send : (past : Trace) (seq : ℕ) → has_failed past ≡ false → IsSentNext under past seq 18
    → IsMalformedRefusedAtOnce past (Sent seq 18) → IsRefusedIfPastCap past (Sent seq 18) → CanFollow under past (Sent seq 18)
may-send past seq live sent malformed over = record {
  numbered = tt;
  malformed = malformed;
  chain_kept = tt;
  notes_due = tt;
  drawn_refused = over;
  in_order = sent;
  answered = tt;
  link_end = stands_open past (Sent seq 18) live tt;
}

may-pass : (past : Trace) (ms : ℕ) → has_failed past ≡ false → timestamp past < ms
    → IsMalformedRefusedAtOnce past (Moment ms) → IsRefusedIfPastCap past (Moment ms) → CanFollow under past (Moment ms)
may-pass past ms live later malformed over = record {
  numbered = tt;
  malformed = malformed;
  chain_kept = later;
  notes_due = tt;
  drawn_refused = over;
  in_order = tt;
  answered = tt;
  link_end = stands_open past (Moment ms) live tt;
}

may-attach : (u : JudgeContext) (past : Trace) (at : ℕ) (name : List ℕ) (policy : Policy) → has_failed past ≡ false
    → IsChainPreserved past (Op (Attach at name name policy)) → IsMalformedRefusedAtOnce past (Op (Attach at name name policy))
    → IsRefusedIfPastCap past (Op (Attach at name name policy)) → CanFollow u past (Op (Attach at name name policy))
may-attach u past at name policy live keeps malformed over = record {
  numbered = tt;
  malformed = malformed;
  chain_kept = keeps;
  notes_due = tt;
  drawn_refused = over;
  in_order = tt;
  answered = tt;
  link_end = stands_open past (Op (Attach at name name policy)) live tt;
}

-- ---- operations of an operator

in_nothing : (name : List ℕ) → Contains [] name → ⊥
in_nothing name has = omega (arith, has.1)

in_one : (name other : List ℕ) → Contains (name ∷ []) other → name ≡ other
in_one name other has = All-contains (λ z. name ≡ z) (name ∷ []) other (All-cons (λ z. name ≡ z) name [] refl (All-nil _)) has

free-attach : (entries : List Entry) (at : ℕ) (name label : List ℕ) (policy : Policy) (refusal : Refusal)
    → (Contains (names_of entries) name → ⊥) → (length entries < at → ⊥) → length entries < 8
    → IsReasonToReject entries (Attach at name label policy) refusal → ⊥
free-attach entries at name label policy refusal none within few (detaches_none n is not r) = cc
free-attach entries at name label policy refusal none within few (upgrades_none n l p is not r) = cc
free-attach entries at name label policy refusal none within few (is_taken a n l p is some r) = let names : n ≡ name = cc in none (rw (← names) some)
free-attach entries at name label policy refusal none within few (is_past a n l p is past r) = let places : a ≡ at = cc in within (rw (← places) past)
free-attach entries at name label policy refusal none within few (is_full a n l p is full r) = omega (arith, full, few)
free-attach entries at name label policy refusal none within few (is_other n l p e is there named differs r) = cc

attached-first : (name : List ℕ) (policy : Policy)
    → HasChanged (record { entries = []; attached = 0 }) (Attach 0 name name policy) (changed (Attach 0 name name policy) (record { entries = []; attached = 0 }))
attached-first name policy = record {
  free = λ refusal. free-attach [] 0 name name policy refusal (in_nothing name) (λ less. omega (arith, less)) (omega arith);
  effect = attaches 0 name name policy [] [] refl refl refl refl;
}

-- ---- positions that never rise

abbrev Falls : ℕ → List ℕ → Type 0
Falls top [] = Unit {0}
Falls top (p ∷ positions) = (p ≤ top) × Falls p positions

low : (top : ℕ) (positions : List ℕ) (j q : ℕ) → Falls top positions → slice_get positions j ≡ Some q → q ≤ top
low top [] j q falls at = absurd cc
low top (p ∷ positions) zero q falls at = let same : p ≡ q = cc in omega (arith, same, falls.0)
low top (p ∷ positions) (suc j) q falls at = omega (arith, low p positions j q falls.1 at, falls.0)

never-rise : (top : ℕ) (positions : List ℕ) → Falls top positions → AreNonIncreasing positions
never-rise top [] falls i j p q less at_i at_j = absurd cc
never-rise top (x ∷ positions) falls zero zero p q less at_i at_j = absurd (omega (arith, less))
never-rise top (x ∷ positions) falls zero (suc j) p q less at_i at_j =
    let same : x ≡ p = cc in omega (arith, same, low x positions j q falls.1 at_j)
never-rise top (x ∷ positions) falls (suc i) zero p q less at_i at_j = absurd (omega (arith, less))
never-rise top (x ∷ positions) falls (suc i) (suc j) p q less at_i at_j = never-rise x positions falls.1 i j p q (omega (arith, less)) at_i at_j

-- ---- three calls under a rate of two at once: the third is held, and charged a second later

abbrev rl : List ℕ
rl = codes "rl"

abbrev two_at_once : RatePolicy
two_at_once = record { amount = 1; per = 1000; burst = 2; hold = true }

abbrev holding : Policy
holding = Rate two_at_once

abbrev rate_entry : Entry
rate_entry = new_entry rl 1 holding

abbrev attached_rate : Trace
attached_rate = Op (Attach 0 rl rl holding) ∷ []

abbrev three_taken : Trace
three_taken = Took (seven 3) ∷ Took (seven 2) ∷ Took (seven 1) ∷ attached_rate

abbrev charged_first : Trace
charged_first = Charged 1 rl 1000 ∷ three_taken

abbrev charged_second : Trace
charged_second = Charged 2 rl 0 ∷ charged_first

abbrev sent_first : Trace
sent_first = Sent 1 18 ∷ charged_second

abbrev sent_second : Trace
sent_second = Sent 2 18 ∷ sent_first

-- a millisecond before the level reaches the cost
abbrev held : Trace
held = Moment 999 ∷ sent_second

abbrev filled : Trace
filled = Moment 1000 ∷ sent_second

abbrev charged_third : Trace
charged_third = Charged 3 rl 0 ∷ filled

abbrev all_sent : Trace
all_sent = Sent 3 18 ∷ charged_third

level-first : level_in_trace rl three_taken ≡ 2000
level-first = refl

level-second : level_in_trace rl charged_first ≡ 1000
level-second = refl

level-held : level_in_trace rl held ≡ 999
level-held = refl

level-filled : level_in_trace rl filled ≡ 1000
level-filled = refl

moment-sent : timestamp sent_second ≡ 0
moment-sent = refl

was-charged : charged ≡ nothing → ⊥
was-charged e = cc

lets-first : IsAllowedInTrace under charged_second 1 rate_entry
lets-first = was_charged two_at_once refl was-charged refl

lets-second : IsAllowedInTrace under charged_second 2 rate_entry
lets-second = was_charged two_at_once refl was-charged refl

due-first : IsNotedAsDue under three_taken (Charged 1 rl 1000)
due-first = record {
  meets = record {
    entry = rate_entry;
    at = record { front = []; back = []; entries = refl; named = refl; is_pending = (0, omega arith, refl); allowed = All-nil _ };
    gives = charges two_at_once refl refl (omega (arith, level-first)) refl;
  };
  ascends = All-nil _;
}

due-second : IsNotedAsDue under charged_first (Charged 2 rl 0)
due-second = record {
  meets = record {
    entry = rate_entry;
    at = record { front = []; back = []; entries = refl; named = refl; is_pending = (1, omega arith, refl); allowed = All-nil _ };
    gives = charges two_at_once refl refl (omega (arith, level-second)) refl;
  };
  ascends = All-cons (λ other. other < 2) 1 [] (omega arith) (All-nil _);
}

due-third : IsNotedAsDue under filled (Charged 3 rl 0)
due-third = record {
  meets = record {
    entry = rate_entry;
    at = record { front = []; back = []; entries = refl; named = refl; is_pending = (0, omega arith, refl); allowed = All-nil _ };
    gives = charges two_at_once refl refl (omega (arith, level-filled)) refl;
  };
  ascends = All-cons (λ other. other < 3) 2 (1 ∷ []) (omega arith) (All-cons (λ other. other < 3) 1 [] (omega arith) (All-nil _));
}

sends-first : IsSentNext under charged_second 1 18
sends-first = record {
  call = seven 1;
  others = seven 2 ∷ seven 3 ∷ [];
  first = refl;
  number = refl;
  allowed = All-cons (IsAllowedInTrace under charged_second 1) rate_entry [] lets-first (All-nil _);
  sent = form_of 1;
  is_form = refl;
  long = long-7 1;
}

sends-second : IsSentNext under sent_first 2 18
sends-second = record {
  call = seven 2;
  others = seven 3 ∷ [];
  first = refl;
  number = refl;
  allowed = All-cons (IsAllowedInTrace under sent_first 2) rate_entry [] (was_charged two_at_once refl was-charged refl) (All-nil _);
  sent = form_of 2;
  is_form = refl;
  long = long-7 2;
}

sends-third : IsSentNext under charged_third 3 18
sends-third = record {
  call = seven 3;
  others = [];
  first = refl;
  number = refl;
  allowed = All-cons (IsAllowedInTrace under charged_third 3) rate_entry [] (was_charged two_at_once refl was-charged refl) (All-nil _);
  sent = form_of 3;
  is_form = refl;
  long = long-7 3;
}

prefix-taken : IsLegalPrefix under three_taken
prefix-taken = (
  (
    (
      (tt, may-attach under [] 0 rl holding refl (attached-first rl holding) tt tt),
      may-take under attached_rate (seven 1) refl (takes-7 attached_rate 1 refl (omega arith)) tt tt,
    ),
    may-take under (Took (seven 1) ∷ attached_rate) (seven 2) refl (takes-7 (Took (seven 1) ∷ attached_rate) 2 refl (omega arith)) tt tt,
  ),
  may-take under (Took (seven 2) ∷ Took (seven 1) ∷ attached_rate) (seven 3) refl
      (takes-7 (Took (seven 2) ∷ Took (seven 1) ∷ attached_rate) 3 refl (omega arith)) tt tt,
)

prefix-sent : IsLegalPrefix under sent_second
prefix-sent = (
  (
    ((prefix-taken, may-charge three_taken 1 1000 rl refl due-first tt tt), may-charge charged_first 2 0 rl refl due-second tt tt),
    may-send charged_second 1 refl sends-first tt tt,
  ),
  may-send sent_first 2 refl sends-second tt tt,
)

-- two calls are sent, and the third is pending
legal-held : IsLegalTrace under held
legal-held = record {
  prefix = (prefix-sent, may-pass sent_second 999 refl (omega (arith, moment-sent)) tt tt);
  closed = record { malformed = λ z. z; quota = λ z. z; link = λ link. absurd (let wrong : false ≡ true = link.failed in cc) };
}

-- a millisecond later the third is charged and sent
legal-all_sent : IsLegalTrace under all_sent
legal-all_sent = record {
  prefix = (
    (
      (prefix-sent, may-pass sent_second 1000 refl (omega (arith, moment-sent)) tt tt),
      may-charge filled 3 0 rl refl due-third tt tt,
    ),
    may-send charged_third 3 refl sends-third tt tt,
  );
  closed = record { malformed = λ z. z; quota = λ z. z; link = λ link. absurd (let wrong : false ≡ true = link.failed in cc) };
}

-- two calls were charged and are past the rate, and the third is before it
places-charged : AreLegalPositions under charged_second (1 ∷ 1 ∷ 0 ∷ [])
places-charged = record {
  each = (
    record { within = omega arith; allowed = All-cons (IsAllowedInTrace under charged_second 1) rate_entry [] lets-first (All-nil _) },
    (
      record { within = omega arith; allowed = All-cons (IsAllowedInTrace under charged_second 2) rate_entry [] lets-second (All-nil _) },
      (record { within = omega arith; allowed = All-nil _ }, tt),
    ),
  );
  never_rise = never-rise 1 (1 ∷ 1 ∷ 0 ∷ []) (omega arith, (omega arith, (omega arith, tt)));
}

-- the third call is before the rate, which holds it
places-held : AreLegalPositions under held (0 ∷ [])
places-held = record {
  each = (record { within = omega arith; allowed = All-nil _ }, tt);
  never_rise = never-rise 0 (0 ∷ []) (omega arith, tt);
}

in_only : {X : Type 0} (x y : X) (place : ℕ) → slice_get (x ∷ []) place ≡ Some y → x ≡ y
in_only x y zero at = cc
in_only x y (suc place) at = absurd cc

third-held : IsHeld under held (seven 3) 0 999 1000
third-held = record { entry = rate_entry; at = refl; holds = holds two_at_once refl refl (omega (arith, level-held)) refl refl }

settled-held : IsSettled under held (0 ∷ [])
settled-held = record {
  none_ready = All-cons (λ p. p < 1) 0 [] (omega arith) (All-nil _);
  held = λ call position head. (999, 1000, is_held call position head);
}
  where
    is_held : (call : AcceptedCall) (position : ℕ) → IsHead held (0 ∷ []) call position → IsHeld under held call position 999 1000
    is_held call position head =
        let calls : seven 3 ≡ call = in_only (seven 3) call head.place head.is_call in
        let positions : 0 ≡ position = in_only 0 position head.place head.at in
        subst (λ c. IsHeld under held c position 999 1000) calls (subst (λ p. IsHeld under held (seven 3) p 999 1000) positions third-held)

-- if the level reaches the cost, the rate holds no call
no-hold : (l cost : ℕ) → IsEntryAnswer holding 1000 1000 (form_of 3) nothing (hold l cost) → ⊥
no-hold l cost (allows p is lets e) = cc
no-hold l cost (denies p is refused e) = cc
no-hold l cost (was_charged r is noted e) = cc
no-hold l cost (charges r is none enough e) = cc
no-hold l cost (holds r is none few mode e) = let same : two_at_once ≡ r = cc in let cost : 1000 ≡ r.per = ap (λ (x : RatePolicy). x.per) same in omega (arith, cost, few)
no-hold l cost (refuses r is none few mode e) = cc
no-hold l cost (is_within t p cap ticket is was less e) = cc
no-hold l cost (is_over t p cap ticket is was more e) = cc
no-hold l cost (draws t p cap ticket is none e) = cc
no-hold l cost (was_counted is noted e) = cc
no-hold l cost (counts is none e) = cc
no-hold l cost (is_clear clears is same e) = cc
no-hold l cost (redacts clears is differs e) = cc

-- a second after the charges the third call can advance
unsettled-filled : IsSettled under filled (0 ∷ []) → ⊥
unsettled-filled settled = no-hold answer.0 answer.1 gives
  where
    head : IsHead filled (0 ∷ []) (seven 3) 0
    head = record { place = 0; is_call = refl; at = refl; first = λ i p less at. absurd (omega (arith, less)) }

    answer : (l : ℕ) × (cost : ℕ) × IsHeld under filled (seven 3) 0 l cost
    answer = settled.held (seven 3) 0 head

    entries : rate_entry ≡ answer.2.entry
    entries = let at = answer.2.at in cc

    gives : IsAnswerInTrace under filled rate_entry 3 (hold answer.0 answer.1)
    gives = subst (λ e. IsAnswerInTrace under filled e 3 (hold answer.0 answer.1)) (sym entries) answer.2.holds

-- after all calls were sent, none is pending, and nothing can advance
places-all_sent : AreLegalPositions under all_sent []
places-all_sent = record { each = tt; never_rise = never-rise 0 [] tt }

settled-all_sent : IsSettled under all_sent []
settled-all_sent = record { none_ready = All-nil _; held = λ call position head. absurd (let none = head.at in cc) }

-- ---- a rate of one at once that is detached and attached again: it charges the next call, and holds the third

abbrev one_at_once : Policy
one_at_once = Rate (record { amount = 1; per = 1000; burst = 1; hold = true })

abbrev attach_r1 : Happening
attach_r1 = Op (Attach 0 rl (codes "r1") one_at_once)

abbrev attached_again : Trace
attached_again = Sent 2 18 ∷ Charged 2 rl 0 ∷ attach_r1 ∷ Op (Detach rl) ∷ Sent 1 18 ∷ Charged 1 rl 0
    ∷ Took (seven 3) ∷ Took (seven 2) ∷ Took (seven 1) ∷ attach_r1 ∷ []

audit-attached_again : audit one_field (history_of attached_again) ≡ codes "op 1 attach 0 rl r1\ntook 1 1 0 0 2 1 1 copy 0807\n"
    ++ codes "took 1 2 0 0 2 1 1 copy 0807\ntook 1 3 0 0 2 1 1 copy 0807\ncharged 1 1 rl 0\nsent 1 1 18\n"
    ++ codes "op 1 detach rl\nop 1 attach 0 rl r1\ncharged 1 2 rl 0\nsent 1 2 18\n"
unfolding varint groups digits encode_with
audit-attached_again = refl

stands-attached_again : stands_line 1 3 0 rl (Some (record { level = 0; cost = 1000 })) ≡ codes "stands 1 3 0 rl held 0 1000\n"
unfolding digits
stands-attached_again = refl

-- ---- a counted call, and a policy that is attached after the count: the call is between them

abbrev c : List ℕ
c = codes "c"

abbrev d : List ℕ
d = codes "d"

abbrev closing : Policy
closing = Access (record { rules = []; allow = false })

abbrev then_closed : Trace
then_closed = Op (Attach 1 d d closing) ∷ Counted 1 c ∷ Took (seven 1) ∷ Op (Attach 0 c c Count) ∷ []

was-noted : counted ≡ nothing → ⊥
was-noted e = cc

places-counted : AreLegalPositions under then_closed (1 ∷ [])
places-counted = record {
  each = (
    record {
      within = omega arith;
      allowed = All-cons (IsAllowedInTrace under then_closed 1) (new_entry c 1 Count) [] (was_counted refl was-noted refl) (All-nil _);
    },
    tt,
  );
  never_rise = never-rise 1 (1 ∷ []) (omega arith, tt);
}

-- a drain has the policy judge it
abbrev closed_off : Trace
closed_off = Refused 1 (cause.Access d 1 (codes "default")) ∷ then_closed

audit-closed_off : audit one_field (history_of closed_off) ≡ codes "op 1 attach 0 c c\ntook 1 1 0 0 2 1 1 copy 0807\n"
    ++ codes "counted 1 1 c\nop 1 attach 1 d d\nrefused 1 1 access d 1 default\n"
unfolding varint groups digits encode_with
audit-closed_off = refl

-- ---- a field is cleared, and the policy before, which requires it, denies the call

abbrev acl : List ℕ
acl = codes "acl"

abbrev cut : List ℕ
cut = codes "cut"

abbrev need : Rule
need = record {
  name = codes "need";
  allow = true;
  about = OfCalls (record {
    method = 0;
    sort = Request;
    test = Some (record {
      path = record { way = []; number = 2; kind = Uint64; label = Plain };
      condition = Compares Equal (Number 9);
    });
  });
}

abbrev only_9 : AccessPolicy
only_9 = record { rules = need ∷ []; allow = false }

abbrev clears : List Clear
clears = record { method = 0; sort = Request; path = record { way = []; number = 2; kind = Uint64; label = Plain } } ∷ []

abbrev acl_entry : Entry
acl_entry = new_entry acl 1 (Access only_9)

abbrev cut_entry : Entry
cut_entry = new_entry cut 2 (Redact clears)

abbrev attached_acl : Trace
attached_acl = Op (Attach 0 acl acl (Access only_9)) ∷ []

abbrev attached_both : Trace
attached_both = Op (Attach 1 cut cut (Redact clears)) ∷ attached_acl

abbrev one_taken : Trace
one_taken = Took seven_nine ∷ attached_both

abbrev cleared : Trace
cleared = Redacted 1 cut 1 ∷ one_taken

abbrev by_default : Happening
by_default = Refused 1 (cause.Access acl 1 (codes "default"))

abbrev denied : Trace
denied = by_default ∷ cleared

acl-is-no-cut : Contains (acl ∷ []) cut → ⊥
acl-is-no-cut has = let same : 97 ≡ 99 = ap (λ (l : List ℕ). get_or l 0 0) (in_one acl cut has) in omega (arith, same)

attached-second : IsChainPreserved attached_acl (Op (Attach 1 cut cut (Redact clears)))
attached-second = record {
  free = λ refusal. free-attach (acl_entry ∷ []) 1 cut cut (Redact clears) refusal acl-is-no-cut (λ less. omega (arith, less)) (omega arith);
  effect = attaches 1 cut cut (Redact clears) (acl_entry ∷ []) [] refl refl refl refl;
}

lets-whole : IsAllowedInTrace under_two one_taken 1 acl_entry
lets-whole = allows only_9 refl refl refl

due-cleared : IsNotedAsDue under_two one_taken (Redacted 1 cut 1)
due-cleared = record {
  entry = cut_entry;
  at = record {
    front = acl_entry ∷ [];
    back = [];
    entries = refl;
    named = refl;
    is_pending = (0, omega arith, refl);
    allowed = All-cons (IsAllowedInTrace under_two one_taken 1) acl_entry [] lets-whole (All-nil _);
  };
  gives = redacts clears refl (λ same. cc) refl;
  present = refl;
}

may-clear : CanFollow under_two one_taken (Redacted 1 cut 1)
may-clear = record {
  numbered = tt;
  malformed = tt;
  chain_kept = tt;
  notes_due = due-cleared;
  drawn_refused = tt;
  in_order = tt;
  answered = tt;
  link_end = stands_open one_taken (Redacted 1 cut 1) refl tt;
}

may-deny : CanFollow under_two cleared by_default
may-deny = record {
  numbered = tt;
  malformed = tt;
  chain_kept = tt;
  notes_due = tt;
  drawn_refused = tt;
  in_order = tt;
  answered = record {
    entry = acl_entry;
    at = record { front = []; back = cut_entry ∷ []; entries = refl; named = refl; is_pending = (0, omega arith, refl); allowed = All-nil _ };
    present = refl;
    policy = only_9;
    is_policy = refl;
    place = 1;
    gives = denies only_9 refl refl refl;
    names = refl;
  };
  link_end = stands_open cleared by_default refl tt;
}

legal-denied : IsLegalTrace under_two denied
legal-denied = record {
  prefix = (
    (
      (
        (
          (tt, may-attach under_two [] 0 acl (Access only_9) refl (attached-first acl (Access only_9)) tt tt),
          may-attach under_two attached_acl 1 cut (Redact clears) refl attached-second tt tt,
        ),
        may-take under_two attached_both seven_nine refl
            (record { number = refl; few = omega arith; loads = omega arith; copy = (omega arith, normal-two) }) tt tt,
      ),
      may-clear,
    ),
    may-deny,
  );
  closed = record { malformed = λ z. z; quota = λ z. z; link = λ link. absurd (let wrong : false ≡ true = link.failed in cc) };
}

-- the call was before the redaction, and starts again after it
places-whole : AreLegalPositions under_two one_taken (1 ∷ [])
places-whole = record {
  each = (record { within = omega arith; allowed = All-cons (IsAllowedInTrace under_two one_taken 1) acl_entry [] lets-whole (All-nil _) }, tt);
  never_rise = never-rise 1 (1 ∷ []) (omega arith, tt);
}

places-cleared : AreLegalPositions under_two cleared (0 ∷ [])
places-cleared = record {
  each = (record { within = omega arith; allowed = All-nil _ }, tt);
  never_rise = never-rise 0 (0 ∷ []) (omega arith, tt);
}

settled-denied : IsSettled under_two denied []
settled-denied = record { none_ready = All-nil _; held = λ call position head. absurd (let none = head.at in cc) }

audit-denied : audit two_fields (history_of denied) ≡ codes "op 1 attach 0 acl acl\nop 1 attach 1 cut cut\n"
    ++ codes "took 1 1 0 0 2 2 2 copy 08071009\nredacted 1 1 cut 1\nrefused 1 1 access acl 1 default\n"
unfolding varint groups digits encode_with
audit-denied = refl
