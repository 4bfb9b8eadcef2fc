-- The definitions, evaluated on small scripts that were worked out by hand.
use Rattle.std.proofs.Common.{◌≡◌, ℕ, ◌+◌, ◌<◌, ◌^◌, true, false, List, [], ◌∷◌, ◌++◌, codes, length, refl, ap, arith}
use Rattle.std.specs.Prelude.{Contains, Some, None, get_or, map, reverse}
use Rattle.std.specs.List.{range_with_len}
use Rattle.std.specs.Fmt.{digits}
use Rattle.mrpc_base.specs.Heap.{word_after}
use Rattle.mrpc_table.specs.Node.{Node, no_fields, field, one, number}
use Rattle.mrpc_table.specs.Normal.{IsNormal}
use Rattle.mrpc_table.specs.declared.call.Call.{Call}
use Rattle.mrpc_table.specs.declared.table.Field.{Field}
use Rattle.mrpc_table.specs.declared.table.Kind.TheVariants.{Uint64}
use Rattle.mrpc_table.specs.declared.table.Label.TheVariants.{Plain}
use Rattle.mrpc_table.specs.declared.table.Table.{Table}
use Rattle.wire_base.specs.Encoding.{varint, groups}
use Rattle.policy_rate.specs.declared.rate.Rate.{Rate as RatePolicy}
use Rattle.engine_core.specs.Answers as answers
use Rattle.engine_core.specs.Chains.{Entry, IsReasonToReject, Refusal, new_entry, detaches_none, upgrades_none, is_taken, is_past, is_full, is_other}
use Rattle.engine_core.specs.Chains as chains
use Rattle.engine_core.specs.Turns as turns
use Rattle.engine_core.specs.declared.op.Op.TheVariants.{Attach}
use Rattle.engine_core.specs.declared.outcome.Noted.TheVariants as notes
use Rattle.engine_core.specs.declared.outcome.Outcome.TheVariants as outcomes
use Rattle.engine_core.specs.declared.policy.Policy.TheVariants.{Quota, Rate}
use Rattle.frame_transport.specs.declared.format.TheConstants.{HEADER_LEN}
use Rattle.graph_form.specs.Malformed.{is_copied as comes_copied}
use Rattle.graph_form.specs.Placed.{Placed, nothing as no_words, first, word, IsValidWord, IsSound}
use Rattle.graph_form.specs.Roles.{value}
use Rattle.graph_form.specs.declared.reason.Reason.TheVariants.{Address, Presence, Case, Length, Utf8, Narrow, Depth, Loads as TooMany, NoMethod}
use Rattle.replay_script.specs.declared.script.ScriptLine.TheVariants as line
use Rattle.replay_script.specs.declared.script.Script.{Script}
use Rattle.call_history.specs.Trace.{Trace}
use Rattle.call_history.specs.Draining.{at_rest, is_idle as has_none, goes, is_over, next, none, one as sends_one}
use Rattle.call_history.specs.Transitions.{ConnState, initial_state, takes, is_away as turned_away, changes, rises, has_turn as comes_round, is_sent as goes_out, link_failed}
use Rattle.call_history.specs.Legal.{History}
use Rattle.call_history.specs.Loads.{IsLoaded, is_copied}
use Rattle.call_history.specs.Rules.{payload}
use Rattle.call_history.specs.declared.happening.Cause.TheVariants as cause
use Rattle.call_history.specs.declared.happening.ConnectionEvent.{ConnectionEvent}
use Rattle.call_history.specs.declared.happening.Happening.{Happening}
use Rattle.call_history.specs.declared.happening.Happening.TheVariants.{Took, Away, Op, Moment, Charged, Drawn, Sent, Refused}
use Rattle.call_history.specs.declared.happening.AcceptedCall.{AcceptedCall}
use Rattle.call_history.specs.declared.happening.TookCopy.TheVariants.{Copy}
use Rattle.replay_run.specs.Follows.{OpenConnection, start, new_connection, IsLineEffect, stores, races, submits, is_away, operates_on}
use Rattle.replay_run.specs.Follows.{advances_clock, is_idle, has_turn, none_ready, is_sent, drains, IsSendFailure, by_send}
use Rattle.replay_run.specs.Follows.{by_drain, IsLineStep, IsScriptStep, opens, advances}
use Rattle.connection_audit.specs.Pending.{holding, queue_name}
use Rattle.replay_run.specs.PendingLines.{stands_lines_on}
use Rattle.replay_run.specs.Tickets.{tickets, AreConsecutive}

-- a message with one number, and a method that takes it
abbrev number_field : Field
number_field = record { number = 1; name = codes "a"; kind = Uint64; label = Plain }

abbrev table : Table
table = record {
  messages = record { name = codes "M"; fields = number_field ∷ []; oneofs = [] } ∷ [];
  enums = [];
  methods = record { service = codes "S"; name = codes "Get"; input = 0; output = 0 } ∷ [];
}

abbrev rl : List ℕ
rl = codes "rl"

abbrev q : List ℕ
q = codes "q"

abbrev rate : RatePolicy
rate = record { amount = 1; per = 1000; burst = 2; hold = true }

abbrev script : Script
script = record {
  loads = 1024;
  table = table;
  declared = record {
    tenants = record { name = codes "t"; per = 1000 } ∷ [];
    policies = record { name = rl; policy = Rate rate } ∷ record { name = q; policy = Quota 0 1000 1 } ∷ [];
  };
  lines = [];
}

abbrev with_number : ℕ → Node
with_number v = field 1 (one (number v)) no_fields

abbrev seven : (seq after : ℕ) → AcceptedCall
seven seq after =
    record { seq = seq; method = 0; number = 0; addr = 2; after = after; count = 1; copy = Copy (with_number 7) }

abbrev form_of : ℕ → Call
form_of seq = record { conn = 1; seq = seq; method = 0; number = 0; tree = with_number 7 }

-- a connection with a heap of 16 words, in which 7 was stored at place 2
abbrev at_course : (loads : List (ℕ × ℕ)) → ConnState → OpenConnection
at_course loads c =
    record { conn = 1; words = 16; stores = (2, 7) ∷ []; races = []; loads = loads; course = c }

-- ---- a connection is opened, and words are stored

opened : IsScriptStep script start (line.Conn 1 16) (record { opened = new_connection 1 16 ∷ []; history = [] })
opened = opens 1 16 refl refl

stored : IsLineEffect script (line.Store 1 2 7) (new_connection 1 16) (at_course [] initial_state)
stored = stores 2 7 refl refl

-- races of one load stay in order, and that of an earlier load comes before them
abbrev racing : List (ℕ × ℕ × ℕ) → OpenConnection
racing waiting = record {
  conn = 1;
  words = 16;
  stores = [];
  races = map (λ r. record { load = r.0; place = r.1; value = r.2 }) waiting;
  loads = [];
  course = initial_state;
}

raced : IsLineEffect script (line.Race 1 1 2 5) (racing ((2, 2, 3) ∷ [])) (racing ((1, 2, 5) ∷ (2, 2, 3) ∷ []))
raced = races 1 2 5 refl refl

raced_behind : IsLineEffect script (line.Race 1 2 3 9) (racing ((2, 2, 3) ∷ (4, 2, 1) ∷ [])) (racing ((2, 2, 3) ∷ (2, 3, 9) ∷ (4, 2, 1) ∷ []))
raced_behind = races 2 3 9 refl refl

-- ---- an operator's line

abbrev attaching : Happening
attaching = Op (Attach 0 rl rl (Rate rate))

abbrev attached : ConnState
attached = record { past = attaching ∷ []; row = []; ended = false }

none-in : {X : Type 0} (x : X) → Contains [] x → ⊥
none-in x has = omega (arith, has.1)

free : (refusal : Refusal) → IsReasonToReject [] (Attach 0 rl rl (Rate rate)) refusal → ⊥
free refusal (detaches_none n is not r) = cc
free refusal (upgrades_none n l p is not r) = cc
free refusal (is_taken a n l p is some r) = none-in n some
free refusal (is_past a n l p is past r) = let places : a ≡ 0 = cc in omega (arith, places, past)
free refusal (is_full a n l p is full r) = omega (arith, full)
free refusal (is_other n l p e is there named differs r) = none-in e there

operated : IsLineEffect script (line.Attach 1 0 rl 0) (at_course [] initial_state) (at_course [] attached)
operated = operates_on (Attach 0 rl rl (Rate rate)) attached refl (changes _ refl (record { free = free; effect = chains.attaches 0 rl rl (Rate rate) [] [] refl refl refl refl }) refl) refl

-- the new events come last, on their connection
stands_behind : IsLineStep (record { opened = at_course [] initial_state ∷ []; history = [] }) (at_course [] initial_state) (at_course [] attached)
    (record { opened = at_course [] attached ∷ []; history = record { conn = 1; what = attaching } ∷ [] })
stands_behind = record { front = []; back = []; before = refl; after = refl; piece = attaching ∷ []; past = refl; history = refl }

whole_step : IsScriptStep script (record { opened = at_course [] initial_state ∷ []; history = [] }) (line.Attach 1 0 rl 0)
    (record { opened = at_course [] attached ∷ []; history = record { conn = 1; what = attaching } ∷ [] })
whole_step = advances (at_course [] initial_state) (at_course [] attached) refl operated stands_behind

-- ---- a submission

normal_number : IsNormal table 0 (with_number 7)
normal_number = record {
  fields = (omega arith, (number_field, refl, (λ (e : 7 ≡ 0). omega (arith, e)), omega arith), tt);
  oneofs = λ o. omega arith;
  depth = omega arith;
}

fine : (v : ℕ) → v < 2 ^ 64 → IsValidWord table 16 (value Uint64) v
fine v small Address offends = offends
fine v small Presence offends = offends
fine v small Case offends = offends
fine v small Length offends = offends
fine v small Utf8 offends = offends
fine v small Narrow offends = offends small
fine v small Depth offends = offends
fine v small TooMany offends = offends
fine v small NoMethod offends = offends

abbrev placed : Placed
placed = first (word 2 7 no_words) no_words

sound : IsSound table 16 0 2 placed
sound = record { root = record { from_one = omega arith; to_end = omega arith }; words = (refl, omega arith, fine 7 (omega arith), tt, tt) }

loaded : (seq after : ℕ) → IsLoaded table 16 1024 (seven seq after) ((2, 7) ∷ [])
loaded seq after = record { taken = is_copied (with_number 7) (omega arith) (comes_copied placed sound refl (omega arith) refl) refl; counted = refl }

abbrev one_stands : ConnState
one_stands = record { past = Took (seven 1 1) ∷ attaching ∷ []; row = (1, 0) ∷ []; ended = false }

taken_first : IsLineEffect script (line.Submit 1 0 0 2) (at_course [] attached) (at_course ((2, 7) ∷ []) one_stands)
unfolding word_after
taken_first =
    submits (seven 1 1) ((2, 7) ∷ []) one_stands refl refl (refl, tt) (loaded 1 1)
    (takes (seven 1 1) refl refl (record { number = refl; few = omega arith; loads = omega arith; copy = (omega arith, normal_number) }) refl) refl

-- a race before its first load is seen, and one after its last isn't
abbrev with_races : OpenConnection
with_races = record {
  conn = 1;
  words = 16;
  stores = (2, 150) ∷ [];
  races = record { load = 1; place = 2; value = 7 } ∷ record { load = 2; place = 2; value = 9 } ∷ [];
  loads = [];
  course = initial_state;
}

abbrev behind_races : OpenConnection
behind_races = record {
  conn = 1;
  words = 16;
  stores = (2, 150) ∷ (2, 7) ∷ (2, 9) ∷ [];
  races = [];
  loads = (2, 7) ∷ [];
  course = record { past = Took (seven 1 1) ∷ []; row = (1, 0) ∷ []; ended = false };
}

taken_racing : IsLineEffect script (line.Submit 1 0 0 2) with_races behind_races
unfolding word_after
taken_racing =
    submits (seven 1 1) ((2, 7) ∷ []) (record { past = Took (seven 1 1) ∷ []; row = (1, 0) ∷ []; ended = false }) refl refl (refl, tt) (loaded 1 1)
    (takes (seven 1 1) refl refl (record { number = refl; few = omega arith; loads = omega arith; copy = (omega arith, normal_number) }) refl) refl

-- ---- while 64 calls are pending, a submission loads nothing, and its races are made

abbrev many : ConnState
many = record {
  past = map (λ seq. Took (seven seq 1)) (reverse (range_with_len 1 64));
  row = map (λ seq. (seq, 0)) (range_with_len 1 64);
  ended = false;
}

abbrev away_from : ConnState
away_from = record many { past = Away 0 0 2 ∷ many.past }

away : IsLineEffect script (line.Submit 1 0 0 2)
    (record { conn = 1; words = 16; stores = (2, 7) ∷ []; races = record { load = 1; place = 3; value = 4 } ∷ []; loads = []; course = many })
    (record { conn = 1; words = 16; stores = (2, 7) ∷ (3, 4) ∷ []; races = []; loads = []; course = away_from })
away = is_away 0 0 2 away_from refl (turned_away 0 0 2 refl refl refl) refl

-- ---- a timestamp

shown : IsLineEffect script (line.Moment 1 999) (at_course [] attached) (at_course [] (record attached { past = Moment 999 ∷ attached.past }))
shown = advances_clock 999 _ refl (rises 999 refl (omega arith) refl) refl

-- ---- turns and sends

abbrev rate_entry : Entry
rate_entry = new_entry rl 1 (Rate rate)

abbrev one_charged : ConnState
one_charged = record { past = Charged 1 rl 1000 ∷ one_stands.past; row = (1, 1) ∷ []; ended = false }

turned : IsLineEffect script (line.Turn 1 0) (at_course [] one_stands) (at_course [] one_charged)
turned =
    has_turn 0 1 (outcomes.Passed (notes.Charged 1000)) one_charged refl
    (comes_round 0 1 (outcomes.Passed (notes.Charged 1000)) rate_entry refl
    (record {
      entry = refl;
      first = refl;
      call = form_of 1;
      is_form = refl;
      comes = turns.is_noted_and_passes (notes.Charged 1000) (answers.charges rate refl refl (omega arith) refl)
          (answers.was_charged rate refl (λ none. cc) refl) refl;
    })
    refl)
    refl

idle : IsLineEffect script (line.Turn 1 0) (at_course [] one_charged) (at_course [] one_charged)
idle = is_idle 0 refl refl refl

long-7 : (seq : ℕ) → 18 ≡ HEADER_LEN + length (payload table (form_of seq))
unfolding varint groups
long-7 seq = refl

abbrev one_sent : ConnState
one_sent = record { past = Sent 1 18 ∷ one_charged.past; row = []; ended = false }

sent : IsLineEffect script (line.Send 1) (at_course [] one_charged) (at_course [] one_sent)
sent = is_sent 1 18 one_sent refl (goes_out 1 18 refl refl (record { first = refl; sent = form_of 1; is_form = refl; long = long-7 1 }) refl) refl

nothing_sent : IsLineEffect script (line.Send 1) (at_course [] one_stands) (at_course [] one_stands)
nothing_sent = none_ready refl refl refl

-- ---- a drain: the call is charged and sent

drained : IsLineEffect script (line.Drain 1) (at_course [] one_stands) (at_course [] one_sent)
drained =
    drains one_sent refl
    (record {
      begins = record {
        between = one_charged;
        passes = next 0 one_stands one_charged one_charged (omega arith)
            (goes one_stands one_charged at_rest 1 (outcomes.Passed (notes.Charged 1000)) rate_entry
            (record {
              entry = refl;
              first = refl;
              call = form_of 1;
              is_form = refl;
              comes = turns.is_noted_and_passes (notes.Charged 1000) (answers.charges rate refl refl (omega arith) refl)
                  (answers.was_charged rate refl (λ none. cc) refl) refl;
            })
            tt (has_none one_charged refl))
            (is_over 1 one_charged refl);
        sent = sends_one one_charged one_sent one_sent 1 18 (goes_out 1 18 refl refl (record { first = refl; sent = form_of 1; is_form = refl; long = long-7 1 }) refl) (none one_sent);
      };
      none_ready = refl;
    })
    refl

-- ---- a send that fails: the pending calls are refused

abbrev three : Trace
three = Took (seven 3 1) ∷ Took (seven 2 1) ∷ Took (seven 1 1) ∷ []

abbrev three_stand : ConnState
three_stand = record { past = three; row = (1, 0) ∷ (2, 0) ∷ (3, 0) ∷ []; ended = false }

abbrev one_gone : ConnState
one_gone = record { past = Sent 1 18 ∷ three; row = (2, 0) ∷ (3, 0) ∷ []; ended = false }

abbrev failed : ConnState
failed = record { past = Refused 3 cause.Transport ∷ Refused 2 cause.Transport ∷ Sent 1 18 ∷ three; row = []; ended = true }

failed_drain : IsSendFailure script (line.Drain 1) (at_course [] three_stand) (form_of 2) (at_course [] failed)
failed_drain = record {
  at = one_gone;
  gets = by_drain refl (record {
    between = three_stand;
    passes = is_over 0 three_stand refl;
    sent = sends_one three_stand one_gone one_gone 1 18 (goes_out 1 18 refl refl (record { first = refl; sent = form_of 1; is_form = refl; long = long-7 1 }) refl) (none one_gone);
  });
  seq = 2;
  bytes = 18;
  ready = record { first = refl; sent = form_of 2; is_form = refl; long = long-7 2 };
  is_tried = refl;
  refused = link_failed refl refl;
  same = refl;
}

failed_send : IsSendFailure script (line.Send 1) (at_course [] one_gone) (form_of 2) (at_course [] failed)
failed_send = record {
  at = one_gone;
  gets = by_send refl refl;
  seq = 2;
  bytes = 18;
  ready = record { first = refl; sent = form_of 2; is_form = refl; long = long-7 2 };
  is_tried = refl;
  refused = link_failed refl refl;
  same = refl;
}

-- ---- the lines of pending calls

-- two of three calls were charged and sent; the third is held at a level of 999
abbrev held : ConnState
held = record {
  past = Moment 999 ∷ Sent 2 18 ∷ Sent 1 18 ∷ Charged 2 rl 0 ∷ Charged 1 rl 1000 ∷ three ++ attaching ∷ [];
  row = (3, 0) ∷ [];
  ended = false;
}

told_held : holding held (3, 0) ≡ Some (record { level = 999; cost = 1000 })
told_held = refl

told_name : queue_name held 0 ≡ rl
told_name = refl

-- a call after another one isn't held itself
told_behind : holding (record held { row = (2, 0) ∷ (3, 0) ∷ [] }) (3, 0) ≡ None
told_behind = refl

-- nor is one that was charged
told_charged : holding (record one_stands { past = Charged 1 rl 0 ∷ one_stands.past }) (1, 0) ≡ None
told_charged = refl

told_text : stands_lines_on (at_course [] held) ≡ codes "stands 1 3 0 rl held 999 1000\n"
unfolding digits
told_text = refl

told_transport : queue_name one_charged 1 ≡ codes "-"
told_transport = refl

-- ---- tickets are drawn in turn, whichever connection draws

abbrev quota : Happening
quota = Op (Attach 0 q q (Quota 0 1000 1))

abbrev on : ℕ → Happening → ConnectionEvent
on conn what = record { conn = conn; what = what }

abbrev two_draw : (first second : ℕ) → History
two_draw a b = on 1 quota ∷ on 2 quota ∷ on 2 (Drawn 1 q 0 a) ∷ on 1 (Drawn 1 q 0 b) ∷ []

drawn_both : tickets 0 0 (two_draw 0 1) ≡ 0 ∷ 1 ∷ []
drawn_both = refl

drawn_elsewhere : tickets 1 0 (two_draw 0 1) ≡ []
drawn_elsewhere = refl

drawn_later : tickets 0 1 (two_draw 0 1) ≡ []
drawn_later = refl

not_twice : AreConsecutive (two_draw 0 0) → ⊥
not_twice turn =
    let second : 0 ≡ 1 = ap (λ xs. get_or xs 1 0) (turn 0 0) in omega (arith, second)
