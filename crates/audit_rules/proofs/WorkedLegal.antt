-- Small histories of one connection, worked out by hand: each is legal.
use Rattle.std.proofs.Common.{◌≡◌, ℕ, ◌+◌, ◌<◌, false, true, List, [], ◌∷◌, Contains, codes, length, get_or, arith, refl, ap, sym, ◌∙◌, Some}
use Rattle.std.proofs.lemmas.List.Elements.{All-cons, All-contains, All-nil}
use Rattle.mrpc_table.specs.Node.{Node, no_fields, field, one, number}
use Rattle.mrpc_table.specs.Normal.{IsNormal}
use Rattle.mrpc_table.specs.declared.call.Call.{Call}
use Rattle.mrpc_table.specs.declared.table.Kind.TheVariants.{Uint64}
use Rattle.mrpc_table.specs.declared.table.Label.TheVariants.{Plain}
use Rattle.mrpc_table.specs.declared.table.Table.{Table}
use Rattle.wire_base.specs.Encoding.{varint, groups}
use Rattle.frame_transport.specs.declared.format.TheConstants.{HEADER_LEN}
use Rattle.policy_access.specs.Verdict.{AccessPolicy}
use Rattle.policy_rate.specs.declared.rate.Rate.{Rate as RatePolicy}
use Rattle.engine_core.specs.Answers.{nothing, drawn, counted, charged, denies, was_charged, charges, is_within, is_over, draws, was_counted, counts}
use Rattle.engine_core.specs.Chains.{HasChanged, Entry, IsReasonToReject, Refusal, attaches, changed, detaches, detaches_none, names_of, new_entry, upgrades_none, is_taken, is_past, is_full, is_other}
use Rattle.engine_core.specs.declared.op.Op.TheVariants.{Attach, Detach}
use Rattle.engine_core.specs.declared.policy.Policy.{Policy}
use Rattle.engine_core.specs.declared.policy.Policy.TheVariants.{Access, Count, Quota, Rate}
use Rattle.call_history.specs.Trace.{Trace, has_failed, level_in_trace, pending_calls, taken}
use Rattle.call_history.specs.Legal.{IsLegalTrace, IsLegalPrefix}
use Rattle.call_history.specs.Rules.{IsEndedWithLink, IsLinkRefusal, IsAllowedInTrace, CanFollow, IsRefusedIfPastCap, IsMalformedRefusedAtOnce, JudgeContext, cap_of, payload}
use Rattle.call_history.specs.declared.happening.Cause.TheVariants as cause
use Rattle.call_history.specs.declared.happening.Happening.{Happening}
use Rattle.call_history.specs.declared.happening.Happening.TheVariants.{Took, Op, Charged, Drawn, Counted, Sent, Refused}
use Rattle.call_history.specs.declared.happening.AcceptedCall.{AcceptedCall}
use Rattle.call_history.specs.declared.happening.TookCopy.TheVariants.{Copy}

-- ---- requests with 7

abbrev table : Table
table = record {
  messages = record { name = codes "M"; fields = record { number = 1; name = codes "a"; kind = Uint64; label = Plain } ∷ []; oneofs = [] } ∷ [];
  enums = [];
  methods = record { service = codes "S"; name = codes "Get"; input = 0; output = 0 } ∷ [];
}

abbrev under : JudgeContext
under = record { conn = 1; table = table; limit = 1024 }

abbrev with_7 : Node
with_7 = field 1 (one (number 7)) no_fields

abbrev seven : ℕ → AcceptedCall
seven seq = record { seq = seq; method = 0; number = 0; addr = 2; after = 1; count = 1; copy = Copy with_7 }

abbrev form_of : ℕ → Call
form_of seq = record { conn = 1; seq = seq; method = 0; number = 0; tree = with_7 }

normal-7 : IsNormal table 0 with_7
normal-7 = record {
  fields = (omega arith, (record { number = 1; name = codes "a"; kind = Uint64; label = Plain }, refl, λ (e : 7 ≡ 0). omega (arith, e), omega arith), tt);
  oneofs = λ o. omega arith;
  depth = omega arith;
}

long-7 : (seq : ℕ) → 18 ≡ HEADER_LEN + length (payload table (form_of seq))
unfolding varint groups
long-7 seq = refl

-- the link hasn't failed
stands_open : (past : Trace) (next : Happening) → has_failed past ≡ false → IsLinkRefusal past next → IsEndedWithLink past next
stands_open past next live refusal = (λ failed. absurd (let wrong : false ≡ true = sym live ∙ failed in cc), refusal)

may-take : (past : Trace) (seq : ℕ) → has_failed past ≡ false → seq ≡ length (taken past) + 1 → length (pending_calls past) < 64
    → IsMalformedRefusedAtOnce past (Took (seven seq)) → IsRefusedIfPastCap past (Took (seven seq)) → CanFollow under past (Took (seven seq))
may-take past seq live next few malformed over = record {
  numbered = record { number = next; few = few; loads = omega arith; copy = (omega arith, normal-7) };
  malformed = malformed;
  chain_kept = tt;
  notes_due = tt;
  drawn_refused = over;
  in_order = tt;
  answered = tt;
  link_end = stands_open past (Took (seven seq)) live tt;
}

-- ---- operations

in_nothing : (name : List ℕ) → Contains [] name → ⊥
in_nothing name has = omega (arith, has.1)

in_one : (name other : List ℕ) → Contains (name ∷ []) other → name ≡ other
in_one name other has = All-contains (λ z. name ≡ z) (name ∷ []) other (All-cons (λ z. name ≡ z) name [] refl (All-nil _)) has

free-attach : (entries : List Entry) (at : ℕ) (name label : List ℕ) (policy : Policy) (refusal : Refusal)
    → (Contains (names_of entries) name → ⊥) → (length entries < at → ⊥) → length entries < 8
    → IsReasonToReject entries (Attach at name label policy) refusal → ⊥
free-attach entries at name label policy refusal none within few (detaches_none n is not r) = cc
free-attach entries at name label policy refusal none within few (upgrades_none n l p is not r) = cc
free-attach entries at name label policy refusal none within few (is_taken a n l p is some r) = let names : n ≡ name = cc in none (rw (← names) some)
free-attach entries at name label policy refusal none within few (is_past a n l p is past r) = let places : a ≡ at = cc in within (rw (← places) past)
free-attach entries at name label policy refusal none within few (is_full a n l p is full r) = omega (arith, full, few)
free-attach entries at name label policy refusal none within few (is_other n l p e is there named differs r) = cc

attached-first : (many : ℕ) (name label : List ℕ) (policy : Policy)
    → HasChanged (record { entries = []; attached = many }) (Attach 0 name label policy) (changed (Attach 0 name label policy) (record { entries = []; attached = many }))
attached-first many name label policy = record {
  free = λ refusal. free-attach [] 0 name label policy refusal (in_nothing name) (λ less. omega (arith, less)) (omega arith);
  effect = attaches 0 name label policy [] [] refl refl refl refl;
}

may-attach : (name label : List ℕ) (policy : Policy) → CanFollow under [] (Op (Attach 0 name label policy))
may-attach name label policy = record {
  numbered = tt;
  malformed = tt;
  chain_kept = attached-first 0 name label policy;
  notes_due = tt;
  drawn_refused = tt;
  in_order = tt;
  answered = tt;
  link_end = stands_open [] (Op (Attach 0 name label policy)) refl tt;
}

-- ---- a quota of one ticket

abbrev q : List ℕ
q = codes "q"

abbrev one_ticket : Policy
one_ticket = Quota 0 1000 1

abbrev two_taken : Trace
two_taken = Took (seven 2) ∷ Took (seven 1) ∷ Op (Attach 0 q q one_ticket) ∷ []

abbrev drawn_once : Trace
drawn_once = Drawn 1 q 0 0 ∷ two_taken

abbrev drawn_twice : Trace
drawn_twice = Drawn 2 q 0 1 ∷ drawn_once

abbrev over_cap : Trace
over_cap = Refused 2 (cause.Quota q 1 1) ∷ drawn_twice

one-cap : (policy : Policy) (cap : ℕ) → Some one_ticket ≡ Some policy → cap_of policy ≡ Some cap → 1 ≡ cap
one-cap policy cap is has =
    let same : one_ticket ≡ policy = cc in
    let caps : Some 1 ≡ Some cap = ap cap_of same ∙ has in cc

not-drawn : (ticket : ℕ) → nothing ≡ drawn ticket → ⊥
not-drawn ticket e = cc

may-draw_first : CanFollow under two_taken (Drawn 1 q 0 0)
may-draw_first = record {
  numbered = tt;
  malformed = tt;
  chain_kept = tt;
  notes_due = record {
    meets = record {
      entry = new_entry q 1 one_ticket;
      at = record { front = []; back = []; entries = refl; named = refl; is_pending = (0, omega arith, refl); allowed = All-nil _ };
      gives = draws 0 1000 1 0 refl not-drawn refl;
    };
    ascends = All-nil _;
  };
  drawn_refused = tt;
  in_order = tt;
  answered = tt;
  link_end = stands_open two_taken (Drawn 1 q 0 0) refl tt;
}

may-draw_second : CanFollow under drawn_once (Drawn 2 q 0 1)
may-draw_second = record {
  numbered = tt;
  malformed = tt;
  chain_kept = tt;
  notes_due = record {
    meets = record {
      entry = new_entry q 1 one_ticket;
      at = record { front = []; back = []; entries = refl; named = refl; is_pending = (1, omega arith, refl); allowed = All-nil _ };
      gives = draws 0 1000 1 1 refl not-drawn refl;
    };
    ascends = All-cons (λ other. other < 2) 1 [] (omega arith) (All-nil _);
  };
  drawn_refused = λ policy cap is has over. absurd (let caps = one-cap policy cap is has in omega (arith, caps, over));
  in_order = tt;
  answered = tt;
  link_end = stands_open drawn_once (Drawn 2 q 0 1) refl tt;
}

may-refuse_second : CanFollow under drawn_twice (Refused 2 (cause.Quota q 1 1))
may-refuse_second = record {
  numbered = tt;
  malformed = tt;
  chain_kept = tt;
  notes_due = tt;
  drawn_refused = λ policy cap is has over. ap (λ (n : ℕ). Refused 2 (cause.Quota q 1 n)) (one-cap policy cap is has);
  in_order = tt;
  answered = record {
    entry = new_entry q 1 one_ticket;
    at = record { front = []; back = []; entries = refl; named = refl; is_pending = (1, omega arith, refl); allowed = All-nil _ };
    gives = is_over 0 1000 1 1 refl refl (omega arith) refl;
  };
  link_end = stands_open drawn_twice (Refused 2 (cause.Quota q 1 1)) refl tt;
}

may-send_first : CanFollow under over_cap (Sent 1 18)
may-send_first = record {
  numbered = tt;
  malformed = tt;
  chain_kept = tt;
  notes_due = tt;
  drawn_refused = tt;
  in_order = record {
    call = seven 1;
    others = [];
    first = refl;
    number = refl;
    allowed = All-cons (IsAllowedInTrace under over_cap 1) (new_entry q 1 one_ticket) [] (is_within 0 1000 1 0 refl refl (omega arith) refl) (All-nil _);
    sent = form_of 1;
    is_form = refl;
    long = long-7 1;
  };
  answered = tt;
  link_end = stands_open over_cap (Sent 1 18) refl tt;
}

-- the second call's ticket is the cap: it is refused, and the first is sent
legal-quota : IsLegalTrace under (Sent 1 18 ∷ over_cap)
legal-quota = record {
  prefix = (
    (
      (
        (
          (
            ((tt, may-attach q q one_ticket), may-take (Op (Attach 0 q q one_ticket) ∷ []) 1 refl refl (omega arith) tt tt),
            may-take (Took (seven 1) ∷ Op (Attach 0 q q one_ticket) ∷ []) 2 refl refl (omega arith) tt tt,
          ),
          may-draw_first,
        ),
        may-draw_second,
      ),
      may-refuse_second,
    ),
    may-send_first,
  );
  closed = record { malformed = λ z. z; quota = λ z. z; link = λ link. absurd (let wrong : false ≡ true = link.failed in cc) };
}

-- ---- a counted call, and a policy that is attached after the count and denies the call

abbrev c : List ℕ
c = codes "c"

abbrev d : List ℕ
d = codes "d"

abbrev none_allowed : AccessPolicy
none_allowed = record { rules = []; allow = false }

abbrev closing : Policy
closing = Access none_allowed

abbrev one_counted : Trace
one_counted = Counted 1 c ∷ Took (seven 1) ∷ Op (Attach 0 c c Count) ∷ []

abbrev then_closed : Trace
then_closed = Op (Attach 1 d d closing) ∷ one_counted

may-count : CanFollow under (Took (seven 1) ∷ Op (Attach 0 c c Count) ∷ []) (Counted 1 c)
may-count = record {
  numbered = tt;
  malformed = tt;
  chain_kept = tt;
  notes_due = record {
    meets = record {
      entry = new_entry c 1 Count;
      at = record { front = []; back = []; entries = refl; named = refl; is_pending = (0, omega arith, refl); allowed = All-nil _ };
      gives = counts refl refl refl;
    };
    ascends = All-nil _;
  };
  drawn_refused = tt;
  in_order = tt;
  answered = tt;
  link_end = stands_open (Took (seven 1) ∷ Op (Attach 0 c c Count) ∷ []) (Counted 1 c) refl tt;
}

c-is-no-d : Contains (c ∷ []) d → ⊥
c-is-no-d has = let same : 99 ≡ 100 = ap (λ (l : List ℕ). get_or l 0 0) (in_one c d has) in omega (arith, same)

may-attach_second : CanFollow under one_counted (Op (Attach 1 d d closing))
may-attach_second = record {
  numbered = tt;
  malformed = tt;
  chain_kept = record {
    free = λ refusal. free-attach (new_entry c 1 Count ∷ []) 1 d d closing refusal c-is-no-d (λ less. omega (arith, less)) (omega arith);
    effect = attaches 1 d d closing (new_entry c 1 Count ∷ []) [] refl refl refl refl;
  };
  notes_due = tt;
  drawn_refused = tt;
  in_order = tt;
  answered = tt;
  link_end = stands_open one_counted (Op (Attach 1 d d closing)) refl tt;
}

was-noted : counted ≡ nothing → ⊥
was-noted e = cc

may-refuse_counted : CanFollow under then_closed (Refused 1 (cause.Access d 1 (codes "default")))
may-refuse_counted = record {
  numbered = tt;
  malformed = tt;
  chain_kept = tt;
  notes_due = tt;
  drawn_refused = tt;
  in_order = tt;
  answered = record {
    entry = new_entry d 2 closing;
    at = record {
      front = new_entry c 1 Count ∷ [];
      back = [];
      entries = refl;
      named = refl;
      is_pending = (0, omega arith, refl);
      allowed = All-cons (IsAllowedInTrace under then_closed 1) (new_entry c 1 Count) [] (was_counted refl was-noted refl) (All-nil _);
    };
    present = refl;
    policy = none_allowed;
    is_policy = refl;
    place = 0;
    gives = denies none_allowed refl refl refl;
    names = refl;
  };
  link_end = stands_open then_closed (Refused 1 (cause.Access d 1 (codes "default"))) refl tt;
}

legal-counted : IsLegalTrace under (Refused 1 (cause.Access d 1 (codes "default")) ∷ then_closed)
legal-counted = record {
  prefix = (
    ((((tt, may-attach c c Count), may-take (Op (Attach 0 c c Count) ∷ []) 1 refl refl (omega arith) tt tt), may-count), may-attach_second),
    may-refuse_counted,
  );
  closed = record { malformed = λ z. z; quota = λ z. z; link = λ link. absurd (let wrong : false ≡ true = link.failed in cc) };
}

-- ---- a rate that is detached and attached again: its bucket is full

abbrev rl : List ℕ
rl = codes "rl"

abbrev r1 : List ℕ
r1 = codes "r1"

abbrev one_at_once : RatePolicy
one_at_once = record { amount = 1; per = 1000; burst = 1; hold = true }

abbrev holding : Policy
holding = Rate one_at_once

abbrev three_taken : Trace
three_taken = Took (seven 3) ∷ Took (seven 2) ∷ Took (seven 1) ∷ Op (Attach 0 rl r1 holding) ∷ []

abbrev charged_first : Trace
charged_first = Charged 1 rl 0 ∷ three_taken

abbrev sent_first : Trace
sent_first = Sent 1 18 ∷ charged_first

abbrev detached : Trace
detached = Op (Detach rl) ∷ sent_first

abbrev again : Trace
again = Op (Attach 0 rl r1 holding) ∷ detached

abbrev charged_second : Trace
charged_second = Charged 2 rl 0 ∷ again

level-first : level_in_trace rl three_taken ≡ 1000
level-first = refl

level-again : level_in_trace rl again ≡ 1000
level-again = refl

may-charge_first : CanFollow under three_taken (Charged 1 rl 0)
may-charge_first = record {
  numbered = tt;
  malformed = tt;
  chain_kept = tt;
  notes_due = record {
    meets = record {
      entry = new_entry rl 1 holding;
      at = record { front = []; back = []; entries = refl; named = refl; is_pending = (0, omega arith, refl); allowed = All-nil _ };
      gives = charges one_at_once refl refl (omega (arith, level-first)) refl;
    };
    ascends = All-nil _;
  };
  drawn_refused = tt;
  in_order = tt;
  answered = tt;
  link_end = stands_open three_taken (Charged 1 rl 0) refl tt;
}

may-charge_second : CanFollow under again (Charged 2 rl 0)
may-charge_second = record {
  numbered = tt;
  malformed = tt;
  chain_kept = tt;
  notes_due = record {
    meets = record {
      entry = new_entry rl 2 holding;
      at = record { front = []; back = []; entries = refl; named = refl; is_pending = (0, omega arith, refl); allowed = All-nil _ };
      gives = charges one_at_once refl refl (omega (arith, level-again)) refl;
    };
    ascends = All-nil _;
  };
  drawn_refused = tt;
  in_order = tt;
  answered = tt;
  link_end = stands_open again (Charged 2 rl 0) refl tt;
}

was-charged : charged ≡ nothing → ⊥
was-charged e = cc

may-send_charged : CanFollow under charged_first (Sent 1 18)
may-send_charged = record {
  numbered = tt;
  malformed = tt;
  chain_kept = tt;
  notes_due = tt;
  drawn_refused = tt;
  in_order = record {
    call = seven 1;
    others = seven 2 ∷ seven 3 ∷ [];
    first = refl;
    number = refl;
    allowed = All-cons (IsAllowedInTrace under charged_first 1) (new_entry rl 1 holding) [] (was_charged one_at_once refl was-charged refl) (All-nil _);
    sent = form_of 1;
    is_form = refl;
    long = long-7 1;
  };
  answered = tt;
  link_end = stands_open charged_first (Sent 1 18) refl tt;
}

may-send_second : CanFollow under charged_second (Sent 2 18)
may-send_second = record {
  numbered = tt;
  malformed = tt;
  chain_kept = tt;
  notes_due = tt;
  drawn_refused = tt;
  in_order = record {
    call = seven 2;
    others = seven 3 ∷ [];
    first = refl;
    number = refl;
    allowed = All-cons (IsAllowedInTrace under charged_second 2) (new_entry rl 2 holding) [] (was_charged one_at_once refl was-charged refl) (All-nil _);
    sent = form_of 2;
    is_form = refl;
    long = long-7 2;
  };
  answered = tt;
  link_end = stands_open charged_second (Sent 2 18) refl tt;
}

free-detach : (refusal : Refusal) → IsReasonToReject (new_entry rl 1 holding ∷ []) (Detach rl) refusal → ⊥
free-detach refusal (detaches_none n is not r) = let names : n ≡ rl = cc in not (rw names (0, omega arith, refl))
free-detach refusal (upgrades_none n l p is not r) = cc
free-detach refusal (is_taken a n l p is some r) = cc
free-detach refusal (is_past a n l p is past r) = cc
free-detach refusal (is_full a n l p is full r) = cc
free-detach refusal (is_other n l p e is there named differs r) = cc

may-detach : CanFollow under sent_first (Op (Detach rl))
may-detach = record {
  numbered = tt;
  malformed = tt;
  chain_kept = record { free = free-detach; effect = detaches rl (new_entry rl 1 holding) [] [] refl refl refl refl };
  notes_due = tt;
  drawn_refused = tt;
  in_order = tt;
  answered = tt;
  link_end = stands_open sent_first (Op (Detach rl)) refl tt;
}

may-attach_again : CanFollow under detached (Op (Attach 0 rl r1 holding))
may-attach_again = record {
  numbered = tt;
  malformed = tt;
  chain_kept = attached-first 1 rl r1 holding;
  notes_due = tt;
  drawn_refused = tt;
  in_order = tt;
  answered = tt;
  link_end = stands_open detached (Op (Attach 0 rl r1 holding)) refl tt;
}

prefix-taken : IsLegalPrefix under three_taken
prefix-taken = (
  (
    ((tt, may-attach rl r1 holding), may-take (Op (Attach 0 rl r1 holding) ∷ []) 1 refl refl (omega arith) tt tt),
    may-take (Took (seven 1) ∷ Op (Attach 0 rl r1 holding) ∷ []) 2 refl refl (omega arith) tt tt,
  ),
  may-take (Took (seven 2) ∷ Took (seven 1) ∷ Op (Attach 0 rl r1 holding) ∷ []) 3 refl refl (omega arith) tt tt,
)

-- the second call is charged again, and the third is pending
legal-again : IsLegalTrace under (Sent 2 18 ∷ charged_second)
legal-again = record {
  prefix = ((((((prefix-taken, may-charge_first), may-send_charged), may-detach), may-attach_again), may-charge_second), may-send_second);
  closed = record { malformed = λ z. z; quota = λ z. z; link = λ link. absurd (let wrong : false ≡ true = link.failed in cc) };
}
