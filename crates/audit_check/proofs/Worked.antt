-- The audit of a small run, checked by hand: a policy denies a call with 150.
use Rattle.std.proofs.Common.{◌≡◌, ◌≢◌, ℕ, ◌<◌, ◌≤◌, false, true, List, [], ◌∷◌, Contains, codes, arith, refl, ap, sym, subst, ◌∙◌, inl, inr, Some, None}
use Rattle.std.specs.Prelude.{map, slice_get, ◌↔◌}
use Rattle.std.specs.Fmt.{digits}
use Rattle.std.proofs.lemmas.Bool.Decides.{eqb_tells}
use Rattle.std.proofs.lemmas.List.Elements.{All-head, All-nil}
use Rattle.mrpc_table.specs.Node.{Node, no_fields, field, one, number}
use Rattle.mrpc_table.specs.Normal.{IsNormal}
use Rattle.mrpc_table.specs.declared.call.Call.{Call}
use Rattle.mrpc_table.specs.declared.call.CallKind.TheVariants.{Request}
use Rattle.mrpc_table.specs.declared.table.Kind.TheVariants.{Uint64}
use Rattle.mrpc_table.specs.declared.table.Label.TheVariants.{Plain}
use Rattle.mrpc_table.specs.declared.table.Table.{Table}
use Rattle.policy_access.specs.Verdict.{AccessPolicy, verdict}
use Rattle.policy_access.specs.declared.rule.CallSelector.TheVariants.{Calls as OfCalls}
use Rattle.policy_access.specs.declared.rule.Comparison.TheVariants.{Equal}
use Rattle.policy_access.specs.declared.rule.Condition.TheVariants.{Compares}
use Rattle.policy_access.specs.declared.rule.Operand.TheVariants.{Number}
use Rattle.graph_form.specs.declared.reason.Reason.TheVariants.{NoMethod}
use Rattle.engine_core.specs.Answers.{IsEntryAnswer, Past, nothing, pass, allows, denies, was_charged, charges, holds, refuses, is_within, is_over, draws, was_counted, counts, is_clear, redacts}
use Rattle.engine_core.specs.Chains.{HasChanged, Entry, IsReasonToReject, Refusal, attaches, changed, detaches_none, new_entry, upgrades_none, is_taken, is_past, is_full, is_other}
use Rattle.engine_core.specs.declared.op.Op.{Op as Step}
use Rattle.engine_core.specs.declared.op.Op.TheVariants.{Attach}
use Rattle.engine_core.specs.declared.policy.Policy.{Policy}
use Rattle.engine_core.specs.declared.policy.Policy.TheVariants.{Access}
use Rattle.call_history.specs.Trace.{Trace, pending_calls}
use Rattle.call_history.specs.Legal.{History, IsLegal, IsLegalTrace, IsLegalPrefix, trace_of}
use Rattle.call_history.specs.Rules.{IsDenied, IsAllowedInTrace, CanFollow, JudgeContext}
use Rattle.call_history.specs.declared.happening.Cause.TheVariants as cause
use Rattle.call_history.specs.declared.happening.ConnectionEvent.{ConnectionEvent}
use Rattle.call_history.specs.declared.happening.Happening.{Happening}
use Rattle.call_history.specs.declared.happening.Happening.TheVariants.{Took, Op, Sent, Refused}
use Rattle.call_history.specs.declared.happening.AcceptedCall.{AcceptedCall}
use Rattle.call_history.specs.declared.happening.TookCopy.TheVariants.{Copy, Malformed}
use Rattle.audit_text.specs.Lines.{audit, transport}
use Rattle.audit_rules.specs.BrokenRules.{HasObligationOf, IsRuleKept, rule_rank}
use Rattle.audit_rules.specs.PendingLines.{IsNextPending}
use Rattle.audit_rules.specs.declared.rule.Rule.{Rule}
use Rattle.audit_rules.specs.declared.rule.Rule.TheVariants.{A, B, C, D, E, F, G, Stands}
use Rattle.audit_check.specs.Checking.{AreAllPending, AreLegalPrefixes, AreAllListed, CallName, IsCheckOfHistory, MayBeListed, StandsLine}
use Rattle.audit_check.specs.Checking.{AreNextPending, broken, legal, bytes_of_all_stands, lines_on, misplaced, context_on, open_end}
use Rattle.audit_check.specs.declared.checked.Checked.TheVariants.{Illegal, Legal}
use Rattle.audit_check.proofs.Calls.{in_first, in_one}
use Rattle.audit_check.proofs.Known.{behind-other}
use Rattle.audit_check.proofs.Opens.{nothing_settled}

-- ---- the events

abbrev table : Table
table = record {
  messages = record { name = codes "M"; fields = record { number = 1; name = codes "a"; kind = Uint64; label = Plain } ∷ []; oneofs = [] } ∷ [];
  enums = [];
  methods = record { service = codes "S"; name = codes "Get"; input = 0; output = 0 } ∷ [];
}

abbrev with_150 : Node
with_150 = field 1 (one (number 150)) no_fields

abbrev call : AcceptedCall
call = record { seq = 1; method = 0; number = 0; addr = 2; after = 1; count = 1; copy = Copy with_150 }

abbrev acl : List ℕ
acl = codes "acl"

-- all but requests with 150
abbrev policy : AccessPolicy
policy = record {
  rules = record {
    name = codes "no150";
    allow = false;
    about = OfCalls (record {
      method = 0;
      sort = Request;
      test = Some (record {
        path = record { way = []; number = 1; kind = Uint64; label = Plain };
        condition = Compares Equal (Number 150);
      });
    });
  } ∷ [];
  allow = true;
}

abbrev attach : Step
attach = Attach 0 acl acl (Access policy)

abbrev on_one : Happening → ConnectionEvent
on_one what = record { conn = 1; what = what }

abbrev taken : History
taken = on_one (Op attach) ∷ on_one (Took call) ∷ []

abbrev denied : History
denied = on_one (Op attach) ∷ on_one (Took call) ∷ on_one (Refused 1 (cause.Access acl 1 (codes "no150"))) ∷ []

abbrev sent : History
sent = on_one (Op attach) ∷ on_one (Took call) ∷ on_one (Sent 1 19) ∷ []

-- ---- why they are legal

abbrev under : JudgeContext
under = context_on table 1024 1

abbrev none_yet : Trace
none_yet = Op attach ∷ []

abbrev before : Trace
before = Took call ∷ none_yet

none-in : {X : Type 0} (x : X) → Contains [] x → ⊥
none-in x has = omega (arith, has.1)

-- the first operation has no reason for a rejection
free-attach : (refusal : Refusal) → IsReasonToReject [] attach refusal → ⊥
free-attach refusal (detaches_none n is not r) = cc
free-attach refusal (upgrades_none n l p is not r) = cc
free-attach refusal (is_taken a n l p is some r) = none-in n some
free-attach refusal (is_past a n l p is past r) = let places : a ≡ 0 = cc in omega (arith, places, past)
free-attach refusal (is_full a n l p is full r) = omega (arith, full)
free-attach refusal (is_other n l p e is there named differs r) = cc

attached : HasChanged (record { entries = []; attached = 0 }) attach (changed attach (record { entries = []; attached = 0 }))
attached = record { free = free-attach; effect = attaches 0 acl acl (Access policy) [] [] refl refl refl refl }

link_stands : (past : Trace) (next : Happening) → false ≡ true → {X : Type 0} → X
link_stands past next e = absurd (let wrong : false ≡ true = e in cc)

may-attach : CanFollow under [] (Op attach)
may-attach = record {
  numbered = tt;
  malformed = tt;
  chain_kept = attached;
  notes_due = tt;
  drawn_refused = tt;
  in_order = tt;
  answered = tt;
  link_end = (λ e. link_stands [] (Op attach) e, tt);
}

normal-150 : IsNormal table 0 with_150
normal-150 = record {
  fields = (omega arith, (record { number = 1; name = codes "a"; kind = Uint64; label = Plain }, refl, λ (e : 150 ≡ 0). omega (arith, e), omega arith), tt);
  oneofs = λ o. omega arith;
  depth = omega arith;
}

may-take : CanFollow under none_yet (Took call)
may-take = record {
  numbered = record { number = refl; few = omega arith; loads = omega arith; copy = (omega arith, normal-150) };
  malformed = tt;
  chain_kept = tt;
  notes_due = tt;
  drawn_refused = tt;
  in_order = tt;
  answered = tt;
  link_end = (λ e. link_stands none_yet (Took call) e, tt);
}

is-denied : IsDenied under before 1 acl 1 (codes "no150")
is-denied = record {
  entry = new_entry acl 1 (Access policy);
  at = record {
    front = [];
    back = [];
    entries = refl;
    named = refl;
    is_pending = (0, omega arith, refl);
    allowed = All-nil (IsAllowedInTrace under before 1);
  };
  present = refl;
  policy = policy;
  is_policy = refl;
  place = 0;
  gives = denies policy refl refl refl;
  names = refl;
}

may-refuse : CanFollow under before (Refused 1 (cause.Access acl 1 (codes "no150")))
may-refuse = record {
  numbered = tt;
  malformed = tt;
  chain_kept = tt;
  notes_due = tt;
  drawn_refused = tt;
  in_order = tt;
  answered = is-denied;
  link_end = (λ e. link_stands before (Refused 1 (cause.Access acl 1 (codes "no150"))) e, tt);
}

-- ---- on each connection

on-each : (P : ℕ → Trace → Type 0) (h : History) → P 1 (trace_of 1 h) → ((conn : ℕ) → P conn [])
    → ((conn : ℕ) → 1 ≢ conn → trace_of conn h ≡ []) → (conn : ℕ) → P conn (trace_of conn h)
on-each P h here nowhere others conn = elim (eqb_tells 1 conn) [
  | inl same ↦ let Q : ℕ → Type 0 = λ conn. P conn (trace_of conn h) in subst Q same.1 here
  | inr other ↦ subst (P conn) (sym (others conn other.1)) (nowhere conn)
]

other-taken : (conn : ℕ) → 1 ≢ conn → trace_of conn taken ≡ []
other-taken conn other = behind-other conn (on_one (Op attach) ∷ []) (on_one (Took call)) other ∙ behind-other conn [] (on_one (Op attach)) other

other-denied : (conn : ℕ) → 1 ≢ conn → trace_of conn denied ≡ []
other-denied conn other = behind-other conn taken (on_one (Refused 1 (cause.Access acl 1 (codes "no150")))) other ∙ other-taken conn other

abbrev IsLegalOn : ℕ → Trace → Type 0
IsLegalOn conn past = IsLegalTrace (context_on table 1024 conn) past

abbrev IsPrefixOn : ℕ → Trace → Type 0
IsPrefixOn conn past = IsLegalPrefix (context_on table 1024 conn) past

nothing-legal : (conn : ℕ) → IsLegalOn conn []
nothing-legal conn = record { prefix = tt; closed = nothing_settled }

prefixes-taken : AreLegalPrefixes table 1024 taken
prefixes-taken = on-each IsPrefixOn taken ((tt, may-attach), may-take) (λ conn. tt) other-taken

-- ---- the result

-- the policy denies the call, and it is refused
judged-denied : IsCheckOfHistory table 1024 denied [] (Legal 3 0)
judged-denied =
    legal (
    on-each IsLegalOn denied (record {
      prefix = (((tt, may-attach), may-take), may-refuse);
      closed = record { malformed = λ z. z; quota = λ z. z; link = λ link. link.some_pending refl };
    }) nothing-legal other-denied
    ) (inl refl) refl

-- it isn't refused yet
judged-taken : IsCheckOfHistory table 1024 taken [] (Legal 2 0)
judged-taken =
    legal (
    on-each IsLegalOn taken (record {
      prefix = ((tt, may-attach), may-take);
      closed = record { malformed = λ z. z; quota = λ z. z; link = λ link. absurd (let wrong : false ≡ true = link.failed in cc) };
    }) nothing-legal other-taken
    ) (inl refl) refl

-- the form of the call
abbrev form : Call
form = record { conn = 1; seq = 1; method = 0; number = 0; tree = with_150 }

denies-150 : (p : Policy) (level moment : ℕ) (past : Past) → p ≡ Access policy → IsEntryAnswer p level moment form past pass → ⊥
denies-150 p level moment past is (allows q is_q allow answer) =
    let same : q ≡ policy = cc in
    let no : (verdict q form).allow ≡ false = ap (λ (r : AccessPolicy). (verdict r form).allow) same in
    let wrong : true ≡ false = sym allow ∙ no in cc
denies-150 p level moment past is (denies q is_q allow answer) = cc
denies-150 p level moment past is (was_charged r is_q some answer) = cc
denies-150 p level moment past is (charges r is_q none enough answer) = cc
denies-150 p level moment past is (holds r is_q none less mode answer) = cc
denies-150 p level moment past is (refuses r is_q none less mode answer) = cc
denies-150 p level moment past is (is_within tenant per cap ticket is_q some less answer) = cc
denies-150 p level moment past is (is_over tenant per cap ticket is_q some more answer) = cc
denies-150 p level moment past is (draws tenant per cap ticket is_q none answer) = cc
denies-150 p level moment past is (was_counted is_q some answer) = cc
denies-150 p level moment past is (counts is_q none answer) = cc
denies-150 p level moment past is (is_clear clears is_q left answer) = cc
denies-150 p level moment past is (redacts clears is_q other answer) = cc

keeps-before : (rule : Rule) → rule_rank rule < 4 → IsRuleKept under before (Sent 1 19) rule
keeps-before A less = tt
keeps-before B less = tt
keeps-before C less = tt
keeps-before D less = (tt, tt)
keeps-before E less = absurd (omega (arith, less))
keeps-before F less = absurd (omega (arith, less))
keeps-before G less = absurd (omega (arith, less))
keeps-before Stands less = absurd (omega (arith, less))

-- it is sent, although its policy denies it
judged-sent : IsCheckOfHistory table 1024 sent [] (Illegal 3 E)
judged-sent =
    broken taken [] (on_one (Sent 1 19)) E refl prefixes-taken (record {
      broken = λ sends. denies-150 (Access policy) 0 0 nothing refl (All-head (IsAllowedInTrace under before 1) (new_entry acl 1 (Access policy)) [] sends.allowed);
      earlier = keeps-before;
    }) refl

-- a first call with the number 3
abbrev third : AcceptedCall
third = record { seq = 3; method = 9; number = 0; addr = 2; after = 1; count = 0; copy = Malformed NoMethod 0 9 }

audit-third : audit table (on_one (Took third) ∷ []) ≡ codes "took 1 3 9 0 2 1 0 malformed NoMethod 0 9\n"
unfolding digits
audit-third = refl

judged-third : IsCheckOfHistory table 1024 (on_one (Took third) ∷ []) [] (Illegal 1 A)
judged-third =
    broken [] [] (on_one (Took third)) A refl (λ conn. tt) (record {
      broken = λ takes. let wrong : 3 ≡ 1 = takes.number in absurd (omega (arith, wrong));
      earlier = λ other less. absurd (omega (arith, less));
    }) refl

-- ---- lines of pending calls

-- the call alone, pending at the end of a chain without entries
abbrev single : History
single = on_one (Took call) ∷ []

other-single : (conn : ℕ) → 1 ≢ conn → trace_of conn single ≡ []
other-single conn other = behind-other conn [] (on_one (Took call)) other

may-take-alone : CanFollow under [] (Took call)
may-take-alone = record {
  numbered = record { number = refl; few = omega arith; loads = omega arith; copy = (omega arith, normal-150) };
  malformed = tt;
  chain_kept = tt;
  notes_due = tt;
  drawn_refused = tt;
  in_order = tt;
  answered = tt;
  link_end = (λ e. link_stands [] (Took call) e, tt);
}

legal-single : IsLegal table 1024 single
legal-single =
    on-each IsLegalOn single (record {
      prefix = (tt, may-take-alone);
      closed = record { malformed = λ z. z; quota = λ z. z; link = λ link. absurd (let wrong : false ≡ true = link.failed in cc) };
    }) nothing-legal other-single

-- the line of the call with this number, at the end of the chain
abbrev standing_call : ℕ → StandsLine
standing_call seq = record { conn = 1; seq = seq; position = 0; name = transport; holding = None }

lines-single : bytes_of_all_stands (standing_call 1 ∷ []) ≡ codes "stands 1 1 0 -\n"
unfolding digits
lines-single = refl

abbrev the_call : CallName
the_call = (1, 1)

abbrev Names : ℕ → ℕ → Type 0
Names conn seq = let named : CallName = (conn, seq) in Contains (the_call ∷ []) named

stands-single : (conn seq : ℕ) → Names conn seq ↔ Contains (map (λ call. call.seq) (pending_calls (trace_of conn single))) seq
stands-single conn seq = elim (eqb_tells 1 conn) [
  | inl same ↦
      let Q : ℕ → Type 0 = λ conn. Names conn seq ↔ Contains (map (λ call. call.seq) (pending_calls (trace_of conn single))) seq in
      subst Q same.1 (on-first seq)
  | inr other ↦
      let Q : Trace → Type 0 = λ past. Names conn seq ↔ Contains (map (λ call. call.seq) (pending_calls past)) seq in
      subst Q (sym (other-single conn other.1)) (λ has. absurd (other.1 (first-of (in_one the_call (conn, seq) has))), λ has. absurd (none-in seq has))
]
  where
    first-of : {a b : CallName} → a ≡ b → a.0 ≡ b.0
    first-of e = ap (λ (c : CallName). c.0) e

    second-of : {a b : CallName} → a ≡ b → a.1 ≡ b.1
    second-of e = ap (λ (c : CallName). c.1) e

    on-first : (seq : ℕ) → Names 1 seq ↔ Contains (1 ∷ []) seq
    on-first seq = (
      λ has. let P : ℕ → Type 0 = λ n. Contains (1 ∷ []) n in subst P (second-of (in_one the_call (1, seq) has)) (in_first 1 []),
      λ has. let P : ℕ → Type 0 = λ n. Names 1 n in subst P (in_one 1 seq has) (in_first the_call []),
    )

all-single : AreAllPending single (the_call ∷ [])
all-single = record { ascend = (All-nil _, tt); each = stands-single }

no-entry : (e : Entry) → slice_get [] 0 ≡ Some e → ⊥
no-entry e is = cc

tells-single : IsNextPending under (Took call ∷ []) [] 1 0 transport None
tells-single = record {
  call = call;
  is_call = refl;
  number = refl;
  legal_position = record { within = omega arith; allowed = All-nil (IsAllowedInTrace under (Took call ∷ []) 1) };
  falls = All-nil (λ p. 0 ≤ p);
  named = refl;
  tells = λ level cost first held. no-entry held.entry held.at;
}

told-single : (conn : ℕ) → AreNextPending (context_on table 1024 conn) (trace_of conn single) [] (lines_on conn (standing_call 1 ∷ []))
told-single conn = elim (eqb_tells 1 conn) [
  | inl same ↦
      let Q : ℕ → Type 0 = λ conn. AreNextPending (context_on table 1024 conn) (trace_of conn single) [] (lines_on conn (standing_call 1 ∷ [])) in
      subst Q same.1 (tells-single, tt)
  | inr other ↦
      let none : lines_on conn (standing_call 1 ∷ []) ≡ [] = rw other.0 refl in
      let Q : List StandsLine → Type 0 = λ lines. AreNextPending (context_on table 1024 conn) (trace_of conn single) [] lines in
      subst Q (sym none) tt
]

whole-single : AreAllListed table 1024 single (standing_call 1 ∷ [])
whole-single = record { begin = record { calls = the_call ∷ []; all = all-single; front = ([], refl); tell = told-single }; all = all-single }

-- its line lists it
judged-stands : IsCheckOfHistory table 1024 single (standing_call 1 ∷ []) (Legal 1 1)
judged-stands = legal legal-single (inr whole-single) refl

begins-with_nothing : MayBeListed table 1024 single []
begins-with_nothing = record { calls = the_call ∷ []; all = all-single; front = (the_call ∷ [], refl); tell = λ conn. tt }

tells-no-second : IsNextPending under (Took call ∷ []) [] 2 0 transport None → ⊥
tells-no-second told =
    let same : call ≡ told.call = some-same call told.call told.is_call in
    let wrong : 1 ≡ 2 = ap (λ (c : AcceptedCall). c.seq) same ∙ told.number in omega (arith, wrong)
  where
    some-same : (x y : AcceptedCall) → Some x ≡ Some y → x ≡ y
    some-same x y e = cc

-- the line of call 2 in its place lists no pending call
judged-second : IsCheckOfHistory table 1024 single (standing_call 2 ∷ []) (Illegal 2 Stands)
judged-second = misplaced [] [] (standing_call 2) legal-single refl begins-with_nothing (λ begin. tells-no-second (begin.tell 1).0) refl

-- ---- a malformed call alone

abbrev faulty : AcceptedCall
faulty = record { seq = 1; method = 9; number = 0; addr = 2; after = 1; count = 0; copy = Malformed NoMethod 0 9 }

abbrev unrefused : History
unrefused = on_one (Took faulty) ∷ []

may-take-faulty : CanFollow under [] (Took faulty)
may-take-faulty = record {
  numbered = record { number = refl; few = omega arith; loads = omega arith; copy = (λ e. omega arith, λ less. refl) };
  malformed = tt;
  chain_kept = tt;
  notes_due = tt;
  drawn_refused = tt;
  in_order = tt;
  answered = tt;
  link_end = (λ e. link_stands [] (Took faulty) e, tt);
}

none-earlier : (other : Rule) (conn : ℕ) → rule_rank other < 1 → HasObligationOf (trace_of conn unrefused) other → ⊥
none-earlier A conn less awaited = awaited
none-earlier B conn less awaited = omega (arith, less)
none-earlier C conn less awaited = omega (arith, less)
none-earlier D conn less awaited = omega (arith, less)
none-earlier E conn less awaited = omega (arith, less)
none-earlier F conn less awaited = omega (arith, less)
none-earlier G conn less awaited = omega (arith, less)
none-earlier Stands conn less awaited = omega (arith, less)

-- it awaits its refusal
judged-faulty : IsCheckOfHistory table 1024 unrefused [] (Illegal 2 B)
judged-faulty =
    open_end B (on-each IsPrefixOn unrefused (tt, may-take-faulty) (λ conn. tt) (λ conn other. behind-other conn [] (on_one (Took faulty)) other))
    (record { conn = 1; awaited = tt; earlier = none-earlier }) refl
