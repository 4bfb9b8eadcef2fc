-- Worked by hand: the definitions on small histories, each the events of one connection in order.
use Rattle.std.proofs.Common.{◌≡◌, ℕ, Bool, true, false, List, [], ◌∷◌, codes, reverse, refl}
use Rattle.std.specs.Prelude.{Option, Some}
use Rattle.mrpc_table.specs.Node.{Node, no_fields, field, one, number}
use Rattle.mrpc_table.specs.declared.table.Kind.TheVariants.{Uint64}
use Rattle.mrpc_table.specs.declared.table.Field.{Field}
use Rattle.mrpc_table.specs.declared.table.Label.TheVariants.{Plain}
use Rattle.mrpc_table.specs.declared.table.Table.{Table}
use Rattle.policy_access.specs.Verdict.{AccessPolicy}
use Rattle.mrpc_table.specs.declared.call.Call.{Call}
use Rattle.policy_access.specs.declared.rule.CallSelector.TheVariants.{Calls as OfCalls}
use Rattle.policy_access.specs.declared.rule.Comparison.TheVariants.{Equal}
use Rattle.policy_access.specs.declared.rule.Condition.TheVariants.{Compares}
use Rattle.policy_access.specs.declared.rule.Operand.TheVariants.{Number}
use Rattle.policy_access.specs.declared.rule.Rule.{Rule}
use Rattle.mrpc_table.specs.declared.call.CallKind.TheVariants.{Request}
use Rattle.policy_redact.specs.declared.redact.Clear.{Clear}
use Rattle.engine_core.specs.Answers.{nothing, charged, drawn, counted}
use Rattle.engine_core.specs.Chains.{new_entry}
use Rattle.engine_core.specs.declared.op.Op.TheVariants.{Attach, Detach, Upgrade}
use Rattle.engine_core.specs.declared.policy.Policy.{Policy}
use Rattle.engine_core.specs.declared.policy.Policy.TheVariants.{Access, Rate, Quota, Count, Redact}
use Rattle.call_history.specs.Trace.{Trace, chain, timestamp, level_in_trace, noted, noted_calls, pending_calls, has_failed, form, with_tree}
use Rattle.call_history.specs.declared.happening.Cause.TheVariants as cause
use Rattle.call_history.specs.declared.happening.Happening.TheVariants.{Took, Op, Moment, Charged, Drawn, Counted, Redacted, Sent, Refused}
use Rattle.call_history.specs.declared.happening.AcceptedCall.{AcceptedCall}
use Rattle.call_history.specs.declared.happening.TookCopy.TheVariants.{Copy}

-- messages of these fields, and a method that takes one
abbrev pub table_of : List Field → Table
table_of fields = record {
  messages = record { name = codes "M"; fields = fields; oneofs = [] } ∷ [];
  enums = [];
  methods = record { service = codes "S"; name = codes "Get"; input = 0; output = 0 } ∷ [];
}

abbrev pub number_field : ℕ → List ℕ → Field
number_field n name = record { number = n; name = name; kind = Uint64; label = Plain }

abbrev pub table : Table
table = table_of (number_field 1 (codes "a") ∷ [])

abbrev pub with_number : ℕ → Node
with_number v = field 1 (one (number v)) no_fields

-- a request at place 2
abbrev pub request : ℕ → ℕ → ℕ → Node → AcceptedCall
request seq after count tree = record { seq = seq; method = 0; number = 0; addr = 2; after = after; count = count; copy = Copy tree }

-- a rule on requests whose field has a value
abbrev pub where_equal : List ℕ → Bool → ℕ → ℕ → Rule
where_equal name allow at v = record {
  name = name;
  allow = allow;
  about = OfCalls (record {
    method = 0;
    sort = Request;
    test = Some (record {
      path = record { way = []; number = at; kind = Uint64; label = Plain };
      condition = Compares Equal (Number v);
    });
  });
}

abbrev pub acl : List ℕ
acl = codes "acl"

abbrev pub rl : List ℕ
rl = codes "rl"

abbrev pub q : List ℕ
q = codes "q"

abbrev pub c : List ℕ
c = codes "c"

abbrev pub d : List ℕ
d = codes "d"

abbrev pub r1 : List ℕ
r1 = codes "r1"

abbrev pub cut : List ℕ
cut = codes "cut"

abbrev pub no150 : List ℕ
no150 = codes "no150"

abbrev pub opening : Policy
opening = Access (record { rules = []; allow = true })

abbrev pub closing : Policy
closing = Access (record { rules = []; allow = false })

-- all but requests with 150
abbrev pub but_150 : AccessPolicy
but_150 = record { rules = where_equal no150 false 1 150 ∷ []; allow = true }

abbrev pub holding : ℕ → Policy
holding burst = Rate (record { amount = 1; per = 1000; burst = burst; hold = true })

abbrev pub seven : ℕ → AcceptedCall
seven seq = request seq 1 1 (with_number 7)

-- the form of a call on connection 1
abbrev pub form_of : AcceptedCall → Node → Option Call
form_of call tree = Some (with_tree 1 call tree)

-- ---- a call with 150, which the policy denies

abbrev pub call_150 : AcceptedCall
call_150 = request 1 1 1 (with_number 150)

abbrev pub denied_before : Trace
denied_before = reverse (Op (Attach 0 acl acl (Access but_150)) ∷ Took call_150 ∷ [])

abbrev pub denied : Trace
denied = Refused 1 (cause.Access acl 1 no150) ∷ denied_before

chain-denied : chain denied ≡ record { entries = new_entry acl 1 (Access but_150) ∷ []; attached = 1 }
chain-denied = refl

form-denied : form 1 1 denied_before ≡ form_of call_150 (with_number 150)
form-denied = refl

standing-before : pending_calls denied_before ≡ call_150 ∷ []
standing-before = refl

standing-denied : pending_calls denied ≡ []
standing-denied = refl

-- ---- three calls under a rate of two at once: the third is held, and charged a second later

abbrev pub held : Trace
held = reverse (
    Op (Attach 0 rl rl (holding 2)) ∷ Took (seven 1) ∷ Took (seven 2) ∷ Took (seven 3) ∷ Charged 1 rl 1000 ∷ Charged 2 rl 0
    ∷ Sent 1 18 ∷ Sent 2 18 ∷ Moment 999 ∷ []
    )

level-before : level_in_trace rl (reverse (Op (Attach 0 rl rl (holding 2)) ∷ [])) ≡ 2000
level-before = refl

level-held : level_in_trace rl held ≡ 999
level-held = refl

moment-held : timestamp held ≡ 999
moment-held = refl

noted-held : noted rl 2 held ≡ charged
noted-held = refl

noted-third : noted rl 3 held ≡ nothing
noted-third = refl

standing-held : pending_calls held ≡ seven 3 ∷ []
standing-held = refl

-- a millisecond later, also in one step
abbrev pub filled : Trace
filled = reverse (
    Op (Attach 0 rl rl (holding 2)) ∷ Took (seven 1) ∷ Took (seven 2) ∷ Took (seven 3) ∷ Charged 1 rl 1000 ∷ Charged 2 rl 0
    ∷ Sent 1 18 ∷ Sent 2 18 ∷ Moment 1000 ∷ []
    )

level-filled : level_in_trace rl filled ≡ 1000
level-filled = refl

level-later : level_in_trace rl (Moment 1000 ∷ held) ≡ 1000
level-later = refl

level-charged : level_in_trace rl (Charged 3 rl 0 ∷ filled) ≡ 0
level-charged = refl

noted_calls-charged : noted_calls rl (Charged 3 rl 0 ∷ filled) ≡ 3 ∷ 2 ∷ 1 ∷ []
noted_calls-charged = refl

-- ---- an upgrade after two calls passed the old version

abbrev pub upgraded_before : Trace
upgraded_before = reverse (
    Op (Attach 0 acl (codes "p1") opening) ∷ Op (Attach 1 rl rl (holding 2)) ∷ Took call_150 ∷ Took (request 2 2 1 (with_number 7))
    ∷ Charged 1 rl 1000 ∷ Charged 2 rl 0 ∷ Op (Upgrade acl (codes "p2") (Access but_150)) ∷ []
    )

chain-upgraded : chain upgraded_before ≡ record {
  entries = record { name = acl; attach = 1; version = 2; policy = Access but_150 } ∷ new_entry rl 2 (holding 2) ∷ [];
  attached = 2;
}
chain-upgraded = refl

noted-upgraded : noted rl 1 upgraded_before ≡ charged
noted-upgraded = refl

level-upgraded : level_in_trace rl upgraded_before ≡ 0
level-upgraded = refl

standing-upgraded : pending_calls (Refused 1 (cause.Access acl 2 no150) ∷ upgraded_before) ≡ request 2 2 1 (with_number 7) ∷ []
standing-upgraded = refl

-- ---- a policy that is detached and attached again: the bucket is full, and no call is noted

abbrev pub again : Trace
again = reverse (
    Op (Attach 0 rl r1 (holding 1)) ∷ Took (seven 1) ∷ Took (seven 2) ∷ Took (seven 3) ∷ Charged 1 rl 0 ∷ Sent 1 18
    ∷ Op (Detach rl) ∷ Op (Attach 0 rl r1 (holding 1)) ∷ []
    )

chain-between : chain (Op (Detach rl) ∷ reverse (Op (Attach 0 rl r1 (holding 1)) ∷ [])) ≡ record { entries = []; attached = 1 }
chain-between = refl

chain-again : chain again ≡ record { entries = new_entry rl 2 (holding 1) ∷ []; attached = 2 }
chain-again = refl

level-again : level_in_trace rl again ≡ 1000
level-again = refl

noted-again : noted rl 1 again ≡ nothing
noted-again = refl

noted_calls-again : noted_calls rl again ≡ []
noted_calls-again = refl

standing-again : pending_calls (Sent 2 18 ∷ Charged 2 rl 0 ∷ again) ≡ seven 3 ∷ []
standing-again = refl

-- ---- a link that fails with two calls pending

abbrev pub failing : Trace
failing = reverse (Took (seven 1) ∷ Took (seven 2) ∷ Took (seven 3) ∷ Sent 1 18 ∷ Refused 2 cause.Transport ∷ [])

standing-failing : pending_calls failing ≡ seven 3 ∷ []
standing-failing = refl

failed-failing : has_failed failing ≡ true
failed-failing = refl

standing-failed : pending_calls (Refused 3 cause.Transport ∷ failing) ≡ []
standing-failed = refl

-- ---- a quota of one ticket

abbrev pub drawn_over : Trace
drawn_over = reverse (
    Op (Attach 0 q q (Quota 0 1000 1)) ∷ Took (seven 1) ∷ Took (seven 2) ∷ Drawn 1 q 0 0 ∷ Drawn 2 q 0 1 ∷ []
    )

noted-first_drawn : noted q 1 drawn_over ≡ drawn 0
noted-first_drawn = refl

noted-drawn_over : noted q 2 drawn_over ≡ drawn 1
noted-drawn_over = refl

-- ---- a counted call, and a policy attached after the counting one that denies it

abbrev pub counted_first : Trace
counted_first = reverse (Op (Attach 0 c c Count) ∷ Took (seven 1) ∷ Counted 1 c ∷ Op (Attach 1 d d closing) ∷ [])

chain-counted_first : chain counted_first ≡ record { entries = new_entry c 1 Count ∷ new_entry d 2 closing ∷ []; attached = 2 }
chain-counted_first = refl

noted-counted_first : noted c 1 counted_first ≡ counted
noted-counted_first = refl

noted-other : noted d 1 counted_first ≡ nothing
noted-other = refl

-- ---- a field is cleared, and the previous policy is asked again

abbrev pub two_fields : Table
two_fields = table_of (number_field 1 (codes "a") ∷ number_field 2 (codes "b") ∷ [])

abbrev pub but_5 : AccessPolicy
but_5 = record { rules = where_equal (codes "big") false 2 5 ∷ []; allow = true }

-- the field 2 of requests
abbrev pub clear_2 : Clear
clear_2 = record { method = 0; sort = Request; path = record { way = []; number = 2; kind = Uint64; label = Plain } }

abbrev pub seven_nine : AcceptedCall
seven_nine = request 1 2 2 (field 1 (one (number 7)) (field 2 (one (number 9)) no_fields))

abbrev pub cleared : AccessPolicy → Trace
cleared policy = reverse (
    Op (Attach 0 acl acl (Access policy)) ∷ Op (Attach 1 cut cut (Redact (clear_2 ∷ []))) ∷ Took seven_nine ∷ Redacted 1 cut 1 ∷ []
    )

form-cleared : form 1 1 (cleared but_5) ≡ form_of seven_nine (with_number 7)
form-cleared = refl

noted-cleared : noted cut 1 (cleared but_5) ≡ nothing
noted-cleared = refl

-- a policy that allows only requests with 9
abbrev pub only_9 : AccessPolicy
only_9 = record { rules = where_equal (codes "need") true 2 9 ∷ []; allow = false }

form-cleared_need : form 1 1 (cleared only_9) ≡ form_of seven_nine (with_number 7)
form-cleared_need = refl
