-- The kinds of events, and which refusals an event is: the code's own. No public clause cites this module.
use Rattle.std.specs.Prelude.{◌≡◌, ℕ, List, Bool, true, false, Option, Some, None}
use Rattle.policy_access.specs.Verdict.{AccessPolicy, rule_name}
use Rattle.engine_core.specs.declared.outcome.Noted.TheVariants.{Nothing}
use Rattle.engine_core.specs.declared.outcome.Outcome.{Outcome}
use Rattle.engine_core.specs.declared.outcome.Outcome.TheVariants as outcomes
use Rattle.engine_core.specs.declared.outcome.Why.TheVariants.{Denied}
use Rattle.engine_core.specs.declared.policy.Policy.{Policy}
use Rattle.engine_core.specs.declared.policy.Policy.TheVariants.{Access}
use Rattle.call_history.specs.declared.happening.Cause.{Cause}
use Rattle.call_history.specs.declared.happening.Cause.TheVariants as cause
use Rattle.call_history.specs.declared.happening.Happening.{Happening}
use Rattle.call_history.specs.declared.happening.Happening.TheVariants.{Took, Away, Op, Moment, Charged, Drawn, Counted, Redacted, Sent, Refused}
use Rattle.audit_rules.specs.declared.obligation.Obligation.{Obligation}
use Rattle.audit_rules.specs.declared.obligation.Obligation.TheVariants as lefts
use Rattle.audit_rules.specs.declared.rule.Rule.{Rule}
use Rattle.audit_rules.specs.declared.rule.Rule.TheVariants as rules

-- the number of the call that is refused as malformed; none for other events
abbrev pub malformed_in : Happening → Option ℕ
malformed_in (Refused seq cause.Malformed) = Some seq
malformed_in _ = None

-- the number of the call that is refused for the link; none for other events
abbrev pub transport_in : Happening → Option ℕ
transport_in (Refused seq cause.Transport) = Some seq
transport_in _ = None

-- a cause other than the link
abbrev pub IsNoLinkCause : Cause → Type 0
IsNoLinkCause cause.Transport = ⊥
IsNoLinkCause _ = Unit {0}

-- an operation or a timestamp
abbrev pub is_quiet : Happening → Bool
is_quiet (Op step) = true
is_quiet (Moment ms) = true
is_quiet _ = false

-- a note on a call, or its send
abbrev pub IsOfCall : Happening → Type 0
IsOfCall (Charged seq name left) = Unit {0}
IsOfCall (Drawn seq name window ticket) = Unit {0}
IsOfCall (Counted seq name) = Unit {0}
IsOfCall (Sent seq bytes) = Unit {0}
IsOfCall _ = ⊥

-- a malformed call awaits its refusal
abbrev pub is_malformed_due : Obligation → Bool
is_malformed_due lefts.Nothing = false
is_malformed_due (lefts.RefuseMalformed seq) = true
is_malformed_due (lefts.RefuseOverCap seq at ticket cap) = false

-- no refusal is due, except those of a failed link
abbrev pub is_nothing : Obligation → Bool
is_nothing lefts.Nothing = true
is_nothing (lefts.RefuseMalformed seq) = false
is_nothing (lefts.RefuseOverCap seq at ticket cap) = false

-- the outcome denies by a rule of this name
abbrev pub IsRuleNamed : Policy → Outcome → List ℕ → Type 0
IsRuleNamed policy outcome name = (p : AccessPolicy) × (rule : ℕ) × (policy ≡ Access p)
    × (outcome ≡ outcomes.Refused Nothing (Denied rule)) × (name ≡ rule_name p rule)

-- ---- the first rule that is broken

-- the rule of an event's own kind, apart from the numbering
abbrev pub own_rule : Happening → Rule
own_rule (Took call) = rules.A
own_rule (Away method number addr) = rules.A
own_rule (Op step) = rules.C
own_rule (Moment ms) = rules.C
own_rule (Charged seq name left) = rules.D
own_rule (Drawn seq name window ticket) = rules.D
own_rule (Counted seq name) = rules.D
own_rule (Redacted seq name version) = rules.D
own_rule (Sent seq bytes) = rules.E
own_rule (Refused seq why) = rules.F

-- an event breaks its own rule; the flag says whether it refuses what was drawn
abbrev pub broken_first : Rule → Bool → Rule
broken_first rules.C drawn = rules.C
broken_first own true = own
broken_first own false = rules.D

-- the first broken rule, by whether an event keeps its own rule, refuses what was drawn, and respects a failed link
abbrev pub first_broken_rule : Rule → (kept drawn linked : Bool) → Option Rule
first_broken_rule own false drawn linked = Some (broken_first own drawn)
first_broken_rule own true false linked = Some rules.D
first_broken_rule own true true false = Some rules.G
first_broken_rule own true true true = None
