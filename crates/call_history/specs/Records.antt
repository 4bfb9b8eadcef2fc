-- How events are stored: a record names an entry by the operation that set its policy (this project's own).
use Rattle.std.specs.Prelude.{ℕ, ◌<◌, ◌≤◌, List, [], get_or, length}
use Rattle.engine_core.specs.declared.op.Op.{Op as Step}
use Rattle.engine_core.specs.declared.op.Op.TheVariants.{Attach, Detach, Upgrade}
use Rattle.engine_core.specs.declared.policy.Policy.{Policy}
use Rattle.engine_core.specs.declared.policy.Policy.TheVariants.{Access}
use Rattle.call_history.specs.Transitions.{rule_name_at}
use Rattle.call_history.specs.declared.happening.Cause.{Cause}
use Rattle.call_history.specs.declared.happening.Cause.TheVariants as cause
use Rattle.call_history.specs.declared.happening.Happening.{Happening}
use Rattle.call_history.specs.declared.happening.Happening.TheVariants as what
use Rattle.call_history.specs.declared.record.HistoryRecord.{HistoryRecord}
use Rattle.call_history.specs.declared.record.HistoryRecord.TheVariants.{Took, Away, Op, Moment, Charged, Drawn, Counted, Redacted, Sent, Refused}
use Rattle.call_history.specs.declared.record.RecordedCause.{RecordedCause}
use Rattle.call_history.specs.declared.record.RecordedCause.TheVariants as by

-- the name in an operation
abbrev pub name_in_op : Step → List ℕ
name_in_op (Attach at name label policy) = name
name_in_op (Detach name) = name
name_in_op (Upgrade name label policy) = name

-- the name of a rule of the policy that an operation sets
abbrev pub rule_name_in_op : Step → ℕ → List ℕ
rule_name_in_op (Attach at name label policy) rule = rule_name_at policy rule
rule_name_in_op (Detach name) rule = []
rule_name_in_op (Upgrade name label policy) rule = rule_name_at policy rule

-- a stored history: the operations, the events, and the spare capacity for records and for operations
pub record StoredHistory : Type 0 where
  pub steps : List Step
  pub happenings : List Happening
  pub room : ℕ
  pub step_room : ℕ

-- the operation at an index
abbrev pub op_at : List Step → ℕ → Step
op_at steps place = get_or steps place (Detach [])

-- the cause that a recorded cause means
abbrev pub cause_of_record : List Step → RecordedCause → Cause
cause_of_record steps by.Malformed = cause.Malformed
cause_of_record steps (by.Access step version rule) =
    cause.Access (name_in_op (op_at steps step)) version (rule_name_in_op (op_at steps step) rule)
cause_of_record steps (by.Rate step level cost) = cause.Rate (name_in_op (op_at steps step)) level cost
cause_of_record steps (by.Quota step ticket cap) = cause.Quota (name_in_op (op_at steps step)) ticket cap
cause_of_record steps by.Transport = cause.Transport

-- the event that a record means
abbrev pub event_of_record : List Step → HistoryRecord → Happening
event_of_record steps (Took call) = what.Took call
event_of_record steps (Away method number addr) = what.Away method number addr
event_of_record steps (Op step) = what.Op (op_at steps step)
event_of_record steps (Moment ms) = what.Moment ms
event_of_record steps (Charged seq step level) = what.Charged seq (name_in_op (op_at steps step)) level
event_of_record steps (Drawn seq step window ticket) = what.Drawn seq (name_in_op (op_at steps step)) window ticket
event_of_record steps (Counted seq step) = what.Counted seq (name_in_op (op_at steps step))
event_of_record steps (Redacted seq step version) = what.Redacted seq (name_in_op (op_at steps step)) version
event_of_record steps (Sent seq bytes) = what.Sent seq bytes
event_of_record steps (Refused seq why) = what.Refused seq (cause_of_record steps why)

-- the policy is an access policy with a rule at this index; the number of rules means the default
abbrev pub IsRuleOf : Policy → ℕ → Type 0
IsRuleOf (Access policy) rule = rule ≤ length policy.rules
IsRuleOf _ rule = ⊥

-- the policy that an operation sets has a rule at this index
abbrev pub HasRule : Step → ℕ → Type 0
HasRule (Attach at name label policy) rule = IsRuleOf policy rule
HasRule (Detach name) rule = ⊥
HasRule (Upgrade name label policy) rule = IsRuleOf policy rule

-- the operation that a record names exists, and its policy has the rule that the record names
abbrev pub HasValidReferences : List Step → HistoryRecord → Type 0
HasValidReferences steps (Op step) = step < length steps
HasValidReferences steps (Charged seq step level) = step < length steps
HasValidReferences steps (Drawn seq step window ticket) = step < length steps
HasValidReferences steps (Counted seq step) = step < length steps
HasValidReferences steps (Redacted seq step version) = step < length steps
HasValidReferences steps (Refused seq (by.Access step version rule)) = (step < length steps) × HasRule (op_at steps step) rule
HasValidReferences steps (Refused seq (by.Rate step level cost)) = step < length steps
HasValidReferences steps (Refused seq (by.Quota step ticket cap)) = step < length steps
HasValidReferences steps _ = Unit {0}
