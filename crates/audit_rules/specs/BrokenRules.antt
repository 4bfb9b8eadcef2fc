-- Which rule of legal histories an event breaks first (this project's own).
use Rattle.std.specs.Prelude.{ℕ, ◌<◌}
use Rattle.audit_rules.specs.declared.rule.Rule.{Rule}
use Rattle.audit_rules.specs.declared.rule.Rule.TheVariants.{A, B, C, D, E, F, G, Stands}
use Rattle.call_history.specs.Trace.{Trace}
use Rattle.call_history.specs.Legal.{HasLinkObligation, HasMalformedObligation, HasQuotaObligation}
use Rattle.call_history.specs.Rules.{IsEndedWithLink, IsNumbered, IsChainPreserved, IsNotedAsDue, IsRefusedAsAnswered, IsRefusedIfPastCap, IsMalformedRefusedAtOnce, IsSentInOrder, JudgeContext}
use Rattle.call_history.specs.declared.happening.Happening.{Happening}

-- the rank of a rule
abbrev pub rule_rank : Rule → ℕ
rule_rank A = 0
rule_rank B = 1
rule_rank C = 2
rule_rank D = 3
rule_rank E = 4
rule_rank F = 5
rule_rank G = 6
rule_rank Stands = 7

-- an event after this trace keeps a rule; no event breaks the rule of pending calls' lines
abbrev pub IsRuleKept : JudgeContext → Trace → Happening → Rule → Type 0
IsRuleKept u past next A = IsNumbered u past next
IsRuleKept u past next B = IsMalformedRefusedAtOnce past next
IsRuleKept u past next C = IsChainPreserved past next
IsRuleKept u past next D = IsNotedAsDue u past next × IsRefusedIfPastCap past next
IsRuleKept u past next E = IsSentInOrder u past next
IsRuleKept u past next F = IsRefusedAsAnswered u past next
IsRuleKept u past next G = IsEndedWithLink past next
IsRuleKept u past next Stands = Unit {0}

-- of the rules that an event breaks, this is the first
pub record IsFirstBrokenRule (u : JudgeContext) (past : Trace) (next : Happening) (rule : Rule) : Type 0 where
  pub broken : IsRuleKept u past next rule → ⊥
  pub earlier : (other : Rule) → rule_rank other < rule_rank rule → IsRuleKept u past next other

-- the trace leaves an obligation of a rule
abbrev pub HasObligationOf : Trace → Rule → Type 0
HasObligationOf past B = HasMalformedObligation past
HasObligationOf past D = HasQuotaObligation past
HasObligationOf past G = HasLinkObligation past
HasObligationOf past _ = ⊥

-- of the rules with an obligation, this is the first
pub record HasObligation (past : Trace) (rule : Rule) : Type 0 where
  pub awaited : HasObligationOf past rule
  pub earlier : (other : Rule) → rule_rank other < rule_rank rule → HasObligationOf past other → ⊥
