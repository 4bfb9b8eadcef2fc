-- What the texts of policies share: the reasons of faults in their lines, in order, the meaning of a fault, and the
-- index of a method (this project's own format).
use Rattle.std.specs.Prelude.{◌≡◌, ℕ, ◌^◌, nat_lt, if◌then◌else◌, List, [], ◌∷◌, Option, Some, None}
use Rattle.mrpc_table.specs.FirstFault.{IsFirstFault}
use Rattle.mrpc_table.specs.declared.words.Decimal.{Decimal}
use Rattle.mrpc_table.specs.declared.words.Decimal.TheVariants.{Small, Large}
use Rattle.mrpc_table.specs.declared.policy_lines.RuleReason.{RuleReason}
use Rattle.mrpc_table.specs.declared.policy_lines.RuleReason.TheVariants.{Word, Number, Name, Known, Path, Default}
use Rattle.mrpc_table.specs.declared.policy_lines.RuleFault.{RuleFault}
use Rattle.mrpc_table.specs.declared.policy_lines.RuleFault.TheVariants as fault

-- an index has 16 bits
abbrev pub index_of : Decimal → Option ℕ
index_of (Small n) = if nat_lt n (2 ^ 16) then Some n else None
index_of Large = None

-- the order of the reasons: if a line has several, the first counts
abbrev pub rule_reason_rank : RuleReason → ℕ
rule_reason_rank Word = 0
rule_reason_rank Number = 1
rule_reason_rank Name = 2
rule_reason_rank Known = 3
rule_reason_rank Path = 4
rule_reason_rank Default = 5

-- a fault names the first line at fault with its first reason, by the reasons of each line; `Memory` can come with any
-- lines
abbrev pub IsFaultOf : (ℕ → RuleReason → Type 0) → RuleFault → Type 0
IsFaultOf IsAgainst (fault.At line reason) = IsFirstFault IsAgainst rule_reason_rank line reason
IsFaultOf IsAgainst fault.Memory = Unit {0}

-- each line means the item at its index
abbrev pub AreParsed : {X : Type 0} → (List ℕ → Option X) → List (List ℕ) → List X → Type 0
AreParsed said [] [] = Unit {0}
AreParsed said (line ∷ lines) (x ∷ xs) = (said line ≡ Some x) × AreParsed said lines xs
AreParsed said _ _ = ⊥
