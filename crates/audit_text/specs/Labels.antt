-- The policy of an operation: the one declared under its label (this project's own).
use Rattle.std.specs.Prelude.{ℕ, List, find, Option, option_map}
use Rattle.std.specs.Str.{bytes_eq}
use Rattle.engine_core.specs.declared.policy.Policy.{Policy}
use Rattle.policy_declarations.specs.Declarations.{Declared}

abbrev pub policy_under : List ℕ → Declared → Option Policy
policy_under label declared = option_map (λ p. p.policy) (find (λ p. bytes_eq p.name label) declared.policies)
