-- For a malformed graph: the number of loaded words, and the possible reasons.
use Rattle.std.proofs.Common.{◌≡◌, ℕ, ◌≤◌, List, length, subst, ap, arith}
use Rattle.mrpc_table.specs.declared.table.Kind.TheVariants.{Text}
use Rattle.mrpc_table.specs.declared.table.Table.{Table}
use Rattle.graph_form.specs.declared.reason.Reason.{Reason}
use Rattle.graph_form.specs.declared.reason.Reason.TheVariants.{Address, Loads, NoMethod}
use Rattle.graph_form.specs.Roles.{WordRole, run_word}
use Rattle.graph_form.specs.Placed.{IsInvalidWord}
use Rattle.graph_form.specs.Malformed.{IsMalformed, no_root, offends, too_many}

pub few_loads : (T : Table) (H msg address limit : ℕ) (xs : List (ℕ × ℕ)) (reason : Reason) (place value : ℕ)
    → IsMalformed T H msg address limit xs reason place value → length xs ≤ limit
few_loads T H msg address limit xs reason place value (no_root outside none is at v) = let l : length xs ≡ 0 = ap length none in omega (arith, l)
few_loads T H msg address limit xs reason place value (offends before after last begins fine first few are at v) = few
few_loads T H msg address limit xs reason place value (too_many before after last next begins fine full are is at v) = omega (arith, full)

-- no word is invalid for lack of a method
has_method : (T : Table) (H : ℕ) (role : WordRole) (v : ℕ) → IsInvalidWord T H role v NoMethod → ⊥
has_method T H role v = elim role as (λ r. IsInvalidWord T H r v NoMethod → ⊥) [
  | run_word k left before ↦ elim k as (λ k. IsInvalidWord T H (run_word k left before) v NoMethod → ⊥) [ Text ↦ λ bad. bad | _ ↦ λ bad. bad ]
  | _ ↦ λ bad. bad
]

pub other_reason : (T : Table) (H msg address limit : ℕ) (xs : List (ℕ × ℕ)) (reason : Reason) (place value : ℕ)
    → IsMalformed T H msg address limit xs reason place value → reason ≡ NoMethod → ⊥
other_reason T H msg address limit xs reason place value (no_root outside none is at v) e = let wrong : Address ≡ NoMethod = cc in cc
other_reason T H msg address limit xs reason place value (offends before after last begins fine first few are at v) e =
    has_method T H last.role last.number (subst (IsInvalidWord T H last.role last.number) e first.offends)
other_reason T H msg address limit xs reason place value (too_many before after last next begins fine full are is at v) e = let wrong : Loads ≡ NoMethod = cc in cc
