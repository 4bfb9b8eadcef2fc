use Rattle.std.proofs.Common.{◌≡◌, ℕ, List, ◌++◌, map}
use Rattle.mrpc_table.specs.declared.table.Table.{Table}
use Rattle.call_history.specs.Legal.{History}
use Rattle.audit_rules.specs.declared.checker.Checker.{Checker}
use Rattle.audit_check.specs.States.{IsFirstObligationIn, KnowsEach}
use Rattle.audit_check.proofs.connections.first_obligation.Given as goal

abbrev pub invariant-loop-checker : goal.invariant-loop-checker
invariant-loop-checker l =
    (done : List (ℕ × Checker)) × (l.checkers.entries ≡ done ++ l.checker-iterator)
    × ((T : Table) (limit : ℕ) (h : History) → KnowsEach T limit h l.checkers → IsFirstObligationIn h (map (λ e. e.0) done) l.first)
