use Rattle.std.proofs.Common.{All, take}
use Rattle.run_driver.specs.Reporting.{IsFailureOutcome}
use Rattle.run_driver.proofs.reporting.has_failed.Given as goal

abbrev pub invariant-loop-conn : goal.invariant-loop-conn
invariant-loop-conn g l = All (λ s. IsFailureOutcome s.outcome → ⊥) (take l.conn-index l.conns)
