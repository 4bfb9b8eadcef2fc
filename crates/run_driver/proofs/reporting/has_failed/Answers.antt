use Rattle.std.proofs.Common.{All, List, refl, sym, subst, arith}
use Rattle.std.proofs.lemmas.List.{take_all}
use Rattle.std.proofs.lemmas.List.Elements.{All-more}
use Rattle.service.specs.declared.served.ServedConn.{ServedConn}
use Rattle.run_driver.specs.Reporting.{IsFailureOutcome}
use Rattle.run_driver.proofs.reporting.has_failed.Goals as goal

pub returns-then-link_failed-clause-one : goal.returns-then-link_failed-clause-one
returns-then-link_failed-clause-one g c = λ _. (
  c.conn-item.result,
  (c.loop-conn.conn-index, c.loop-conn-test.true, sym c.conn-item.is),
  c.if-link_failed.ensures.yes refl,
)

pub loop-conn-preserved : goal.loop-conn-preserved
loop-conn-preserved g c =
    All-more (λ (s : ServedConn g.row.L.Denot). IsFailureOutcome s.outcome → ⊥) c.args.conns.now c.loop-conn.conn-index
    c.conn-item.result c.loop-conn-test.true c.loop-conn.invariant
    (subst (λ (s : ServedConn g.row.L.Denot). IsFailureOutcome s.outcome → ⊥) c.conn-item.is (c.if-link_failed.ensures.no refl))

pub returns-clause-none : goal.returns-clause-none
returns-clause-none g c = λ _.
    subst (λ (l : List (ServedConn g.row.L.Denot)). All (λ s. IsFailureOutcome s.outcome → ⊥) l)
    (take_all c.loop-conn.conn-index c.args.conns.now (omega arith)) c.loop-conn.invariant
