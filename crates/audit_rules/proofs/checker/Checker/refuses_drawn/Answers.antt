use Rattle.audit_rules.proofs.Briefs.{over-refused}
use Rattle.audit_rules.proofs.checker.Checker.refuses_drawn.Goals as goal

pub returns-in-RefuseOverCap : goal.returns-in-RefuseOverCap
returns-in-RefuseOverCap c = λ T past knows.
    over-refused T past c.args.what.now c.args.self.now c.in-RefuseOverCap.seq c.in-RefuseOverCap.at c.in-RefuseOverCap.ticket c.in-RefuseOverCap.cap c.refuses_over.result knows c.in-RefuseOverCap.is c.refuses_over.ensures
