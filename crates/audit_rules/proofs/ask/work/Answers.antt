use Rattle.audit_rules.proofs.Given.{drawn-given}
use Rattle.audit_rules.proofs.ask.work.Goals as goal

pub returns-clause-drawn : goal.returns-clause-drawn
returns-clause-drawn c = λ window drawn is.
    (let works = c.work.ensures.works in
    drawn-given works.engine c.args.now works.met c.work.result works.turn window drawn is _ _ (c.work.ensures.tickets works.engine works.is_engine))
