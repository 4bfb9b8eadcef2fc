use Rattle.engine_core.proofs.engine.Engine.turn.Goals as goal

pub returns-in-Access-clause-step : goal.returns-in-Access-clause-step
returns-in-Access-clause-step g c = rw (← c.self.view_is, c.in-Access.is) (c.judge.ensures c.self.inside.bucket.level c.args.now)

pub returns-in-Rate-clause-step : goal.returns-in-Rate-clause-step
returns-in-Rate-clause-step g c = rw (← c.self.view_is, c.in-Rate.is) (c.charge.ensures.step c.self.inside.version c.args.now)

pub returns-in-Quota-clause-step : goal.returns-in-Quota-clause-step
returns-in-Quota-clause-step g c = rw (← c.self.view_is, c.in-Quota.is) (c.draw.ensures.step c.self.inside.version c.self.inside.bucket.level)

pub returns-in-Count-clause-step : goal.returns-in-Count-clause-step
returns-in-Count-clause-step g c = rw (← c.self.view_is, c.in-Count.is) (c.count.ensures c.self.inside.version c.self.inside.bucket.level c.args.now)

pub returns-in-Redact-clause-step : goal.returns-in-Redact-clause-step
returns-in-Redact-clause-step g c = rw (← c.self.view_is, c.in-Redact.is) (c.clear.ensures c.self.inside.attach c.self.inside.version c.self.inside.bucket.level c.args.now)
