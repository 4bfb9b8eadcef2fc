use Rattle.std.proofs.Common.{ap, rules, sym}
use Rattle.call_history.specs.Records.{StoredHistory}
use Rattle.call_history.proofs.Naming.{named-operated, operated}
use Rattle.call_history.proofs.history.History.operate.Goals as goal

pub returns-clause-happenings : goal.returns-clause-happenings
returns-clause-happenings c = operated c.self.inside.steps.items c.push_reserved.new.self.items c.args.step c.len-place.result c.self.inside.records.items c.push_reserved-2.new.self.items
    c.args.self.now.happenings c.self.invariant c.push_reserved.ensures.items c.push_reserved-2.ensures.items (search rules) (ap (λ (k : StoredHistory). k.happenings) (sym c.self.view_is))

pub invariant_of-self : goal.invariant_of-self
invariant_of-self c = named-operated c.self.inside.steps.items c.push_reserved.new.self.items c.args.step c.len-place.result c.self.inside.records.items c.push_reserved-2.new.self.items
    c.self.invariant c.push_reserved.ensures.items c.push_reserved-2.ensures.items (search rules)
