use Rattle.std.specs.BTreeMap.{keys}
use Rattle.audit_check.proofs.Rows.{rise_above, rise_from_sorted}
use Rattle.audit_check.proofs.listing.pop.Goals as goal

pub returns-clause-rise : goal.returns-clause-rise
returns-clause-rise c = (rise_above c.in_ok-conn.conn (keys c.pop_first.new.self) c.in_ok-conn.ensures.all_above, rise_from_sorted (keys c.pop_first.new.self) c.in_ok-conn.ensures.ordered)
