use Rattle.conn_core.proofs.Few.{few-attachments, few-calls, few-upgrades}
use Rattle.conn_core.proofs.conn.Conn.counters_are_bounded.Goals as goal

pub returns-clause-calls : goal.returns-clause-calls
returns-clause-calls c = few-calls c.args.self.now

pub returns-clause-attachments : goal.returns-clause-attachments
returns-clause-attachments c = few-attachments c.args.self.now c.is_connection.ensures

pub returns-clause-versions : goal.returns-clause-versions
returns-clause-versions c = few-upgrades c.args.self.now c.is_connection.ensures
