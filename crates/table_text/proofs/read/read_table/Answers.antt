use Rattle.std.proofs.lemmas.Result.{MatchResult-weaker}
use Rattle.table_text.proofs.ReadLemmas.{is_accepted, is_only}
use Rattle.table_text.proofs.SameFaults.{first_of_judged}
use Rattle.table_text.proofs.read.read_table.Goals as goal

pub returns-clause-accepted : goal.returns-clause-accepted
returns-clause-accepted c = is_accepted c.args.text.now c.read_lines.result c.read_lines.ensures.table c.read_lines.ensures.clean

pub returns-clause-only : goal.returns-clause-only
returns-clause-only c = is_only c.args.text.now c.read_lines.result c.read_lines.ensures.table c.read_lines.ensures.fault

pub returns-clause-fault : goal.returns-clause-fault
returns-clause-fault c = MatchResult-weaker c.read_lines.result c.read_lines.ensures.fault (λ t h. h) (λ e h. first_of_judged c.args.text.now e h)
