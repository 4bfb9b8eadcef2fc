use Rattle.std.proofs.Common.{append_assoc}
use Rattle.table_text.proofs.reach.add_used.Goals as goal

pub returns-in_ok-add_label-in-Field : goal.returns-in_ok-add_label-in-Field
returns-in_ok-add_label-in-Field c old h = rw (c.in-Field.is, ← append_assoc) (c.add_kind.ensures _ (c.in_ok-add_label-in-Field.ensures old h))
