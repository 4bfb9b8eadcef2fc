use Rattle.wire_decode.proofs.UsableTables.{usable-valid, valid-ascends}
use Rattle.wire_decode.proofs.NormalMeaning.{normal-meaning}
use Rattle.wire_decode.proofs.laws.meaning_is_normal.Goals as goal

pub returns : goal.returns
returns c = λ T msg bytes t valid known small means. normal-meaning (
  c.kept_entries_are_normal.ensures.kinds,
  c.kept_entries_are_normal.ensures.ascend,
  c.kept_entries_are_normal.ensures.depth,
) T msg bytes t
    (usable-valid T valid) small (c.rules_and_reader_agree.ensures.merged T msg bytes t (valid-ascends T valid) means)
