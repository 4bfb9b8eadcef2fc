use Rattle.text_commands.proofs.laws.meaning_law.Goals as goal

pub returns : goal.returns
returns c = record {
  either = c.meaning_or_fault.ensures.either;
  meaning_is_unique = c.meaning_is_unique.ensures;
  fault_is_unique = c.decode_fault_is_unique.ensures;
  not_both = c.meaning_or_fault.ensures.not_both;
  frames = c.frame_law.ensures;
}
