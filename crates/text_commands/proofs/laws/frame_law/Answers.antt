use Rattle.text_commands.proofs.laws.frame_law.Goals as goal

pub returns : goal.returns
returns c = record {
  ends = c.split_is_unique.ensures.ends;
  split_is_unique = c.split_is_unique.ensures.once;
  ends_once = c.split_is_unique.ensures.one_end;
  frame_is_unique = c.frame_is_unique.ensures.once;
  size_of_one = c.frame_is_unique.ensures.size;
  nothing = c.frame_is_unique.ensures.nothing;
  short = c.frame_is_unique.ensures.short;
  places = c.frames_join.ensures.places;
  size_of_all = c.frames_join.ensures.size;
  splits = c.frames_join.ensures.splits;
}
