use Rattle.frame_view.proofs.Following.{none, one, more, all}
use Rattle.frame_view.proofs.laws.frames_are_consecutive.Goals as goal

pub returns-clause-none : goal.returns-clause-none
returns-clause-none c = none

pub returns-clause-one : goal.returns-clause-one
returns-clause-one c = one (record {
  size_of_one = c.frame_is_unique.ensures.size;
  places = c.frames_join.ensures.places;
  size_of_all = c.frames_join.ensures.size;
  nothing = c.frame_is_unique.ensures.nothing;
})

pub returns-clause-more : goal.returns-clause-more
returns-clause-more c = more (record {
  size_of_one = c.frame_is_unique.ensures.size;
  places = c.frames_join.ensures.places;
  size_of_all = c.frames_join.ensures.size;
  nothing = c.frame_is_unique.ensures.nothing;
})

pub returns-clause-all : goal.returns-clause-all
returns-clause-all c = all (record {
  size_of_one = c.frame_is_unique.ensures.size;
  places = c.frames_join.ensures.places;
  size_of_all = c.frames_join.ensures.size;
  nothing = c.frame_is_unique.ensures.nothing;
})
