use Rattle.receive_core.proofs.Ordered.{begins_so, goes_on_so, stops_so, takes_so, are_first}
use Rattle.receive_core.proofs.laws.frames_in_order.Goals as goal

pub returns-clause-begins : goal.returns-clause-begins
returns-clause-begins c = begins_so

pub returns-clause-goes_on : goal.returns-clause-goes_on
returns-clause-goes_on c = goes_on_so c.split_is_unique.ensures.stays c.split_is_unique.ensures.one_end

pub returns-clause-stops : goal.returns-clause-stops
returns-clause-stops c =
    stops_so c.split_is_unique.ensures.stays c.split_is_unique.ensures.once c.split_is_unique.ensures.one_end c.frames_join.ensures.size c.frames_join.ensures.splits

pub returns-clause-takes : goal.returns-clause-takes
returns-clause-takes c = takes_so c.frame_is_unique.ensures.once c.frames_join.ensures.places

pub returns-clause-first : goal.returns-clause-first
returns-clause-first c = are_first c.frame_is_unique.ensures.once c.split_is_unique.ensures.once
