use Rattle.drill.proofs.Bound.{drill-binds}
use Rattle.drill.proofs.laws.drills_are_bound.Goals as goal

pub returns-clause-bound : goal.returns-clause-bound
returns-clause-bound g c calls clock =
    drill-binds g.C.Clock g.L.Link calls clock
    (record {
      stays = c.split_is_unique.ensures.stays;
      one_frame = c.frame_is_unique.ensures.once;
      says_once = c.hello_is_unique.ensures.once;
      never_both = c.hello_is_unique.ensures.never_both;
    })

pub returns-clause-took : goal.returns-clause-took
returns-clause-took g c calls clock conns told tells never met =
    c.drills_add_up.ensures.took calls clock conns told tells never
    (drill-binds g.C.Clock g.L.Link calls clock
    (record {
      stays = c.split_is_unique.ensures.stays;
      one_frame = c.frame_is_unique.ensures.once;
      says_once = c.hello_is_unique.ensures.once;
      never_both = c.hello_is_unique.ensures.never_both;
    })
    conns told tells never met)
