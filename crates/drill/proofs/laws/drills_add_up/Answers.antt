use Rattle.std.proofs.Common.{arith}
use Rattle.drill.specs.Drill.{drill}
use Rattle.drill.proofs.Drilled.{drill-never-holds, drill-takes}
use Rattle.drill.proofs.laws.drills_add_up.Goals as goal

pub returns-clause-none_stands : goal.returns-clause-none_stands
returns-clause-none_stands g c calls clock conns told tells =
    c.none_pending_unheld.ensures.run (drill calls) clock conns told (drill-never-holds calls) tells

pub returns-clause-all_went : goal.returns-clause-all_went
returns-clause-all_went g c calls clock conns told tells =
    let none = c.none_pending_unheld.ensures.run (drill calls) clock conns told (drill-never-holds calls) tells in
    let up = c.each_call_is_counted_once.ensures.run (drill calls) conns told tells.shows in
    omega (arith, none, up)

pub returns-clause-took : goal.returns-clause-took
returns-clause-took g c = drill-takes g.C.Clock g.L.Link
