use Rattle.std.proofs.Common.{◌≡◌, ◌<◌, length, vec_len, arith, rules}
use Rattle.schema_binding.specs.Places.{IsPair}
use Rattle.schema_binding.proofs.Reaching.{grows_on, closed_more, listed_at, no_fewer, closed_all, reached_on}
use Rattle.schema_binding.proofs.reach.ReachedPairs.mark_further.Goals as goal

pub mark_fields-requires-clause-pair : goal.mark_fields-requires-clause-pair
mark_fields-requires-clause-pair c =
    let p = c.index.result.now in
    let long : vec_len c.loop-next.self.found ≡ length c.loop-next.self.found.items = search rules in
    let within : c.loop-next.next < length c.loop-next.self.found.items = omega (arith, long, c.len.ensures, c.loop-next-test.true) in
    c.loop-next.invariant.paired.pairs p.0 p.1 (listed_at c.args.ours.now c.args.theirs.now c.loop-next.self c.loop-next.invariant.paired c.loop-next.next p within c.index.ensures)

pub loop-next-preserved : goal.loop-next-preserved
loop-next-preserved c =
    let T = c.args.ours.now in
    let U = c.args.theirs.now in
    let old = c.loop-next.self in
    let new = c.mark_fields.new.self in
    let p = c.index.result.now in
    let long : vec_len c.loop-next.self.found ≡ length c.loop-next.self.found.items = search rules in
    let within : c.loop-next.next < length c.loop-next.self.found.items = omega (arith, long, c.len.ensures, c.loop-next-test.true) in
    let listed = listed_at T U old c.loop-next.invariant.paired c.loop-next.next p within c.index.ensures in
    let pair : IsPair T U p.0 p.1 = c.loop-next.invariant.paired.pairs p.0 p.1 listed in
    let grows = c.in_ok-mark_fields.ensures.gains.grows in
    let more = no_fewer old new grows in
    record {
      paired = c.in_ok-mark_fields.ensures.gains.paired;
      grows = grows_on c.args.self.now old new c.loop-next.invariant.grows grows;
      closed = closed_more T U old new c.loop-next.next p grows within c.index.ensures c.loop-next.invariant.closed (λ type l. c.in_ok-mark_fields.ensures.next type l);
      reached = λ service only. reached_on T U service old new p.0 p.1 pair (p.1, listed) (c.loop-next.invariant.reached service only) c.in_ok-mark_fields.ensures.gains;
      within = omega (arith, more, within);
    }

pub returns-clause-closed : goal.returns-clause-closed
returns-clause-closed c =
    let long : vec_len c.loop-next.self.found ≡ length c.loop-next.self.found.items = search rules in
    closed_all c.args.ours.now c.args.theirs.now c.loop-next.self c.loop-next.next c.loop-next.invariant.paired.listed (omega (arith, long, c.len.ensures, c.loop-next-test.false))
    c.loop-next.invariant.closed
