use Rattle.std.proofs.Common.{◌≤◌, length, ap, arith}
use Rattle.schema_validation.proofs.LinesAdded.{covers_class, no_service}
use Rattle.schema_validation.proofs.lines.add_methods.Goals as goal

pub returns : goal.returns
returns c =
    let F = c.args.files.now in
    let all : length F.services ≤ c.loop-i.i =
    omega (arith, ap length c.services-all.ensures, c.loop-i-test.false) in
    covers_class F 2 c.loop-i.i c.loop-i.lines.items c.loop-i.invariant.covers (no_service F c.loop-i.i all)
