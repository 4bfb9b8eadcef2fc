use Rattle.std.proofs.Common.{arith}
use Rattle.mrpc_table.proofs.MapRising.{rise-all}
use Rattle.mrpc_table.proofs.map_entries.ascends.Goals as goal

pub returns : goal.returns
returns c _ = rise-all c.args.key c.args.entries.now.items (λ i j d next within. c.loop-place.invariant i j d next (omega (arith, within)))
