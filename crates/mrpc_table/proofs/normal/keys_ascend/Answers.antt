use Rattle.std.proofs.Common.{arith, refl}
use Rattle.mrpc_table.proofs.FitLemmas.{keys_end}
use Rattle.mrpc_table.proofs.normal.keys_ascend.Goals as goal

pub returns : goal.returns
returns c =
    let last = keys_end c.args.kind c.args.entries.now c.loop-i.i (omega arith) in
    (λ t. c.loop-i.invariant.1 last, λ up. refl)
