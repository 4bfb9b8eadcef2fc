use Rattle.std.proofs.Common.{arith}
use Rattle.table_text.proofs.ReachLemmas.{cut_parts}
use Rattle.table_text.proofs.reach.long_parts.Goals as goal

pub returns : goal.returns
returns c =
    let parts = cut_parts 65536 c.args.text.now _ c.in_ok-far.far.now (omega arith) c.in_ok-far.ensures.parts in
    record { lines = parts.0; passes = parts.1 }
