use Rattle.std.proofs.Common.{arith}
use Rattle.table_text.proofs.PlaceLemmas.{holds_push}
use Rattle.table_text.proofs.name_index.NameIndex.add.Goals as goal

pub returns : goal.returns
returns c names h =
    holds_push c.args.self.now _ names c.args.name.now c.in_ok-keep.ensures.places (omega arith) h
