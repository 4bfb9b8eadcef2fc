use Rattle.std.proofs.Common.{arith}
use Rattle.graph_copy.proofs.Short.{encoding-short}
use Rattle.graph_copy.proofs.size.copies_are_short.Goals as goal

pub returns : goal.returns
returns c = λ T H msg address P valid sound few. (let e = encoding-short c.varint_is_read_back.ensures.ten T msg P valid few in omega (arith, e))
