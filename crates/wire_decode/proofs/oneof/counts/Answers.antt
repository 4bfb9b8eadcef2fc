use Rattle.std.proofs.Common.{◌∙◌, sym}
use Rattle.wire_decode.proofs.Oneofs.{counted-other}
use Rattle.wire_decode.proofs.oneof.counts.Goals as goal

pub returns-in-None : goal.returns-in-None
returns-in-None c = counted-other c.args.fields.now c.args.behind.now.items c.args.number (sym c.oneof_at.ensures.value ∙ c.in-None.is)
