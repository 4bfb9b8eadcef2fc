use Rattle.std.proofs.lemmas.Str.{IsUtf8-from_ascii}
use Rattle.wire_decode.proofs.read.is_text.Goals as goal

pub returns-then-is_ascii-clause-yes : goal.returns-then-is_ascii-clause-yes
returns-then-is_ascii-clause-yes c ascii = IsUtf8-from_ascii c.args.bytes.now c.if-is_ascii.ensures.cases
