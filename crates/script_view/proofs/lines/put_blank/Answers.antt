use Rattle.std.proofs.Common.{arith}
use Rattle.std.proofs.lemmas.Fmt.{decimal_digit}
use Rattle.script_view.proofs.lines.put_blank.Goals as goal

pub returns : goal.returns
returns c = rw (c.from.ensures, decimal_digit 0 (omega arith)) at c.put_line.ensures
