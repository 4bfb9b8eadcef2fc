use Rattle.std.proofs.Common.{rules, append_assoc}
use Rattle.std.proofs.lemmas.Result.{IfOk-equal}
use Rattle.table_text.proofs.text.put_method_head.Goals as goal

pub returns : goal.returns
returns c = search (rules, IfOk-equal, append_assoc)
