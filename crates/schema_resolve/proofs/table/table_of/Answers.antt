use Rattle.std.proofs.lemmas.Result.{IfOk-weaker}
use Rattle.schema_resolve.proofs.TableParts.{made_is_table}
use Rattle.schema_resolve.proofs.TextParts.{text_short}
use Rattle.schema_resolve.proofs.table.table_of.Goals as goal

pub returns : goal.returns
returns c =
    IfOk-weaker c.made_table.result _ _
    (λ t made.
    made_is_table c.args.files.now t c.requires.formed c.requires.ordered c.requires.clean made
    (text_short c.args.files.now t c.requires.ordered c.requires.clean made))
    c.made_table.ensures
