use Rattle.std.proofs.Common.{take}
use Rattle.audit_text.proofs.Spelled.{by-bytes, spells-nothing}
use Rattle.audit_text.proofs.copy.message_in_row.Goals as goal

pub returns-in-Some : goal.returns-in-Some
returns-in-Some c =
    let bytes = take c.in-Some.count c.read_bytes.new.row in
    by-bytes c.args.table.now c.requires.valid c.args.message c.args.word.now bytes c.message_of_encoding.result c.in-Some.ensures.1 c.in-Some.ensures.2 c.message_of_encoding.ensures

pub returns-in-None : goal.returns-in-None
returns-in-None c = spells-nothing c.args.table.now c.requires.valid c.args.message c.args.word.now c.in-None.ensures
