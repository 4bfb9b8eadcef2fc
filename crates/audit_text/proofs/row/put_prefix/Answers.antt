use Rattle.std.proofs.Common.{map}
use Rattle.std.specs.Fmt.{decimal}
use Rattle.mrpc_table.specs.Lines.{after_spaces}
use Rattle.wire_encode.specs.Written.{AreWrittenBefore}
use Rattle.audit_text.proofs.Written.{if-some, in-front}
use Rattle.audit_text.proofs.row.put_prefix.Goals as goal

pub returns : goal.returns
returns c =
    let numbers : AreWrittenBefore c.args.row.now c.put_numbers.new.row c.args.end c.in_ok-start.start (after_spaces (map decimal c.args.numbers.now)) = c.in_ok-start.ensures in
    if-some c.put_bytes.result _ _ c.put_bytes.ensures (λ start front. in-front start numbers front)
