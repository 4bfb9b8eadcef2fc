use Rattle.std.proofs.Common.{◌∷◌, [], length, map, subst, sym}
use Rattle.std.specs.Fmt.{decimal}
use Rattle.wire_encode.specs.Written.{AreWrittenBefore}
use Rattle.audit_text.proofs.Pieces.{line-pieces}
use Rattle.audit_text.proofs.Written.{if-some, in-front}
use Rattle.audit_text.proofs.row.put_line.Goals as goal

pub returns : goal.returns
returns c =
    let row = c.args.row.now in
    let feed : AreWrittenBefore row c.put_byte.new.row (length row) c.in_ok-feed.feed (10 ∷ []) = c.in_ok-feed.ensures in
    if-some c.put_prefix.result _ _ c.put_prefix.ensures (λ start front.
    subst (λ bytes. AreWrittenBefore row c.put_prefix.new.row (length row) start bytes) (sym (line-pieces c.args.word.now (map decimal c.args.numbers.now))) (in-front start feed front))
