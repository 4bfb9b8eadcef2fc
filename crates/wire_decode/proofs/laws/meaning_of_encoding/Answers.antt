use Rattle.wire_base.specs.Encoding.{encoding}
use Rattle.wire_decode.proofs.UsableTables.{usable-valid, valid-ascends}
use Rattle.wire_decode.proofs.EncodedMeaning.{encoded-meaning}
use Rattle.wire_decode.proofs.laws.meaning_of_encoding.Goals as goal

pub returns : goal.returns
returns c = λ T msg t valid known normal few.
    c.rules_and_reader_agree.ensures.meant T msg (encoding T msg t) t (valid-ascends T valid) (encoded-meaning c.varint_is_read_back.ensures.read T msg t (usable-valid T valid) normal few)
