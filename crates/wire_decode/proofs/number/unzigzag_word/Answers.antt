use Rattle.std.proofs.Common.{◌≡◌, ap, sym, ◌∙◌, arith}
use Rattle.std.proofs.lemmas.Int.{ints}
use Rattle.std.specs.Int.{w64, cast_unsigned}
use Rattle.wire_decode.specs.Words.{unzigzag_of}
use Rattle.wire_decode.proofs.SpelledNumbers.{unzigzag-back}
use Rattle.wire_decode.proofs.number.unzigzag_word.Goals as goal

pub returns : goal.returns
returns c =
    let same : c.cast_unsigned.result ≡ cast_unsigned w64 c.unzigzag.result = omega (arith, ints, c.cast_unsigned.ensures, c.unzigzag.type_inv) in
    same ∙ sym (unzigzag-back (cast_unsigned w64 c.unzigzag.result) (omega (arith, ints, c.unzigzag.type_inv))) ∙ ap unzigzag_of c.unzigzag.ensures.reads
