use Rattle.std.proofs.Common.{refl}
use Rattle.std.proofs.lemmas.Result.{on_ok_weaker}
use Rattle.std.specs.Fmt.{signed_decimal}
use Rattle.text_format.specs.Numbers.{named, unnamed}
use Rattle.std.specs.Int.{w64, cast_signed}
use Rattle.text_format.proofs.enum_values.put_enum_value.Goals as goal

pub returns-in-Some : goal.returns-in-Some
returns-in-Some c = on_ok_weaker c.append.result (λ is. (c.in-Some.name.now, named (rw c.enum_values.ensures.value at c.in-Some.ensures.found), is)) c.append.ensures.ok

pub returns-in-None : goal.returns-in-None
returns-in-None c =
    on_ok_weaker c.put_signed.result
    (λ is. (
      signed_decimal (cast_signed w64 c.args.word),
      unnamed (rw c.enum_values.ensures.value at c.in-None.ensures.absent) refl,
      is,
    )) c.put_signed.ensures
