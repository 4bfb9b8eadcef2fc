use Rattle.std.proofs.lemmas.Result.{on_ok_weaker}
use Rattle.text_format.specs.Numbers.{integral_text}
use Rattle.text_format.proofs.Wholes.{whole_shown}
use Rattle.text_format.proofs.numbers.put_number.Goals as goal

pub returns-in-Choice : goal.returns-in-Choice
returns-in-Choice c = rw c.in-Choice.is c.put_enum_value.ensures

pub returns-in-Float : goal.returns-in-Float
returns-in-Float c = rw c.in-Float.is c.put_float.ensures

pub returns-in-Double : goal.returns-in-Double
returns-in-Double c = rw c.in-Double.is c.put_double.ensures

pub returns-in_default : goal.returns-in_default
returns-in_default c =
    let shown = whole_shown c.args.table.now c.args.kind c.args.word c.in_default.not-Choice c.in_default.not-Float c.in_default.not-Double in
    on_ok_weaker c.put_integral.result (λ h. (integral_text c.args.kind c.args.word, shown, h)) c.put_integral.ensures
