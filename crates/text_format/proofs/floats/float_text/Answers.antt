use Rattle.std.proofs.Common.{rules}
use Rattle.std.proofs.lemmas.Result.{IfOk-weaker}
use Rattle.std.proofs.lemmas.Float.{not_nan_f32_bits}
use Rattle.text_format.specs.Numbers.{not_a_number, reads_back}
use Rattle.text_format.proofs.NoNumbers.{beyond_float}
use Rattle.text_format.proofs.floats.float_text.Goals as goal

pub returns-then-bits-gt-INFINITE : goal.returns-then-bits-gt-INFINITE
returns-then-bits-gt-INFINITE c = IfOk-weaker c.from_slice.result _ _ (λ text is. not_a_number (beyond_float c.args.bits (search rules)) is) c.from_slice.ensures

pub float_digits-requires : goal.float_digits-requires
float_digits-requires c = not_nan_f32_bits c.args.bits (search rules)

pub returns : goal.returns
returns c = IfOk-weaker c.float_digits.result _ _ (λ text is. reads_back (not_nan_f32_bits c.args.bits (search rules)) is) c.float_digits.ensures
