use Rattle.std.proofs.Common.{rules}
use Rattle.std.proofs.lemmas.Result.{IfOk-weaker}
use Rattle.std.proofs.lemmas.Float.{not_nan_f64_bits}
use Rattle.text_format.specs.Numbers.{not_a_number, reads_back}
use Rattle.text_format.proofs.NoNumbers.{beyond_double}
use Rattle.text_format.proofs.floats.double_text.Goals as goal

pub returns-then-bits-gt-DOUBLE_INFINITE : goal.returns-then-bits-gt-DOUBLE_INFINITE
returns-then-bits-gt-DOUBLE_INFINITE c = IfOk-weaker c.from_slice.result _ _ (λ text is. not_a_number (beyond_double c.args.bits (search rules)) is) c.from_slice.ensures

pub double_digits-requires : goal.double_digits-requires
double_digits-requires c = not_nan_f64_bits c.args.bits (search rules)

pub returns : goal.returns
returns c = IfOk-weaker c.double_digits.result _ _ (λ text is. reads_back (not_nan_f64_bits c.args.bits (search rules)) is) c.double_digits.ensures
