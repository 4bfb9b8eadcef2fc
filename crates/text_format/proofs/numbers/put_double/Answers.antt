use Rattle.std.proofs.Common.{sym, subst}
use Rattle.std.proofs.lemmas.Result.{on_ok_weaker}
use Rattle.std.specs.Float.{binary64}
use Rattle.text_format.specs.Numbers.{IsFloatText}
use Rattle.text_format.proofs.numbers.put_double.Goals as goal

pub returns : goal.returns
returns c =
    let shown = subst (IsFloatText binary64 c.args.word) (sym c.as_slice.ensures) c.in_ok-text.ensures in
    on_ok_weaker c.append.result (λ h. (c.as_slice.result.now, shown, h)) c.append.ensures.ok
