use Rattle.std.proofs.Common.{◌≡◌, ℕ, sym, subst, arith}
use Rattle.std.proofs.lemmas.Result.{on_ok_weaker}
use Rattle.std.specs.Float.{binary32}
use Rattle.text_format.specs.Numbers.{IsFloatText}
use Rattle.text_format.proofs.numbers.put_float.Goals as goal

pub returns : goal.returns
returns c =
    let same : c.in-Ok.bits ≡ c.args.word = omega (arith, c.in-Ok.ensures) in
    let shown = subst (λ (n : ℕ). IsFloatText binary32 n c.as_slice.result.now) same (subst (IsFloatText binary32 c.in-Ok.bits) (sym c.as_slice.ensures) c.in_ok-text.ensures) in
    on_ok_weaker c.append.result (λ h. (c.as_slice.result.now, shown, h)) c.append.ensures.ok
