use Rattle.std.proofs.Common.{◌≡◌, ℕ, ◌+◌, ◌/◌, ◌%◌, [], ◌∷◌, ◌++◌, List, drop, length, ap, sym, ◌∙◌, append_assoc, arith, rules}
use Rattle.std.specs.Fmt.{decimal}
use Rattle.std.proofs.lemmas.Fmt.{decimal_digit, decimal_step}
use Rattle.std.proofs.lemmas.List.{length-append}
use Rattle.wire_encode.specs.Written.{AreWrittenBefore}
use Rattle.audit_text.proofs.Written.{if-some}
use Rattle.audit_text.proofs.row.put_number.Goals as goal

pub loop-left-preserved : goal.loop-left-preserved
loop-left-preserved c =
    let left = c.loop-left.left in
    let front = decimal (left / 10) in
    let digit : List ℕ = (48 + left % 10) ∷ [] in
    let behind = drop c.loop-left.start c.loop-left.row in
    let before = c.loop-left.invariant in
    let here : AreWrittenBefore c.loop-left.row c.put_byte.new.row c.loop-left.start c.in_ok-start.start digit = c.in_ok-start.ensures in
    let step : decimal left ≡ front ++ digit = decimal_step left (omega (arith, c.loop-left-test.true)) (search rules) in
    record {
      within = omega (arith, here.place, before.within);
      place = omega (arith, here.place, before.place, ap length step, length-append front digit);
      written = ap (λ l. front ++ l) here.written ∙ sym (append_assoc front digit behind) ∙ ap (λ l. l ++ behind) (sym step) ∙ before.written;
    }

pub returns : goal.returns
returns c =
    let left = c.loop-left.left in
    let before = c.loop-left.invariant in
    let digit : AreWrittenBefore c.loop-left.row c.put_byte-2.new.row c.loop-left.start c.in_ok-start-2.start ((48 + left) ∷ []) = c.in_ok-start-2.ensures in
    let one : decimal left ≡ (48 + left) ∷ [] = decimal_digit left (omega (arith, c.loop-left-test.false)) in
    if-some c.put_byte-3.result _ _ c.put_byte-3.ensures (λ start space.
    record {
      place = omega (arith, space.place, digit.place, before.place, ap length one);
      written = space.written ∙ ap (λ l. 32 ∷ l) (digit.written ∙ ap (λ l. l ++ drop c.loop-left.start c.loop-left.row) (sym one) ∙ before.written);
    })
