use Rattle.std.proofs.Common.{◌≡◌, ◌∙◌, ap, sym, length, vec_len, rules, true, false, eq-eqb}
use Rattle.wire_decode.proofs.Merging.{many-some}
use Rattle.wire_decode.proofs.merge.many.Goals as goal

pub returns-else-is_empty : goal.returns-else-is_empty
returns-else-is_empty c = many-some c.args.values.items (λ e.
    let n : vec_len c.args.values ≡ length c.args.values.items = search rules in
    let none : vec_len c.args.values ≡ 0 = n ∙ ap length e in
    let bad : true ≡ false = sym (eq-eqb (vec_len c.args.values) 0 none) ∙ sym c.is_empty.ensures ∙ c.if-is_empty.false in
    cc)
