use Rattle.std.proofs.Common.{◌≡◌, ◌∙◌, ap, sym, length, vec_len, rules, true, false, eq-eqb}
use Rattle.wire_decode.proofs.Merging.{pairs-some}
use Rattle.wire_decode.proofs.merge.pairs.Goals as goal

pub returns-else-is_empty : goal.returns-else-is_empty
returns-else-is_empty c = pairs-some c.args.entries.items (λ e.
    let n : vec_len c.args.entries ≡ length c.args.entries.items = search rules in
    let none : vec_len c.args.entries ≡ 0 = n ∙ ap length e in
    let bad : true ≡ false = sym (eq-eqb (vec_len c.args.entries) 0 none) ∙ sym c.is_empty.ensures ∙ c.if-is_empty.false in
    cc)
