use Rattle.std.proofs.Common.{◌≡◌, ℕ, List, [], ◌∷◌, ◌++◌, refl, ap, ◌∙◌, arith, append_assoc, map}
use Rattle.std.specs.List.{flat_map}
use Rattle.std.proofs.lemmas.Grind.{common_steps}
use Rattle.std.specs.Fmt.{decimal}
use Rattle.mrpc_table.specs.Lines.{after_spaces}
use Rattle.mrpc_table.proofs.sequence.Sequence+u8.append_row.Goals as goal

-- numbers, each after a space
numbers-spaced : (ns : List ℕ) → flat_map (λ n. 32 ∷ decimal n) ns ≡ after_spaces (map decimal ns)
numbers-spaced [] = refl
numbers-spaced (n ∷ ns) = ap (λ l. 32 ∷ decimal n ++ l) (numbers-spaced ns)

pub returns : goal.returns
returns c =
    let old = c.args.self.now in
    let numbers = c.args.numbers.now in
    let front = c.args.front.now in
    let pieces = flat_map (λ n. 32 ∷ decimal n) numbers in
    let made : c.loop-number.self ≡ (old ++ front) ++ pieces = grind (arith, common_steps) in
    made ∙ append_assoc old front pieces ∙ ap (λ l. old ++ (front ++ l)) (numbers-spaced numbers)
