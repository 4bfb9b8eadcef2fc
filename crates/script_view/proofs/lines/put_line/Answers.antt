use Rattle.std.proofs.Common.{◌≡◌, ℕ, List, [], ◌∷◌, ◌++◌, take, sym, ap, ◌∙◌, append_assoc, arith}
use Rattle.std.proofs.lemmas.List.{take_all}
use Rattle.std.proofs.lemmas.Result.{on_ok_weaker}
use Rattle.std.specs.List.{flat_map}
use Rattle.script_view.proofs.Numbered.{behind, numbered_line}
use Rattle.script_view.proofs.lines.put_line.Goals as goal

pub returns : goal.returns
returns c =
    let old = c.args.out.now in
    let word = c.args.word.now in
    let numbers = c.args.numbers.now in
    let front = word ++ flat_map behind (take c.loop-number.number-index numbers) in
    let all : take c.loop-number.number-index numbers ≡ numbers = take_all c.loop-number.number-index numbers (omega arith) in
    on_ok_weaker c.append-2.result
    (λ e. e ∙ ap (λ (t : List ℕ). t ++ 10 ∷ []) c.loop-number.invariant ∙ append_assoc old front (10 ∷ [])
    ∙ ap (λ (ns : List ℕ). old ++ ((word ++ flat_map behind ns) ++ 10 ∷ [])) all
    ∙ ap (λ (t : List ℕ). old ++ t) (sym (numbered_line word numbers)))
    c.append-2.ensures.ok
