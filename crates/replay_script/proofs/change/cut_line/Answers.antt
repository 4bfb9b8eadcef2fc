use Rattle.std.proofs.Common.{◌+◌, ◌∷◌, List, ℕ, take, sym, ap, ◌∙◌}
use Rattle.std.proofs.lemmas.List.{take_rest}
use Rattle.mrpc_table.specs.Lines.{pieces_of}
use Rattle.replay_script.proofs.Cuts.{found, nowhere}
use Rattle.replay_script.proofs.change.cut_line.Goals as goal

pub returns-in_err-at-clause-parts : goal.returns-in_err-at-clause-parts
returns-in_err-at-clause-parts c = rw c.from_residual.ensures (nowhere c.args.text.now c.in_err-at.ensures)

pub returns-clause-parts : goal.returns-clause-parts
returns-clause-parts c =
    let text = c.args.text.now in
    let at = c.in_ok-at.at in
    found text at c.in_ok-at.ensures ∙ ap (λ (l : List ℕ). take at text ∷ pieces_of l) (sym (take_rest text (at + 1)))
