use Rattle.std.proofs.Common.{◌≤◌, ◌+◌, ◌-◌, ◌==◌, ◌∷◌, List, ℕ, length, take, drop, arith, ap, sym, ◌∙◌, length-drop, eq-eqb}
use Rattle.std.proofs.lemmas.List.{take_all}
use Rattle.std.specs.List.{slice_split}
use Rattle.mrpc_table.proofs.Cuts.{cut_at, cut_none}
use Rattle.mrpc_table.proofs.words.split_once.Goals as goal

pub returns-then-byte-separator-clause-parts : goal.returns-then-byte-separator-clause-parts
returns-then-byte-separator-clause-parts c =
    let rest = drop (c.loop-i.i + 1) c.args.text.now in
    let le : length rest ≤ length c.args.text.now - (c.loop-i.i + 1) = omega (arith, length-drop (c.loop-i.i + 1) c.args.text.now) in
    cut_at c.args.separator c.args.text.now c.loop-i.i c.loop-i-test.true c.loop-i.invariant (eq-eqb _ _ c.if-byte-separator.true)
    ∙ ap (λ (r : List ℕ). take c.loop-i.i c.args.text.now ∷ slice_split (λ b. b == c.args.separator) r) (sym (take_all (length c.args.text.now - (c.loop-i.i + 1)) rest le))

pub returns-clause-parts : goal.returns-clause-parts
returns-clause-parts c = cut_none c.args.separator c.args.text.now (λ k within. c.loop-i.invariant k (omega arith))
