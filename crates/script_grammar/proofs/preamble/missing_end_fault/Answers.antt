use Rattle.std.proofs.Common.{◌++◌, List, ℕ, refl, sym, ap, subst, ◌∙◌, inr}
use Rattle.script_grammar.specs.Preambles.{IsFaultOfPreamble, no_end}
use Rattle.script_grammar.proofs.OneFront.{table_fault_of}
use Rattle.script_grammar.proofs.preamble.missing_end_fault.Goals as goal
use Rattle.script_grammar.proofs.preamble.missing_end_fault.Goals.{in-Ok, in-Err}

pub returns : goal.returns
returns c =
    let first_line = c.args.first.now in
    let text = c.args.text.now in
    let head = c.args.head in
    elim c.match-table_of.branch [
      | in-Ok w ↦
          let read = w.in-Ok.ensures.table in
          let whole = c.requires.endless.text_is ∙ ap (λ (t : List ℕ). head.front.now ++ t) read.1 in
          subst (IsFaultOfPreamble first_line text) (sym (w.result-is ∙ w.fault_after.ensures)) (no_end head.front.now head.loads w.in-Ok.field-0 c.requires.head read.0 whole refl refl)
      | in-Err w ↦
          subst (IsFaultOfPreamble first_line text) (sym w.result-is)
          (table_fault_of first_line text head.front.now head.behind.now head.loads w.in-Err.fault c.requires.head (inr c.requires.endless) w.in-Err.ensures.fault)
    ]
