use Rattle.std.proofs.Common.{rules, ◌≡◌, ◌∷◌, ◌++◌, [], List, ℕ, ◌∙◌}
use Rattle.mrpc_table.specs.Text.{spaced}
use Rattle.audit_text.specs.LineWords.{line_words}
use Rattle.audit_text.proofs.WholeLines.{bytes-line, whole-only, whole-told}
use Rattle.audit_text.proofs.line.read_line.Goals as goal

pub returns-in_default-clause-only : goal.returns-in_default-clause-only
returns-in_default-clause-only c =
    λ x holds e.
    let none : (front : List ℕ) → c.args.line.now ≡ front ++ 10 ∷ [] → ⊥ = search rules in
    absurd (none (spaced (line_words c.args.table.now x)) (e ∙ bytes-line c.args.table.now x))

pub returns-clause-told : goal.returns-clause-told
returns-clause-told c =
    let is : c.args.line.now ≡ c.in-Some.text.now ++ 10 ∷ [] = search rules in
    whole-told c.args.table.now c.args.declared.now c.args.line.now c.in-Some.text.now c.line_of.result is c.line_of.ensures

pub returns-clause-only : goal.returns-clause-only
returns-clause-only c =
    let is : c.args.line.now ≡ c.in-Some.text.now ++ 10 ∷ [] = search rules in
    whole-only c.line_splits_into_words.ensures.happening c.line_splits_into_words.ensures.stands
    c.history_of_text_is_unique.ensures.front c.stands_line_determines_call.ensures.apart
    c.stands_line_determines_call.ensures.one c.args.table.now c.requires c.args.declared.now c.args.line.now c.in-Some.text.now c.line_of.result is c.line_of.ensures
