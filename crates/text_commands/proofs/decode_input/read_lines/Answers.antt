use Rattle.std.proofs.Common.{◌≡◌, ℕ, List, ◌+◌, ◌∙◌, arith}
use Rattle.text_commands.specs.DecodeInput.{IsFaultOfTable}
use Rattle.text_commands.proofs.DecodeTexts.{on_fault}
use Rattle.text_commands.proofs.decode_input.read_lines.Goals as goal

pub overflow_add-line : goal.overflow_add-line
overflow_add-line c =
    let first = rw c.in-Err-At.field-0-is at c.in-Err-At.ensures.fault in
    omega (arith, c.table_fault_is_unique.ensures.place c.args.text.now c.in-Err-At.line c.in-Err-At.reason first)

pub returns-in-Err-At-clause-cut : goal.returns-in-Err-At-clause-cut
returns-in-Err-At-clause-cut c =
    let first = rw c.in-Err-At.field-0-is at c.in-Err-At.ensures.fault in
    on_fault (λ (place : ℕ) (word : List ℕ). (place ≡ c.in-Err-At.line + 2) × (word ≡ c.word.result.now)) (IsFaultOfTable c.args.text.now) c.fault.result
    (λ place word told. record { at = c.in-Err-At.line; reason = c.in-Err-At.reason; first = first; line_is = told.0; word_is = told.1 ∙ c.word.ensures })
    c.fault.ensures.fault
