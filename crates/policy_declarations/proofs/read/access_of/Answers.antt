use Rattle.std.proofs.Common.{ℕ, ◌+◌, List, length, sym, subst}
use Rattle.policy_access.specs.Faults as faults
use Rattle.policy_access.specs.Texts as texts
use Rattle.mrpc_table.specs.Lines.{whole_lines}
use Rattle.script_grammar.specs.declared.fault.ScriptFault.TheVariants.{At}
use Rattle.script_grammar.specs.declared.fault.ScriptReason.TheVariants.{Word}
use Rattle.policy_declarations.specs.Blocks.{kept_lines}
use Rattle.policy_declarations.specs.Reading.{inner_lines, IsRemainder, IsScriptFaultAfterHead}
use Rattle.policy_declarations.specs.declared.declaration_form.DeclarationForm.TheVariants.{Access}
use Rattle.policy_declarations.proofs.ItemReading.{broken, endless, access_first, access_fault}
use Rattle.policy_declarations.proofs.read.access_of.Goals as goal

pub returns-in-Err : goal.returns-in-Err
returns-in-Err c =
    let T = c.args.table.now in
    let text = c.args.text.now in
    let block = c.in_ok-block.block in
    let fault = c.in-Err.fault in
    let first = subst (λ (ls : List (List ℕ)). faults.IsFaultOf T ls fault) c.in_ok-block.ensures.lines c.in-Err.ensures.fault in
    subst (IsScriptFaultAfterHead T c.args.skips Access text) (sym c.declaration_fault.ensures)
    (access_fault T c.args.skips text _
    (broken (faults.IsFirstFault T) (λ ls. c.first_fault_is_unique.ensures T ls) c.args.skips text block.rest fault
    c.in_ok-block.ensures.rest (access_first T _ fault first)))

pub returns-in_default : goal.returns-in_default
returns-in_default c =
    let T = c.args.table.now in
    let text = c.args.text.now in
    let policy = c.in-Ok.policy in
    let left = subst (IsRemainder text) c.in_default.is c.in_ok-block.ensures.rest in
    let whole = c.in-Ok.ensures.accepted in
    subst (IsScriptFaultAfterHead T c.args.skips Access text) (sym c.missing_end_fault.ensures)
    (access_fault T c.args.skips text (At (length (whole_lines text) + 2) Word)
    (endless (faults.IsFirstFault T) c.args.skips text left
    (λ n q first. c.text_or_fault.ensures.not_both T (kept_lines c.args.skips (inner_lines text)) policy n q
    (subst (λ (ls : List (List ℕ)). texts.IsTextOf T ls policy) c.in_ok-block.ensures.lines whole) first)))
