use Rattle.std.proofs.Common.{◌+◌, ℕ, sym, ap, ◌∙◌}
use Rattle.script_grammar.specs.declared.fault.ScriptFault.TheVariants.{At}
use Rattle.script_grammar.specs.declared.fault.ScriptReason.TheVariants.{Word}
use Rattle.policy_declarations.proofs.InnerLines.{whole_count}
use Rattle.policy_declarations.proofs.block.missing_end_fault.Goals as goal

pub returns : goal.returns
returns c = ap (λ (n : ℕ). At (n + 2) Word) (c.line_count.ensures.count ∙ sym (whole_count c.args.text.now))
