use Rattle.std.proofs.Common.{sym, subst, List, ℕ}
use Rattle.policy_redact.specs.Texts.{IsTextOf}
use Rattle.policy_redact.proofs.ReadLemmas.{only-it}
use Rattle.policy_redact.proofs.read.read_redact.Goals as goal

pub returns-clause-only : goal.returns-clause-only
returns-clause-only c policy text =
    only-it c.args.table.now c.as_slice.result.now c.read_lines.result policy c.read_lines.ensures.accepted c.read_lines.ensures.fault
    (subst (λ (ls : List (List ℕ)). IsTextOf c.args.table.now ls policy) (sym c.as_slice.ensures) text)
