use Rattle.std.proofs.Common.{◌≡◌, ℕ, List, slice_get, sym, ◌∙◌, ap}
use Rattle.std.specs.Prelude.{None}
use Rattle.std.proofs.lemmas.Bool.{OnFalse_from}
use Rattle.std.proofs.lemmas.Grind.{common_steps}
use Rattle.std.proofs.Common.{arith}
use Rattle.call_history.specs.Trace.{pending_calls}
use Rattle.audit_rules.specs.CheckerState.{pending_numbers}
use Rattle.audit_rules.proofs.Sends.{none-first}
use Rattle.audit_rules.proofs.checker.Checker.awaits_link.Goals as goal

pub returns-then-self-clause-none : goal.returns-then-self-clause-none
returns-then-self-clause-none c = λ T past knows. OnFalse_from c.is_some.result _ (λ off awaits.
    (let none : slice_get (pending_numbers c.args.self.now) 0 ≡ None = grind (arith, common_steps, off, c.first_pending.ensures, c.is_some.ensures) in
    awaits.some_pending (none-first (pending_calls past) (ap (λ (ns : List ℕ). slice_get ns 0) (sym knows.numbers) ∙ none))))
