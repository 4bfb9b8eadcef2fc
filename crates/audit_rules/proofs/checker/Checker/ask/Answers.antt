use Rattle.std.proofs.Common.{ℕ, List, subst}
use Rattle.std.specs.Prelude.{IfNone}
use Rattle.engine_core.specs.Chains.{Entry}
use Rattle.call_history.specs.Rules.{IsAt}
use Rattle.audit_rules.specs.CheckerState.{checker_context}
use Rattle.audit_rules.proofs.checker.Checker.ask.Goals as goal

pub returns-clause-none : goal.returns-clause-none
returns-clause-none c past knows =
    subst (λ (name : List ℕ). IfNone c.ask_named.result ((e : Entry) → IsAt (checker_context c.args.table.now c.args.self.now) past c.args.seq name e → ⊥))
    c.as_slice.ensures (c.ask_named.ensures.none past knows)
