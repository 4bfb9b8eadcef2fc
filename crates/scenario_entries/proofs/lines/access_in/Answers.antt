use Rattle.std.proofs.Common.{ℕ, List, codes, subst}
use Rattle.mrpc_table.specs.declared.policy_lines.RuleFault.{RuleFault}
use Rattle.policy_access.specs.Faults as faults
use Rattle.policy_access.specs.Texts.{IsTextOf}
use Rattle.toml.specs.View.{table_view}
use Rattle.scenario_toml.specs.Values.{texts_at}
use Rattle.scenario_entries.proofs.lines.access_in.Goals as goal

pub returns-in-Ok : goal.returns-in-Ok
returns-in-Ok c =
    let T = c.args.table.now in
    let text = subst (λ (ls : List (List ℕ)). IsTextOf T ls c.in-Ok.access) c.in_ok-lines.ensures c.in-Ok.ensures.accepted in
    (text, λ why fails. c.text_or_fault.ensures.not_both T (texts_at (codes "rules") (table_view c.args.entry.now)) c.in-Ok.access fails.0 why text fails.1)

pub returns-in-Err-At : goal.returns-in-Err-At
returns-in-Err-At c =
    let T = c.args.table.now in
    let lines = texts_at (codes "rules") (table_view c.args.entry.now) in
    let moved = subst (λ (ls : List (List ℕ)). faults.IsFaultOf T ls c.in-Err-At.field-0) c.in_ok-lines.ensures c.in-Err-At.ensures.fault in
    let first = subst (λ (f : RuleFault). faults.IsFaultOf T lines f) c.in-Err-At.field-0-is moved in (
      (c.in-Err-At.field-0-0, first),
      λ other fails. (c.first_fault_is_unique.ensures T lines fails.0 c.in-Err-At.field-0-0 other c.in-Err-At.reason fails.1 first).1,
    )
