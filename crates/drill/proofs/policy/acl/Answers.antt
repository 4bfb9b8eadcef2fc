use Rattle.std.proofs.Common.{◌≡◌, ℕ, List, sym, subst}
use Rattle.std.proofs.lemmas.Result.{MatchResult-at_err}
use Rattle.mrpc_table.specs.Valid.{IsValid}
use Rattle.mrpc_table.specs.declared.table.Table.{Table}
use Rattle.mrpc_table.specs.declared.policy_lines.RuleFault.{RuleFault}
use Rattle.mrpc_table.specs.declared.policy_lines.RuleFault.TheVariants.{Memory}
use Rattle.policy_access.specs.Texts.{IsTextOf}
use Rattle.policy_access.specs.Verdict.{AccessPolicy}
use Rattle.drill.specs.Drill.{acl, schema}
use Rattle.drill.proofs.Policies.{text-of-acl}
use Rattle.drill.proofs.Promises.{schema-valid}
use Rattle.drill.proofs.policy.acl.Goals as goal

pub read_access-requires : goal.read_access-requires
read_access-requires c = subst (λ (T : Table). IsValid T) (sym c.requires) schema-valid

pub returns-in-Ok : goal.returns-in-Ok
returns-in-Ok c =
    let text : IsTextOf c.args.table.now c.in_ok-lines.lines acl =
    subst (λ (T : Table). IsTextOf T c.in_ok-lines.lines acl) (sym c.requires)
    (subst (λ (ls : List (List ℕ)). IsTextOf schema ls acl) (sym c.in_ok-lines.ensures) text-of-acl) in
    c.in-Ok.ensures.only acl text

pub unreachable-requires : goal.unreachable-requires
unreachable-requires c =
    let text : IsTextOf c.args.table.now c.in_ok-lines.lines acl =
    subst (λ (T : Table). IsTextOf T c.in_ok-lines.lines acl) (sym c.requires)
    (subst (λ (ls : List (List ℕ)). IsTextOf schema ls acl) (sym c.in_ok-lines.ensures) text-of-acl) in
    let none : c.in-Err-At.field-0 ≡ Memory =
    MatchResult-at_err (λ (read : AccessPolicy). read ≡ acl) (λ (fault : RuleFault). fault ≡ Memory) c.in-Err-At.field-0
    c.in-Err-At.is (c.read_access.ensures.only acl text) in
    let at = c.in-Err-At.field-0-is in
    cc
