use Rattle.std.proofs.Common.{ℕ, List, map, ap, ◌∙◌, subst}
use Rattle.std.specs.Borrow.{Bor}
use Rattle.toml.specs.View.{table_view}
use Rattle.scenario.specs.Applications.{entry_conn, policy_tables, tenant_tables}
use Rattle.scenario.specs.Keys.{heap}
use Rattle.scenario.specs.Reasons.{IsSoFar}
use Rattle.scenario_toml.specs.Values.{number_or_default}
use Rattle.scenario_reader.specs.Joining.{HasAppHeadFault, IsRoleRead}
use Rattle.scenario_reader.proofs.Early.{early_is}
use Rattle.scenario_reader.proofs.application.early_in.Goals as goal

pub returns-clause-read : goal.returns-clause-read
returns-clause-read c = λ all T before above on is_role.
    let ms = table_view c.args.entry.now in
    let same = c.names_keep_index.ensures.names T (tenant_tables all) (policy_tables all) c.args.above.declared.now above.policies in
    let lines = ap (λ (xs : List (Bor (List ℕ))). map (λ n. n.now) xs) c.as_slice.ensures.value ∙ c.in_ok-lines.ensures in
    let names = ap (λ (xs : List (Bor (List ℕ))). map (λ n. n.now) xs) c.as_slice-2.ensures.value ∙ c.in_ok-names.ensures in
    let head =
    subst (λ (ns : List (List ℕ)). IsSoFar (HasAppHeadFault (policy_tables all) before (entry_conn ms) ns) c.head_reason-head.result) names
    (subst (λ (n : ℕ). IsSoFar (HasAppHeadFault (policy_tables all) before n (map (λ n. n.now) c.as_slice-2.result.now)) c.head_reason-head.result)
    c.number_of.ensures (c.head_reason-head.ensures (policy_tables all) before same on)) in
    let role =
    subst (λ (ls : List (List ℕ)). IsRoleRead c.args.role (number_or_default heap ms) ls c.in_ok-said.said) lines
    (subst (λ (n : ℕ). IsRoleRead c.args.role n (map (λ n. n.now) c.as_slice.result.now) c.in_ok-said.said) c.heap_in.ensures c.in_ok-said.ensures) in
    early_is all before ms c.args.role is_role c.head_reason-head.result c.in_ok-said.said c.in_ok-own.own head role
    (c.in_ok-own.ensures.read all T above) c.early_of.result c.early_of.ensures
