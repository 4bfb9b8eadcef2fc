use Rattle.std.proofs.Common.{ℕ, Bool, List, map, Option, sym, ap, ◌∙◌, subst}
use Rattle.std.specs.Prelude.{is_none}
use Rattle.std.specs.Borrow.{Bor}
use Rattle.std.specs.List.{list_any}
use Rattle.policy_declarations.specs.Declarations.{policy_index}
use Rattle.scenario.specs.Reasons.{IsSoFar, lower_ranked, reason_if}
use Rattle.scenario.specs.declared.fault.ScenarioReason.{ScenarioReason}
use Rattle.scenario.specs.declared.fault.ScenarioReason.TheVariants.{Name, Unknown}
use Rattle.scenario_entries.specs.FirstReasons.{is_not_name}
use Rattle.scenario_entries.specs.Owning.{IsNamesFault}
use Rattle.scenario_entries.proofs.Asking.{any_map, names_first}
use Rattle.scenario_entries.proofs.names.names_reason.Goals as goal

pub returns : goal.returns
returns c = λ entries same.
    let d = c.args.declared.now in
    let names = map (λ (n : Bor (List ℕ)). n.now) c.args.names.now in
    let formless = c.has_invalid_name.ensures ∙ any_map (λ (n : Bor (List ℕ)). n.now) is_not_name c.args.names.now in
    let missing = c.has_undeclared_name.ensures ∙ any_map (λ (n : Bor (List ℕ)). n.now) (λ n. is_none (policy_index d n)) c.args.names.now in
    let told =
    ap (λ (b : Bool). lower_ranked (reason_if b Name) (reason_if (list_any (λ n. is_none (policy_index d n)) names) Unknown)) (sym formless)
    ∙ ap (λ (b : Bool). lower_ranked (reason_if c.has_invalid_name.result Name) (reason_if b Unknown)) (sym missing)
    ∙ sym (c.earlier.ensures ∙ ap (λ (o : Option ScenarioReason). lower_ranked o c.reason_if-2.result) c.reason_if.ensures
    ∙ ap (lower_ranked (reason_if c.has_invalid_name.result Name)) c.reason_if-2.ensures) in
    subst (λ (o : Option ScenarioReason). IsSoFar (IsNamesFault entries names) o) told (names_first d entries same names)
