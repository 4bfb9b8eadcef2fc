use Rattle.std.proofs.Common.{ℕ, Option, sym, ap, ◌∙◌, subst}
use Rattle.toml.specs.View.{table_view}
use Rattle.scenario.specs.Applications.{IsLinkFault}
use Rattle.scenario.specs.Keys.{end_a}
use Rattle.scenario.specs.Reasons.{IsSoFar}
use Rattle.scenario.specs.declared.fault.ScenarioReason.{ScenarioReason}
use Rattle.scenario_toml.specs.Values.{number_or_default}
use Rattle.scenario_entries.specs.AppConnections.{first_link_reason}
use Rattle.scenario_entries.proofs.Linked.{link_is, link_keys_first, link_number_first}
use Rattle.scenario_entries.proofs.link.read_link.Goals as goal

pub returns-then-not-has_link_keys : goal.returns-then-not-has_link_keys
returns-then-not-has_link_keys c = λ all links on says.
    link_keys_first all links (table_view c.args.entry.now) (sym c.has_link_keys.ensures ∙ c.if-not-has_link_keys.true)

pub returns-then-not-has_ends : goal.returns-then-not-has_ends
returns-then-not-has_ends c = λ all links on says.
    link_number_first all links (table_view c.args.entry.now) (sym c.has_link_keys.ensures ∙ c.if-not-has_link_keys.false)
    (sym c.has_ends.ensures ∙ c.if-not-has_ends.true)

pub returns-in-Some : goal.returns-in-Some
returns-in-Some c = λ all links on says.
    let ms = table_view c.args.entry.now in
    let keys = sym c.has_link_keys.ensures ∙ c.if-not-has_link_keys.false in
    let within = sym c.has_ends.ensures ∙ c.if-not-has_ends.false in
    let ports = c.args.ports.now in
    let before = c.args.before.now in
    let told =
    c.first_link_reason.ensures ∙ ap (λ (n : ℕ). first_link_reason ports before n c.second_end-b.result) c.first_end-a.ensures
    ∙ ap (λ (n : ℕ). first_link_reason ports before (number_or_default end_a ms) n) c.second_end-b.ensures in
    subst (λ (o : Option ScenarioReason). IsSoFar (IsLinkFault all links ms) o) (sym told ∙ c.in-Some.is) (link_is all links ms ports before on says keys within)

pub returns-in-None : goal.returns-in-None
returns-in-None c = λ all links on says.
    let ms = table_view c.args.entry.now in
    let keys = sym c.has_link_keys.ensures ∙ c.if-not-has_link_keys.false in
    let within = sym c.has_ends.ensures ∙ c.if-not-has_ends.false in
    let ports = c.args.ports.now in
    let before = c.args.before.now in
    let told =
    c.first_link_reason.ensures ∙ ap (λ (n : ℕ). first_link_reason ports before n c.second_end-b.result) c.first_end-a.ensures
    ∙ ap (λ (n : ℕ). first_link_reason ports before (number_or_default end_a ms) n) c.second_end-b.ensures in (
      subst (λ (o : Option ScenarioReason). IsSoFar (IsLinkFault all links ms) o) (sym told ∙ c.in-None.is) (link_is all links ms ports before on says keys within),
      record { a = c.first_end-a.ensures; b = c.second_end-b.ensures },
    )
