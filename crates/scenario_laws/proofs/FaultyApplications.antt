-- Applications without faults can't be without a meaning.
use Rattle.std.proofs.Common.{◌≡◌, ℕ, List, map, Contains, Option, Some, None, option_and_then, option_to_list, refl, ap, inl, inr}
use Rattle.std.specs.Prelude.{codes}
use Rattle.std.proofs.lemmas.List.Elements.{Contains-append_left, Contains-append_right}
use Rattle.app_program.specs.declared.program.ProgramLine.{ProgramLine}
use Rattle.policy_declarations.specs.declared.declaration.NamedPolicy.{NamedPolicy}
use Rattle.run_plan.specs.declared.application.Application.{Application}
use Rattle.run_plan.specs.declared.application.Role.{Role}
use Rattle.run_plan.specs.declared.application.Role.TheVariants as plan_role
use Rattle.toml.specs.Data.{Members}
use Rattle.scenario_lines.specs.Lines.{IsProgramLineMeaning}
use Rattle.scenario_lines.specs.Programs.{Each, in_line}
use Rattle.scenario_lines.specs.declared.form.ProgramRole.{ProgramRole}
use Rattle.scenario_lines.specs.declared.form.ProgramRole.TheVariants as of
use Rattle.scenario_toml.specs.Values.{number_or_default, text_at}
use Rattle.scenario.specs.Applications.{IsAppFault, app_tables, chain_names, entry_conn, policies_named_in, operator_tables, policy_tables, program_lines_of, tenant_tables}
use Rattle.scenario.specs.Applications as against
use Rattle.scenario.specs.Keys.{has_app_keys, heap, receive, ring, entry_role, weight}
use Rattle.scenario.specs.Lines.{program_role}
use Rattle.scenario.specs.Operators.{IsOperatorFault}
use Rattle.scenario.specs.Reasons.{reason_of_line}
use Rattle.scenario.specs.Scenarios.{IsAppMeaning, IsRoleMeaning, policy_entry_index}
use Rattle.scenario.specs.declared.fault.ScenarioReason.{ScenarioReason}
use Rattle.scenario.specs.declared.fault.ScenarioReason.TheVariants.{Key, Unknown}
use Rattle.scenario.specs.declared.entry_words.RoleWord.{RoleWord}
use Rattle.scenario.specs.declared.entry_words.RoleWord.TheVariants as role
use Rattle.scenario_laws.proofs.Lines.{OneJudgement, line_either}
use Rattle.scenario_laws.proofs.FaultyLists.{AreFree, CanBe, each_by, each_can, free_of, place_by, placed, places_by}
use Rattle.scenario_laws.proofs.Own.{own_says}
use Rattle.scenario_laws.proofs.Policies.{AccessOrFault, IsFine, RedactOrFault}

module _ (judge : OneJudgement) (all : Members) (declared : List NamedPolicy) (before : List Members) (ms : Members)
    (free : (q : ScenarioReason) → IsAppFault all declared before ms q → ⊥) where
  lines_say : (r : ProgramRole) → option_and_then program_role (entry_role ms) ≡ Some r
      → (lines : List ProgramLine) × Each (IsProgramLineMeaning r (number_or_default heap ms)) (program_lines_of ms) lines
  lines_say r is = each_by (IsProgramLineMeaning r (number_or_default heap ms)) (program_lines_of ms) (λ text there.
      elim (line_either judge r (number_or_default heap ms) text) [
        | inl says ↦ says
        | inr why ↦ absurd (free (reason_of_line why.0) (against.in_program r why.0 is (in_line text there why.1) refl))
      ])

  role_by : (o : Option RoleWord) → entry_role ms ≡ o → (r : Role) × IsRoleMeaning ms r
  role_by None e = absurd (free Key (against.wrong_keys (ap (λ (r : Option RoleWord). has_app_keys r ms) e) refl))
  role_by (Some role.Client) e =
      (let lines = lines_say of.Client (ap (option_and_then program_role) e) in (plan_role.Client lines.0, (e, lines.1)))
  role_by (Some role.Server) e =
      (let lines = lines_say of.Server (ap (option_and_then program_role) e) in (plan_role.Server lines.0, (e, lines.1)))
  role_by (Some role.Echo) e = (plan_role.Echo, e)

  pub role_says : (r : Role) × IsRoleMeaning ms r
  role_says = role_by (entry_role ms) refl

  has_place : (name : List ℕ) → Contains (policies_named_in ms) name → (place : ℕ) × (policy_entry_index all name ≡ Some place)
  has_place name there = placed (policy_tables all) name (λ none. free Unknown (against.no_policy name there none refl))

  pub chain_says : (chain : List ℕ) × (map Some chain ≡ map (policy_entry_index all) (chain_names ms))
  chain_says = places_by (policy_entry_index all) (chain_names ms)
      (λ name there. has_place name (Contains-append_left (chain_names ms) (option_to_list (text_at (codes "inbound") ms)) name there))

  pub inbound_says : (inbound : Option ℕ) × (map Some (option_to_list inbound) ≡ map (policy_entry_index all) (option_to_list (text_at (codes "inbound") ms)))
  inbound_says = place_by (policy_entry_index all) (text_at (codes "inbound") ms)
      (λ name there. has_place name (Contains-append_right (chain_names ms) (option_to_list (text_at (codes "inbound") ms)) name there))

module _ (judge : OneJudgement) (access : AccessOrFault) (redact : RedactOrFault) (all : Members) (declared : List NamedPolicy)
    (fine : (ms : Members) → Contains (policy_tables all) ms → IsFine (tenant_tables all) ms)
    (operators : AreFree (IsOperatorFault all declared) (operator_tables all))
    (free : AreFree (IsAppFault all declared) (app_tables all)) where
  app_says : (ms : Members) → Contains (app_tables all) ms → CanBe ((app : Application) × IsAppMeaning all ms app)
  app_says ms there never =
      let none = free_of (IsAppFault all declared) (app_tables all) free ms there in
      let r = role_says judge all declared none.0 ms none.1 in
      let chain = chain_says judge all declared none.0 ms none.1 in
      let inbound = inbound_says judge all declared none.0 ms none.1 in
      own_says access redact all declared fine operators ms there none.0 none.1 (λ own. never (
        record {
          conn = entry_conn ms;
          role = r.0;
          heap = number_or_default heap ms;
          receive = number_or_default receive ms;
          ring = number_or_default ring ms;
          weight = number_or_default weight ms;
          chain = chain.0;
          inbound = inbound.0;
          own = own.0;
        },
        record {
          conn = refl;
          role = r.1;
          heap = refl;
          receive = refl;
          ring = refl;
          weight = refl;
          chain = chain.1;
          inbound = inbound.1;
          own = own.1;
        },
      ))

  pub apps_say : CanBe ((apps : List Application) × Each (IsAppMeaning all) (app_tables all) apps)
  apps_say = each_can (IsAppMeaning all) (app_tables all) app_says
