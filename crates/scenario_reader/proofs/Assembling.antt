-- Applications are what their entries mean, if they and the operators have no fault.
use Rattle.std.proofs.Common.{◌≡◌, ℕ, ◌+◌, List, [], ◌∷◌, length, Contains, Option, Some, None, refl, sym, ap, subst, inl, inr}
use Rattle.std.specs.Prelude.{codes, option_to_list}
use Rattle.std.proofs.lemmas.List.Elements.{Contains-append_left}
use Rattle.policy_declarations.specs.Declarations.{Declared, policy_names, policy_index}
use Rattle.policy_declarations.specs.declared.declaration.NamedPolicy.{NamedPolicy}
use Rattle.run_plan.specs.declared.application.Application.{Application}
use Rattle.toml.specs.Data.{Members}
use Rattle.scenario.specs.Applications.{IsAppFault, app_tables, chain_names, policies_named_in, operator_tables, policy_tables}
use Rattle.scenario.specs.Applications as against
use Rattle.scenario.specs.Operators.{IsOperatorFault}
use Rattle.scenario.specs.Operators as operators
use Rattle.scenario.specs.Policies.{entry_names}
use Rattle.scenario.specs.Reasons.{reason_of_policy_line}
use Rattle.scenario.specs.Scenarios.{IsAppMeaning, IsEntryAt, policy_entry_index}
use Rattle.scenario.specs.declared.fault.ScenarioReason.{ScenarioReason}
use Rattle.scenario.specs.declared.fault.ScenarioReason.TheVariants.{Unknown}
use Rattle.scenario_lines.specs.Programs.{Each}
use Rattle.scenario_toml.specs.Values.{text_at}
use Rattle.scenario_entries.specs.Entries.{AreFaultFree}
use Rattle.scenario_entries.specs.AppConnections.{IsAppConnectionOf}
use Rattle.scenario_entries.specs.declared.link.AppConnection.{AppConnection}
use Rattle.scenario_entries.specs.Owning.{HasNamedFault}
use Rattle.scenario_reader.specs.Joining.{IsApp}
use Rattle.scenario_reader.specs.Owning.{IsUsedIn}
use Rattle.scenario_reader.proofs.Lists.{none_in, there_cases, there_first, there_more}
use Rattle.scenario_reader.proofs.Naming as naming
use Rattle.scenario_reader.proofs.Saying.{HasPlace, app_says}
use Rattle.scenario_reader.proofs.Using.{append_right}

-- an entry of a list has a number
pub record Stands (entries : List Members) (ms : Members) : Type 0 where
  pub before : List Members
  pub number : ℕ
  pub at : IsEntryAt entries before ms number

pub stands_of : (entries : List Members) (ms : Members) → Contains entries ms → Stands entries ms
stands_of [] ms h = absurd (none_in ms h)
stands_of (x ∷ xs) ms h = elim (there_cases x xs ms h) [
  | inl is ↦ record {
    before = [];
    number = 1;
    at = record { back = xs; whole = ap (λ (y : Members). y ∷ xs) is; is_number = refl };
  }
  | inr more ↦
      let r = stands_of xs ms more in
      record {
        before = x ∷ r.before;
        number = length (x ∷ r.before) + 1;
        at = record { back = r.at.back; whole = ap (λ (ys : List Members). x ∷ ys) r.at.whole; is_number = refl };
      }
]

pub free_at : (Against : List Members → Members → ScenarioReason → Type 0) (entries : List Members) (ms : Members) → AreFaultFree Against entries
    → Contains entries ms → ((before : List Members) → (q : ScenarioReason) × Against before ms q) → ⊥
free_at Against entries ms free there some =
    let s = stands_of entries ms there in
    let a = some s.before in
    free s.before ms s.number a.0 s.at a.1

module _ (all : Members) (d : Declared) (same : policy_names d ≡ entry_names (policy_tables all))
    (places : (name : List ℕ) → policy_index d name ≡ policy_entry_index all name)
    (apps_free : AreFaultFree (IsAppFault all d.policies) (app_tables all))
    (operators_free : AreFaultFree (IsOperatorFault all d.policies) (operator_tables all)) where
  has_place : (ms : Members) → Contains (app_tables all) ms → (name : List ℕ) → Contains (policies_named_in ms) name → HasPlace d name
  has_place ms there name named = by (policy_index d name) refl where
    by : (o : Option ℕ) → policy_index d name ≡ o → HasPlace d name
    by (Some place) e = (place, e)
    by None e =
        absurd (free_at (IsAppFault all d.policies) (app_tables all) ms apps_free there (λ before. (
          Unknown,
          against.no_policy name named (λ h.
              naming.none_there (λ (p : NamedPolicy). p.name) name d.policies e (subst (λ (ns : List (List ℕ)). Contains ns name) (sym same) h)) refl,
        )))

  none_fails : (ms : Members) → Contains (app_tables all) ms → (q : ScenarioReason)
      → HasNamedFault all ms (IsUsedIn (operator_tables all) ms) q → ⊥
  none_fails ms there q (why, f, is) = elim f.named [
    | inl named ↦ free_at (IsAppFault all d.policies) (app_tables all) ms apps_free there (λ before. (
      reason_of_policy_line why,
      against.in_policy why (record {
        text = f.text;
        own = f.own;
        table = f.table;
        of_text = f.of_text;
        policy = f.policy;
        there = f.there;
        named = named;
        fails = f.fails;
      }) refl,
    ))
    | inr (operator, o_there, on, named) ↦
        free_at (IsOperatorFault all d.policies) (operator_tables all) operator operators_free o_there (λ before. (
          reason_of_policy_line why,
          operators.in_policy ms why there (sym on) (record {
            text = f.text;
            own = f.own;
            table = f.table;
            of_text = f.of_text;
            policy = f.policy;
            there = f.there;
            named = named;
            fails = f.fails;
          }) refl,
        ))
  ]

  inbound_there : (ms : Members) (name : List ℕ) → text_at (codes "inbound") ms ≡ Some name → Contains (policies_named_in ms) name
  inbound_there ms name e =
      append_right (chain_names ms) (option_to_list (text_at (codes "inbound") ms)) name
      (subst (λ (o : Option (List ℕ)). Contains (option_to_list o) name) (sym e) (there_first name []))

  go : (tables : List Members) (ports : List AppConnection) (apps : List Application) → ((ms : Members) → Contains tables ms → Contains (app_tables all) ms)
      → Each IsAppConnectionOf tables ports → Each (IsApp all d) tables apps → Each (IsAppMeaning all) tables apps
  go [] ports [] sub of are = tt
  go [] ports (a ∷ apps) sub of are = absurd are
  go (t ∷ tables) [] apps sub of are = absurd of
  go (t ∷ tables) (p ∷ ports) [] sub of are = absurd are
  go (t ∷ tables) (p ∷ ports) (a ∷ apps) sub of are =
      let there = sub t (there_first t tables) in (
        app_says all d places t p.role a of.0.role are.0 (has_place t there)
            (λ name h. Contains-append_left (chain_names t) (option_to_list (text_at (codes "inbound") t)) name h) (inbound_there t) (none_fails t there),
        go tables ports apps (λ ms h. sub ms (there_more t tables ms h)) of.1 are.1,
      )

  pub apps_say : (ports : List AppConnection) (apps : List Application) → Each IsAppConnectionOf (app_tables all) ports → Each (IsApp all d) (app_tables all) apps
      → Each (IsAppMeaning all) (app_tables all) apps
  apps_say ports apps of are = go (app_tables all) ports apps (λ ms h. h) of are
