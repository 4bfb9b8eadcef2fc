-- The role and the own schema of an application, or the first reason of faults in these, its connection and its
-- names.
use Rattle.std.proofs.Common.{◌≡◌, ℕ, List, Contains, Option, Some, None, Result, Ok, Err, refl, sym, ap, ◌∙◌, subst, inl, inr}
use Rattle.std.specs.Prelude.{MatchResult, is_some}
use Rattle.std.proofs.lemmas.Option.{same_Some}
use Rattle.policy_declarations.specs.Declarations.{Declared, policy_names, policy_index}
use Rattle.policy_declarations.specs.declared.declaration.NamedPolicy.{NamedPolicy}
use Rattle.run_plan.specs.declared.application.OwnSchema.{OwnSchema}
use Rattle.run_plan.specs.declared.application.Role.{Role}
use Rattle.toml.specs.Data.{Members}
use Rattle.scenario.specs.Applications.{entry_conn, policies_named_in, policy_tables, program_lines_of}
use Rattle.scenario.specs.Keys.{heap, entry_role}
use Rattle.scenario.specs.Policies.{entry_names}
use Rattle.scenario.specs.Reasons.{IsSoFar, lower_ranked}
use Rattle.scenario.specs.declared.fault.ScenarioReason.{ScenarioReason}
use Rattle.scenario.specs.declared.fault.ScenarioReason.TheVariants.{Unknown}
use Rattle.scenario.specs.declared.entry_words.RoleWord.{RoleWord}
use Rattle.scenario_toml.specs.Values.{number_or_default}
use Rattle.scenario_entries.specs.Owning.{no_policy}
use Rattle.scenario_reader.specs.Joining.{HasEarlyFault, HasAppHeadFault, IsEarlyRead, IsRoleRead, HasProgramFault, HasRoleFault, IsMeaningOfRole, reason_in}
use Rattle.scenario_reader.specs.Owning.{IsOwnOf, IsOwnRead, HasAppOwnFault}
use Rattle.scenario_reader.specs.declared.application.EarlyPart.{EarlyPart}
use Rattle.scenario_reader.proofs.Applying.{part_reason}
use Rattle.scenario_reader.proofs.FirstReason.{Either, joined, same_reasons}
use Rattle.scenario_reader.proofs.Naming as naming

-- if names have no fault, each is that of a policy
module _ (all : Members) (before : List Members) (ms : Members) where
  pub early_named : (d : Declared) → policy_names d ≡ entry_names (policy_tables all) → ((q : ScenarioReason) → HasEarlyFault all before ms q → ⊥)
      → (name : List ℕ) → Contains (policies_named_in ms) name → Contains (policy_names d) name
  early_named d same none name there = by (policy_index d name) refl where
    by : (o : Option ℕ) → policy_index d name ≡ o → Contains (policy_names d) name
    by (Some place) e = naming.there (λ (p : NamedPolicy). p.name) name d.policies (ap is_some e)
    by None e =
        absurd (none Unknown (inl (inl (inl (no_policy name there (λ h.
        naming.none_there (λ (p : NamedPolicy). p.name) name d.policies e (subst (λ (ns : List (List ℕ)). Contains ns name) (sym same) h)) refl)))))

  module _ (w : RoleWord) (is_role : entry_role ms ≡ Some w) (head : Option ScenarioReason) (role : Result Role ScenarioReason)
      (own : Result (Option OwnSchema) ScenarioReason) (of_head : IsSoFar (HasAppHeadFault (policy_tables all) before (entry_conn ms) (policies_named_in ms)) head)
      (of_role : IsRoleRead w (number_or_default heap ms) (program_lines_of ms) role) (of_own : IsOwnRead all ms own) where
    abbrev Head : ScenarioReason → Type 0
    Head = HasAppHeadFault (policy_tables all) before (entry_conn ms) (policies_named_in ms)

    abbrev Program : ScenarioReason → Type 0
    Program = HasProgramFault w (number_or_default heap ms) (program_lines_of ms)

    role_to : (q : ScenarioReason) → HasRoleFault ms q → Program q
    role_to q (r, is, fails) = subst (λ (x : RoleWord). HasProgramFault x (number_or_default heap ms) (program_lines_of ms) q) (same_Some r w (sym is ∙ is_role)) fails

    role_reason : IsSoFar (HasRoleFault ms) (reason_in role)
    role_reason =
        same_reasons Program (HasRoleFault ms) (reason_in role) (part_reason Program (IsMeaningOfRole w (number_or_default heap ms) (program_lines_of ms)) role of_role)
        (λ q h. (w, is_role, h)) role_to

    pub early_first : IsSoFar (HasEarlyFault all before ms) (lower_ranked (lower_ranked head (reason_in role)) (reason_in own))
    early_first =
        joined (Either Head (HasRoleFault ms)) (HasAppOwnFault all ms) (lower_ranked head (reason_in role)) (reason_in own)
        (joined Head (HasRoleFault ms) head (reason_in role) of_head role_reason)
        (part_reason (HasAppOwnFault all ms) (IsOwnOf all ms) own of_own)

    pub early_is : (r : Result EarlyPart ScenarioReason)
        → MatchResult r (λ e. (head ≡ None) × (role ≡ Ok e.role) × (own ≡ Ok e.own))
        (λ q. Some q ≡ lower_ranked (lower_ranked head (reason_in role)) (reason_in own)) → IsEarlyRead all before ms r
    early_is (Ok e) h = (
      free,
      record {
        role = λ r is. (let part = subst (λ (x : Result Role ScenarioReason). IsRoleRead w (number_or_default heap ms) (program_lines_of ms) x) h.1 of_role in
            subst (λ (x : RoleWord). IsMeaningOfRole x (number_or_default heap ms) (program_lines_of ms) e.role) (same_Some w r (sym is_role ∙ is)) part.1);
        own = (let part = subst (λ (x : Result (Option OwnSchema) ScenarioReason). IsOwnRead all ms x) h.2 of_own in part.1);
      },
    )
      where
        free : (q : ScenarioReason) → HasEarlyFault all before ms q → ⊥
        free q (inl (inl fails)) = (let none = subst (IsSoFar Head) h.0 of_head in none q fails)
        free q (inl (inr fails)) =
            let part = subst (λ (x : Result Role ScenarioReason). IsRoleRead w (number_or_default heap ms) (program_lines_of ms) x) h.1 of_role in
            part.0 q (role_to q fails)
        free q (inr fails) = (let part = subst (λ (x : Result (Option OwnSchema) ScenarioReason). IsOwnRead all ms x) h.2 of_own in part.0 q fails)
    early_is (Err q) h = subst (IsSoFar (HasEarlyFault all before ms)) (sym h) early_first
