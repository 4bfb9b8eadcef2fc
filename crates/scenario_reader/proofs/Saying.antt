-- What is kept of applications and operators is what their entries mean.
use Rattle.std.proofs.Common.{◌≡◌, ◌^◌, ℕ, ◌<◌, nat_lt, List, [], ◌∷◌, length, map, Contains, Option, Some, None, refl, sym, ap, ◌∙◌, subst, inl, inr, arith}
use Rattle.std.specs.Prelude.{codes, filter_map, option_and_then, option_to_list, slice_get}
use Rattle.std.specs.List.{cons_option}
use Rattle.std.proofs.lemmas.Bool.{cases_Bool, ltb-false, ltb-true}
use Rattle.mrpc_table.specs.Lines.{in_64_bits}
use Rattle.engine_core.specs.Chains.{Chain, HasChanged, IsChain, is_past, no_place}
use Rattle.engine_core.specs.declared.op.Op.{Op}
use Rattle.policy_declarations.specs.Declarations.{Declared, policy_index}
use Rattle.policy_declarations.specs.declared.declaration.NamedPolicy.{NamedPolicy}
use Rattle.run_plan.specs.Chains.{IsChangedBy}
use Rattle.run_plan.specs.declared.application.Application.{Application}
use Rattle.run_plan.specs.declared.application.OwnSchema.{OwnSchema}
use Rattle.run_plan.specs.declared.application.Role.{Role}
use Rattle.run_plan.specs.declared.application.Role.TheVariants as plan_role
use Rattle.run_plan.specs.declared.operator.OperatorStep.{OperatorStep}
use Rattle.run_plan.specs.declared.operator.StepLine.{StepLine}
use Rattle.run_plan.specs.declared.operator.StepLine.TheVariants as plan_line
use Rattle.toml.specs.Data.{Members}
use Rattle.scenario.specs.Applications.{chain_names, policies_named_in, operator_tables, program_lines_of}
use Rattle.scenario.specs.Keys.{heap, entry_role}
use Rattle.scenario.specs.Scenarios.{IsAppMeaning, IsOwnMeaning, IsRoleMeaning, IsStepLineMeaning, IsStepMeaning, policy_entry_index}
use Rattle.scenario.specs.declared.fault.ScenarioReason.{ScenarioReason}
use Rattle.scenario.specs.declared.entry_words.RoleWord.{RoleWord}
use Rattle.scenario_lines.specs.Programs.{Each}
use Rattle.scenario_lines.specs.StepLines.{IsStepTextMeaning as LineTells}
use Rattle.scenario_lines.specs.declared.step.StepText.{StepText}
use Rattle.scenario_lines.specs.declared.step.StepText.TheVariants as text
use Rattle.scenario_toml.specs.Values.{number_or_default, text_at}
use Rattle.scenario_entries.specs.Owning.{HasNamedFault}
use Rattle.scenario_reader.specs.Joining.{IsApp, IsMeaningOfRole}
use Rattle.scenario_reader.specs.Owning.{IsOwnOf, IsUsedIn}
use Rattle.scenario_reader.specs.Walking.{IsLineOf, IsOpOf, IsStepOf, named_in}
use Rattle.scenario_reader.proofs.Lists.{there_first, there_more}
use Rattle.scenario_reader.proofs.Walking.{Laws}

-- a declared name has an index
abbrev pub HasPlace : Declared → List ℕ → Type 0
HasPlace d name = (place : ℕ) × (policy_index d name ≡ Some place)

named_place_by : (d : Declared) (o : Option ℕ) (p : NamedPolicy) → option_and_then (slice_get d.policies) o ≡ Some p → (place : ℕ) × (o ≡ Some place)
named_place_by d None p e = absurd cc
named_place_by d (Some place) p e = (place, refl)

named_place : (d : Declared) (name : List ℕ) (p : NamedPolicy) → named_in d name ≡ Some p → HasPlace d name
named_place d name p e = named_place_by d (policy_index d name) p e

-- ---- chains

module _ (all : Members) (d : Declared) (places : (name : List ℕ) → policy_index d name ≡ policy_entry_index all name) where
  cons_found : (name : List ℕ) (names : List (List ℕ)) (place : ℕ) → policy_index d name ≡ Some place
      → map (λ (n : ℕ). Some n) (filter_map (policy_index d) names) ≡ map (policy_entry_index all) names
      → map (λ (n : ℕ). Some n) (filter_map (policy_index d) (name ∷ names)) ≡ map (policy_entry_index all) (name ∷ names)
  cons_found name names place found rest =
      ap (λ (o : Option ℕ). map (λ (n : ℕ). Some n) (cons_option o (filter_map (policy_index d) names))) found
      ∙ ap (λ (os : List (Option ℕ)). Some place ∷ os) rest ∙ ap (λ (o : Option ℕ). o ∷ map (policy_entry_index all) names) (sym found ∙ places name)

  chain_places : (names : List (List ℕ)) → ((name : List ℕ) → Contains names name → HasPlace d name)
      → map (λ (n : ℕ). Some n) (filter_map (policy_index d) names) ≡ map (policy_entry_index all) names
  chain_places [] has = refl
  chain_places (name ∷ names) has =
      let p = has name (there_first name names) in
      cons_found name names p.0 p.1 (chain_places names (λ n h. has n (there_more name names n h)))

  inbound_place : (inbound : Option (List ℕ)) → ((name : List ℕ) → inbound ≡ Some name → HasPlace d name)
      → map (λ (n : ℕ). Some n) (option_to_list (option_and_then (policy_index d) inbound)) ≡ map (policy_entry_index all) (option_to_list inbound)
  inbound_place None has = refl
  inbound_place (Some name) has =
      let p = has name refl in
      ap (λ (o : Option ℕ). map (λ (n : ℕ). Some n) (option_to_list o)) p.1
      ∙ ap (λ (o : Option ℕ). o ∷ []) (sym p.1 ∙ places name)

  -- ---- applications

  role_says : (ms : Members) (r : RoleWord) (said : Role) → entry_role ms ≡ Some r → IsMeaningOfRole r (number_or_default heap ms) (program_lines_of ms) said
      → IsRoleMeaning ms said
  role_says ms r (plan_role.Client program) is says = (is ∙ ap (λ (x : RoleWord). Some x) says.0, says.1)
  role_says ms r (plan_role.Server program) is says = (is ∙ ap (λ (x : RoleWord). Some x) says.0, says.1)
  role_says ms r plan_role.Echo is says = is ∙ ap (λ (x : RoleWord). Some x) says

  own_says : (ms : Members) (own : Option OwnSchema) → IsOwnOf all ms own
      → ((q : ScenarioReason) → HasNamedFault all ms (IsUsedIn (operator_tables all) ms) q → ⊥) → IsOwnMeaning all ms (text_at (codes "schema") ms) own
  own_says ms None none free = subst (λ (o : Option (List ℕ)). IsOwnMeaning all ms o None) (sym none) tt
  own_says ms (Some own) is free = subst (λ (o : Option (List ℕ)). IsOwnMeaning all ms o (Some own)) (sym is.there) (is.says free)

  pub app_says : (ms : Members) (r : RoleWord) (app : Application) → entry_role ms ≡ Some r → IsApp all d ms app
      → ((name : List ℕ) → Contains (policies_named_in ms) name → HasPlace d name)
      → ((name : List ℕ) → Contains (chain_names ms) name → Contains (policies_named_in ms) name)
      → ((name : List ℕ) → text_at (codes "inbound") ms ≡ Some name → Contains (policies_named_in ms) name)
      → ((q : ScenarioReason) → HasNamedFault all ms (IsUsedIn (operator_tables all) ms) q → ⊥) → IsAppMeaning all ms app
  app_says ms r app is_role is has in_chain in_inbound free =
      let draft = is.draft in
      record {
        conn = draft.conn;
        role = subst (IsRoleMeaning ms) (sym draft.role) (role_says ms r is.said is_role (is.role r is_role));
        heap = draft.heap;
        receive = draft.receive;
        ring = draft.ring;
        weight = draft.weight;
        chain =
            ap (λ (ps : List ℕ). map (λ (n : ℕ). Some n) ps) draft.chain ∙ chain_places (chain_names ms) (λ n h. has n (in_chain n h));
        inbound =
            ap (λ (o : Option ℕ). map (λ (n : ℕ). Some n) (option_to_list o)) draft.inbound
            ∙ inbound_place (text_at (codes "inbound") ms) (λ n e. has n (in_inbound n e));
        own = subst (IsOwnMeaning all ms (text_at (codes "schema") ms)) (sym draft.own) (own_says ms is.own is.is_own free);
      }

  -- ---- operators

  module _ (laws : Laws) where
    place_some : (name : List ℕ) (p : NamedPolicy) (place : ℕ) → named_in d name ≡ Some p → ((k : ℕ) → policy_index d name ≡ Some k → place ≡ k)
        → policy_entry_index all name ≡ Some place
    place_some name p place found is =
        let at = named_place d name p found in
        sym (places name) ∙ at.1 ∙ ap (λ (n : ℕ). Some n) (sym (is at.0 at.1))

    line_says : (line : List ℕ) (told : StepText) (s : OperatorStep) (o : Op) (before after : Chain) → LineTells line told → IsStepOf d told s
        → IsOpOf d told o → IsChain before → HasChanged before o after → IsStepMeaning all line s
    line_says line told s o before after tells is op sound change = (told, tells, is.count, by told s.line is.line op) where
      by : (t : StepText) (l : StepLine) → IsLineOf d t l → IsOpOf d t o → IsStepLineMeaning all t l
      by (text.Attach c at name policy) (plan_line.Attach position n place) h (k, same, attaches) =
          let few = sound.few in
          let small : k < 2 ^ 32 = elim (cases_Bool (nat_lt (length before.entries) k)) [
            | inl e ↦ absurd (change.free (no_place k) (is_past k name.now attaches.p.name attaches.p.policy attaches.is (ltb-true _ _ e) refl))
            | inr e ↦ (let m = ltb-false (length before.entries) k e in omega (arith, m, few))
          ] in
          let position_is : position ≡ k = h.1 k same small in (
            policy.now,
            (same ∙ ap in_64_bits (sym position_is), sym h.0, refl),
            place_some policy.now attaches.p place attaches.found h.2,
          )
      by (text.Attach c at name policy) (plan_line.Detach n) h op = absurd h
      by (text.Attach c at name policy) (plan_line.Upgrade n place) h op = absurd h
      by (text.Detach c name) (plan_line.Attach position n place) h op = absurd h
      by (text.Detach c name) (plan_line.Detach n) h op = sym h
      by (text.Detach c name) (plan_line.Upgrade n place) h op = absurd h
      by (text.Upgrade c name policy) (plan_line.Attach position n place) h op = absurd h
      by (text.Upgrade c name policy) (plan_line.Detach n) h op = absurd h
      by (text.Upgrade c name policy) (plan_line.Upgrade n place) h op =
          (policy.now, (sym h.0, refl), place_some policy.now op.p place op.found h.1)

    pub steps_say : (lines : List (List ℕ)) (told : List StepText) (steps : List OperatorStep) (ops : List Op) (start after : Chain) → IsChain start
        → Each LineTells lines told → Each (IsStepOf d) told steps → Each (IsOpOf d) told ops → IsChangedBy start ops after
        → Each (IsStepMeaning all) lines steps
    steps_say [] [] [] ops start after sound tells are of change = tt
    steps_say [] [] (s ∷ steps) ops start after sound tells are of change = absurd are
    steps_say [] (t ∷ told) steps ops start after sound tells are of change = absurd tells
    steps_say (l ∷ lines) [] steps ops start after sound tells are of change = absurd tells
    steps_say (l ∷ lines) (t ∷ told) [] ops start after sound tells are of change = absurd are
    steps_say (l ∷ lines) (t ∷ told) (s ∷ steps) [] start after sound tells are of change = absurd of
    steps_say (l ∷ lines) (t ∷ told) (s ∷ steps) (o ∷ ops) start after sound tells are of change = (
      line_says l t s o start change.0 tells.0 are.0 of.0 sound change.1,
      steps_say lines told steps ops change.0 after (laws.stays start change.0 o sound change.1) tells.1 are.1 of.1 change.2,
    )
