-- Applications without faults are those of a plan.
use Rattle.std.proofs.Common.{◌≡◌, ℕ, ◌+◌, ◌*◌, ◌<◌, ◌≤◌, List, [], ◌∷◌, ◌++◌, length, map, sum, All, Contains}
use Rattle.std.proofs.Common.{Option, Some, None, IfSome, option_and_then, option_to_list, refl, sym, ap, ◌∙◌, subst}
use Rattle.std.proofs.Common.{inl, inr, arith}
use Rattle.std.specs.Prelude.{codes}
use Rattle.std.proofs.lemmas.Bool.{cases_lt}
use Rattle.std.proofs.lemmas.List.Elements.{Contains-append_right}
use Rattle.mrpc_table.specs.Lines.{IsIn}
use Rattle.mrpc_table.specs.Valid.{IsValid}
use Rattle.mrpc_table.specs.declared.table.Table.{Table}
use Rattle.run_plan.specs.Plans.{IsApplication, IsInbound, IsOwnPolicy, IsOwnSchema}
use Rattle.run_plan.specs.Plans as plans
use Rattle.run_plan.specs.Links.{HasNumbersInRange}
use Rattle.run_plan.specs.declared.application.Application.{Application}
use Rattle.run_plan.specs.declared.application.OwnPolicy.{OwnPolicy}
use Rattle.run_plan.specs.declared.application.OwnSchema.{OwnSchema}
use Rattle.run_plan.specs.declared.limits.TheConstants.{MAX_CONNECTIONS, MAX_RING, MAX_WEIGHT, MAX_WORK}
use Rattle.run_plan.specs.declared.plan.Plan.{Plan}
use Rattle.mrpc_table.specs.declared.limits.TheConstants.{MIN_HEAP, MAX_HEAP}
use Rattle.toml.specs.Data.{Members}
use Rattle.scenario_toml.specs.Values.{TheIntegerRange, number_or_default, text_at}
use Rattle.scenario.specs.Applications.{IsAppFault, HasTable, app_tables, policies_named_in, chain_names, entry_submissions, work_of_entries}
use Rattle.scenario.specs.Applications as against
use Rattle.scenario.specs.Keys.{app_ranges, conn, heap, loads, receive, ring, weight}
use Rattle.scenario.specs.Lines.{program_role}
use Rattle.scenario.specs.Reasons.{reason_of_line}
use Rattle.scenario.specs.Scenarios.{IsAppMeaning, IsOwnPolicyMeaning, IsOwnMeaning, IsPlanOfScenario, policy_entry_index}
use Rattle.scenario.specs.declared.fault.ScenarioReason.{ScenarioReason}
use Rattle.scenario.specs.declared.fault.ScenarioReason.TheVariants.{Number, Work}
use Rattle.scenario_laws.proofs.Alike.{Laws}
use Rattle.scenario_laws.proofs.Chains.{never_refuses}
use Rattle.scenario_laws.proofs.Free.{apps_free}
use Rattle.scenario_laws.proofs.Lists.{all_by, each_map, each_right, free_of, there_first}
use Rattle.scenario_laws.proofs.Numbers.{within}
use Rattle.scenario_laws.proofs.Placed.{inbound_by}
use Rattle.scenario_laws.proofs.Programs.{has_program, submissions_same}

pub table_valid : (text : List ℕ) (T : Table) → HasTable text T → IsValid T
table_valid text T h = h.resolves.table.valid

module _ (all : Members) (plan : Plan) (says : IsPlanOfScenario all plan)
    (own_is : (own : Table) (read : List OwnPolicy) → All (IsOwnPolicyMeaning all own) read
    → All (IsOwnPolicy plan.table plan.declared.policies own) read)
    (laws : Laws) where
  module _ (ms : Members) (app : Application) (is : IsAppMeaning all ms app) (in_apps : Contains (app_tables all) ms) (before : List Members)
      (free : (q : ScenarioReason) → IsAppFault all plan.declared.policies before ms q → ⊥) where
    fine : (r : TheIntegerRange) → Contains app_ranges r → IsIn r.least r.most (number_or_default r ms)
    fine r there = within r ms (λ out. free Number (against.out_of_range r there out refl))

    port : HasNumbersInRange app
    port = record {
      conn = subst (IsIn 1 MAX_CONNECTIONS) (sym is.conn) (fine conn (0, omega arith, refl));
      heap = subst (IsIn MIN_HEAP MAX_HEAP) (sym is.heap) (fine heap (1, omega arith, refl));
      receive = subst (IsIn MIN_HEAP MAX_HEAP) (sym is.receive) (fine receive (2, omega arith, refl));
      ring = subst (IsIn 1 MAX_RING) (sym is.ring) (fine ring (3, omega arith, refl));
      weight = subst (IsIn 1 MAX_WEIGHT) (sym is.weight) (fine weight (4, omega arith, refl));
    }

    own_by : (text : Option (List ℕ)) (own : Option OwnSchema) → IsOwnMeaning all ms text own → IfSome own (IsOwnSchema plan)
    own_by None None h = tt
    own_by None (Some own) h = absurd h
    own_by (Some text) None h = absurd h
    own_by (Some text) (Some own) h = record {
      table = table_valid text own.table h.table;
      places = h.ascend;
      policies = own_is own.table own.policies h.policies;
    }

    inbound_from : (o : Option ℕ) (text : Option (List ℕ)) → text_at (codes "inbound") ms ≡ text
        → map Some (option_to_list o) ≡ map (policy_entry_index all) (option_to_list text) → IfSome o (IsInbound plan app)
    inbound_from None text e same = tt
    inbound_from (Some place) None e same = absurd cc
    inbound_from (Some place) (Some name) e same =
        let here : policy_entry_index all name ≡ Some place = cc in
        let named : Contains (policies_named_in ms) name =
        Contains-append_right (chain_names ms) (option_to_list (text_at (codes "inbound") ms)) name
        (subst (λ (o : Option (List ℕ)). Contains (option_to_list o) name) (sym e) (there_first name [])) in
        inbound_by all plan.table plan.declared.policies says.policies own_is plan ms app before refl is free place name e here named

    is_application : IsApplication plan app
    is_application = record {
      port = port;
      program = has_program ms app.heap app.role is.heap is.role (λ r q word role_is of_role h.
          free (reason_of_line q) (against.in_program r q (ap (option_and_then program_role) role_is ∙ of_role) h refl));
      own = own_by (text_at (codes "schema") ms) app.own is.own;
      inbound = inbound_from app.inbound (text_at (codes "inbound") ms) refl is.inbound;
      chain = never_refuses all plan says own_is ms app is laws in_apps before free;
    }

  one_application : (app : Application) → Contains plan.applications app → IsApplication plan app
  one_application app there =
      let entry = each_right (IsAppMeaning all) (app_tables all) plan.applications app says.applications there in
      let free = free_of (IsAppFault all plan.declared.policies) (app_tables all) (apps_free all plan says) entry.0 entry.1 in
      is_application entry.0 app entry.2 entry.1 free.0 free.1

  pub are_applications : All (IsApplication plan) plan.applications
  are_applications = all_by (IsApplication plan) plan.applications one_application

-- ---- the calls that they submit

last_of : {X : Type 0} (x : X) (xs : List X) → (front : List X) × (last : X) × (x ∷ xs ≡ front ++ last ∷ [])
last_of x [] = ([], x, refl)
last_of {X = X} x (y ∷ ys) = (let r = last_of y ys in (x ∷ r.0, r.1, ap (λ (zs : List X). x ∷ zs) r.2))

module _ (all : Members) (plan : Plan) (says : IsPlanOfScenario all plan) where
  entries_work : (entries : List Members) → app_tables all ≡ entries → work_of_entries all entries ≤ MAX_WORK
  entries_work [] e = omega arith
  entries_work (m ∷ entries) e =
      let last = last_of m entries in
      elim (cases_lt MAX_WORK (work_of_entries all (m ∷ entries))) [
        | inl more ↦
            absurd (apps_free all plan says last.0 last.1 (length last.0 + 1) Work (record { back = []; whole = e ∙ last.2; is_number = refl })
            (against.too_much (subst (λ (xs : List Members). MAX_WORK < work_of_entries all xs) last.2 more) refl))
        | inr fine ↦ fine
      ]

  pub work_fine : plans.work plan.loads plan.applications ≤ MAX_WORK
  work_fine =
      let submitted = each_map (IsAppMeaning all) entry_submissions (λ (app : Application). plans.submission_count app.role) (λ x y r. submissions_same x y.role r.role)
      (app_tables all) plan.applications says.applications in
      subst (λ (n : ℕ). 2 * sum (map (λ (app : Application). plans.submission_count app.role) plan.applications) * n ≤ MAX_WORK) (sym says.loads)
      (subst (λ (ns : List ℕ). 2 * sum ns * number_or_default loads all ≤ MAX_WORK) submitted (entries_work (app_tables all) refl))
