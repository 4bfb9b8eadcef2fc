-- The own schema of an application that was read, and the policies that an operator names under it.
use Rattle.std.proofs.Common.{◌≡◌, ℕ, List, Contains, Some, None, Result, Ok, Err, sym, ◌∙◌, subst}
use Rattle.std.specs.Prelude.{MatchResult}
use Rattle.std.specs.Result.{result_err}
use Rattle.mrpc_table.specs.declared.table.Table.{Table}
use Rattle.policy_declarations.specs.Declarations.{Declared}
use Rattle.run_plan.specs.declared.application.Application.{Application}
use Rattle.run_plan.specs.declared.application.OwnPolicy.{OwnPolicy}
use Rattle.run_plan.specs.declared.application.OwnSchema.{OwnSchema}
use Rattle.toml.specs.Data.{Members}
use Rattle.scenario.specs.Operators.{HasPolicyName, step_lines_of}
use Rattle.scenario.specs.Reasons.{IsFirstScenarioReason, IsSoFar}
use Rattle.scenario.specs.declared.fault.ScenarioReason.{ScenarioReason}
use Rattle.scenario_entries.specs.Owning.{AreOwn, HasNamedFault}
use Rattle.scenario_reader.specs.Joining.{IsApp}
use Rattle.scenario_reader.specs.Operating.{HasOperatorOwnFault}
use Rattle.scenario_reader.specs.Owning.{AreStepNames, IsOwn, IsOwnOf}
use Rattle.scenario_reader.proofs.Owning.{fails_map}

-- ---- its own schema

module _ (all ams : Members) where
  its_own : (d : Declared) (app : Application) → IsApp all d ams app → IsOwnOf all ams app.own
  its_own d app is = subst (IsOwnOf all ams) (sym is.draft.own) is.is_own

  pub app_own : (d : Declared) (app : Application) → IsApp all d ams app → (own : OwnSchema) → app.own ≡ Some own → IsOwn all ams own
  app_own d app is own some = subst (IsOwnOf all ams) some (its_own d app is)

  module _ (ms : Members) where
    pub no_own_reason : (d : Declared) (app : Application) → IsApp all d ams app → app.own ≡ None → (q : ScenarioReason) → HasOperatorOwnFault all ams ms q → ⊥
    no_own_reason d app is none q (why, fails, same) =
        let no_text = subst (IsOwnOf all ams) none (its_own d app is) in
        absurd (let gone : None ≡ Some fails.text = sym no_text ∙ fails.own in cc)

    module _ (own : Table) (names : List (List ℕ)) (named : AreStepNames ms names) where
      pub own_reasons : (r : Result (List OwnPolicy) ScenarioReason)
          → MatchResult r (λ policies. AreOwn all own names policies × ((q : ScenarioReason) → HasNamedFault all ams (Contains names) q → ⊥))
          (IsFirstScenarioReason (HasNamedFault all ams (Contains names))) → IsSoFar (HasOperatorOwnFault all ams ms) (result_err r)
      own_reasons (Ok policies) h = λ q fails. h.1 q (fails_map all ams (HasPolicyName (step_lines_of ms)) (Contains names) (λ n k. (named n).1 k) q fails)
      own_reasons (Err q) first = record {
        stands = fails_map all ams (Contains names) (HasPolicyName (step_lines_of ms)) (λ n k. (named n).0 k) q first.stands;
        first = λ other fails. first.first other (fails_map all ams (HasPolicyName (step_lines_of ms)) (Contains names) (λ n k. (named n).1 k) other fails);
      }
