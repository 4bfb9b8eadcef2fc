-- The schemas of applications, and what is read under them.
use Rattle.std.proofs.Common.{◌≡◌, ◌↔◌, ℕ, List, Contains, Some, Result, Ok, Err, inl, inr, refl, sym, ap, ◌∙◌, subst, arith}
use Rattle.std.specs.Prelude.{MatchResult, codes}
use Rattle.std.specs.Result.{result_unwrap_or}
use Rattle.std.proofs.lemmas.Option.{same_Some}
use Rattle.mrpc_table.specs.Valid.{IsValid}
use Rattle.mrpc_table.specs.declared.table.Table.{Table}
use Rattle.run_plan.specs.declared.application.OwnPolicy.{OwnPolicy}
use Rattle.toml.specs.Data.{Members}
use Rattle.scenario.specs.Applications.{HasTable, policies_named_in, operator_tables}
use Rattle.scenario.specs.Reasons.{IsFirstScenarioReason, scenario_reason_rank}
use Rattle.scenario.specs.Scenarios.{IsUsed, IsOwnSchemaMeaning, by_app, by_step, policy_entry_index}
use Rattle.scenario.specs.declared.fault.ScenarioReason.{ScenarioReason}
use Rattle.scenario.specs.declared.fault.ScenarioReason.TheVariants.{Schema}
use Rattle.scenario_toml.specs.Values.{text_at}
use Rattle.scenario_entries.specs.Owning.{AreOwn, HasNamedFault}
use Rattle.scenario_reader.specs.Owning.{IsOwn, IsUsedIn, HasAppOwnFault}

pub fails_map : (all app : Members) (P Q : List ℕ → Type 0) → ((n : List ℕ) → P n → Q n) → (q : ScenarioReason) → HasNamedFault all app P q
    → HasNamedFault all app Q q
fails_map all app P Q f q (why, h, is) = (
  why,
  record {
    text = h.text;
    own = h.own;
    table = h.table;
    of_text = h.of_text;
    policy = h.policy;
    there = h.there;
    named = f _ h.named;
    fails = h.fails;
  },
  is,
)

module _ (all ms : Members) where
  module _ (text : List ℕ) (there : text_at (codes "schema") ms ≡ Some text) where
    same_text : (other : List ℕ) → text_at (codes "schema") ms ≡ Some other → other ≡ text
    same_text other h = same_Some other text (sym h ∙ there)

    pub own_without : ((T : Table) → HasTable text T → ⊥) → IsFirstScenarioReason (HasAppOwnFault all ms) Schema
    own_without none = record {
      stands = inl (record { text = text; there = there; none = none; is = refl });
      first = λ q h. elim h [
        | inl gone ↦ (let e = ap scenario_reason_rank gone.is in omega (arith, e))
        | inr (why, f, is) ↦ absurd (none f.table (subst (λ (t : List ℕ). HasTable t f.table) (same_text f.text f.own) f.of_text))
      ];
    }

    module _ (T : Table) (has : HasTable text T) where
      pub own_first : (q : ScenarioReason) → IsFirstScenarioReason (HasNamedFault all ms (Contains (policies_named_in ms))) q → IsFirstScenarioReason (HasAppOwnFault all ms) q
      own_first q first = record {
        stands = inr first.stands;
        first = λ other h. elim h [
          | inl gone ↦ absurd (gone.none T (subst (λ (t : List ℕ). HasTable t T) (sym (same_text gone.text gone.there)) has))
          | inr fails ↦ first.first other fails
        ];
      }

      pub own_free : ((q : ScenarioReason) → HasNamedFault all ms (Contains (policies_named_in ms)) q → ⊥) → (q : ScenarioReason) → HasAppOwnFault all ms q → ⊥
      own_free none q (inl gone) = gone.none T (subst (λ (t : List ℕ). HasTable t T) (sym (same_text gone.text gone.there)) has)
      own_free none q (inr fails) = none q fails

      module _ (names : List (List ℕ)) (used : (name : List ℕ) → Contains names name ↔ IsUsedIn (operator_tables all) ms name) where
        used_from : (place : ℕ) (name : List ℕ) → IsUsedIn (operator_tables all) ms name → policy_entry_index all name ≡ Some place → IsUsed all ms place
        used_from place name (inl by) at = by_app name by at
        used_from place name (inr (operator, there_too, same, named)) at = by_step name operator there_too same named at

        used_to : (place : ℕ) → IsUsed all ms place → (name : List ℕ) × Contains names name × (policy_entry_index all name ≡ Some place)
        used_to place (by_app name by at) = (name, (used name).1 (inl by), at)
        used_to place (by_step name operator there_too same named at) = (name, (used name).1 (inr (operator, there_too, same, named)), at)

        says_own : (policies : List OwnPolicy) → AreOwn all T names policies → IsOwnSchemaMeaning all ms text (record { table = T; policies = policies })
        says_own policies own = record {
          table = has;
          used = λ place. (
            λ h. (let n = (own.used place).0 h in used_from place n.0 ((used n.0).0 n.1) n.2),
            λ h. (own.used place).1 (used_to place h),
          );
          ascend = own.ascend;
          policies = own.policies;
        }

        -- the result of reading the policies in use, or the first reason of their faults
        abbrev pub IsAgain : Result (List OwnPolicy) ScenarioReason → Type 0
        IsAgain r =
            MatchResult r (λ policies. AreOwn all T names policies × ((q : ScenarioReason) → HasNamedFault all ms (Contains names) q → ⊥))
            (IsFirstScenarioReason (HasNamedFault all ms (Contains names)))

        pub own_is : IsValid T → (named : List OwnPolicy) (r : Result (List OwnPolicy) ScenarioReason) → IsAgain r
            → IsOwn all ms (record { table = T; policies = result_unwrap_or r named })
        own_is valid named (Ok policies) own = record {
          text = text;
          there = there;
          table = has;
          valid = valid;
          says = λ none. says_own policies own.0;
        }
        own_is valid named (Err q) first = record {
          text = text;
          there = there;
          table = has;
          valid = valid;
          says = λ none. absurd (none q (fails_map all ms (Contains names) (IsUsedIn (operator_tables all) ms) (λ n h. (used n).0 h) q first.stands));
        }
