-- The first reason of faults in the keys of the top table.
use Rattle.std.proofs.Common.{◌≡◌, ◌≤◌, true, false, Result, refl, arith}
use Rattle.std.specs.Prelude.{MatchResult, codes}
use Rattle.std.specs.List.{list_all}
use Rattle.std.proofs.lemmas.Bool.{both_ways}
use Rattle.mrpc_table.specs.Names.{IsFullName}
use Rattle.mrpc_table.specs.declared.table.Table.{Table}
use Rattle.toml.specs.Data.{Members}
use Rattle.scenario.specs.Applications.{HasTable}
use Rattle.scenario.specs.Keys.{top_keys, top_ranges}
use Rattle.scenario.specs.Reasons.{IsFirstScenarioReason, scenario_reason_rank}
use Rattle.scenario.specs.Scenarios.{IsTopKeyFault, schema_of}
use Rattle.scenario.specs.Scenarios as against
use Rattle.scenario.specs.declared.fault.ScenarioFault.{ScenarioFault}
use Rattle.scenario.specs.declared.fault.ScenarioReason.{ScenarioReason}
use Rattle.scenario.specs.declared.fault.ScenarioReason.TheVariants.{Key, Name, Number, Schema}
use Rattle.scenario_toml.specs.Values.{has_keys, is_within_at, text_or_empty}
use Rattle.scenario_reader.specs.TopLevel.{IsTopFault}
use Rattle.scenario_reader.proofs.Ranges.{all_within, one_out}
use Rattle.scenario_reader.proofs.FirstReason.{alone_first, at_least}

-- the result of reading the top table
abbrev pub IsTopRead : Members → Result Table ScenarioFault → Type 0
IsTopRead all r =
    MatchResult r (λ T. HasTable (schema_of all) T × ((q : ScenarioReason) → IsTopKeyFault all q → ⊥)) (IsTopFault all)

module _ (all : Members) where
  key_late : (q : ScenarioReason) → IsTopKeyFault all q → 1 ≤ scenario_reason_rank q
  key_late q (against.wrong_keys h is) = at_least q Key 1 is (omega arith)
  key_late q (against.out_of_range r there h is) = at_least q Number 1 is (omega arith)
  key_late q (against.no_name h is) = at_least q Name 1 is (omega arith)
  key_late q (against.no_table h is) = at_least q Schema 1 is (omega arith)

  module _ (keys : has_keys top_keys all ≡ true) where
    number_late : (q : ScenarioReason) → IsTopKeyFault all q → 2 ≤ scenario_reason_rank q
    number_late q (against.wrong_keys h is) = absurd (both_ways (has_keys top_keys all) h keys)
    number_late q (against.out_of_range r there h is) = at_least q Number 2 is (omega arith)
    number_late q (against.no_name h is) = at_least q Name 2 is (omega arith)
    number_late q (against.no_table h is) = at_least q Schema 2 is (omega arith)

    pub top_number_first : list_all (is_within_at all) top_ranges ≡ false → IsFirstScenarioReason (IsTopKeyFault all) Number
    top_number_first out =
        let r = one_out all top_ranges out in
        alone_first (IsTopKeyFault all) Number (against.out_of_range r.0 r.1 r.2 refl) number_late

    module _ (within : list_all (is_within_at all) top_ranges ≡ true) where
      name_late : (q : ScenarioReason) → IsTopKeyFault all q → 3 ≤ scenario_reason_rank q
      name_late q (against.wrong_keys h is) = absurd (both_ways (has_keys top_keys all) h keys)
      name_late q (against.out_of_range r there h is) = absurd (all_within all top_ranges within r there h)
      name_late q (against.no_name h is) = at_least q Name 3 is (omega arith)
      name_late q (against.no_table h is) = at_least q Schema 3 is (omega arith)

      pub top_name_first : (IsFullName (text_or_empty (codes "service") all) → ⊥) → IsFirstScenarioReason (IsTopKeyFault all) Name
      top_name_first none = alone_first (IsTopKeyFault all) Name (against.no_name none refl) name_late

      module _ (named : IsFullName (text_or_empty (codes "service") all)) where
        schema_late : (q : ScenarioReason) → IsTopKeyFault all q → 6 ≤ scenario_reason_rank q
        schema_late q (against.wrong_keys h is) = absurd (both_ways (has_keys top_keys all) h keys)
        schema_late q (against.out_of_range r there h is) = absurd (all_within all top_ranges within r there h)
        schema_late q (against.no_name h is) = absurd (h named)
        schema_late q (against.no_table h is) = at_least q Schema 6 is (omega arith)

        pub top_schema_first : ((T : Table) → HasTable (schema_of all) T → ⊥) → IsFirstScenarioReason (IsTopKeyFault all) Schema
        top_schema_first none = alone_first (IsTopKeyFault all) Schema (against.no_table none refl) schema_late

        pub top_is_free : (T : Table) → HasTable (schema_of all) T → (q : ScenarioReason) → IsTopKeyFault all q → ⊥
        top_is_free T has q (against.wrong_keys h is) = both_ways (has_keys top_keys all) h keys
        top_is_free T has q (against.out_of_range r there h is) = all_within all top_ranges within r there h
        top_is_free T has q (against.no_name h is) = h named
        top_is_free T has q (against.no_table h is) = h T has
