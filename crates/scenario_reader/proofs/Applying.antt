-- The first reason of faults in an application, from those of its parts.
use Rattle.std.proofs.Common.{◌≡◌, ◌⊎◌, ℕ, ◌≤◌, true, false, List, Option, Some, Result, Ok, Err, refl, sym, ap, ◌∙◌, subst, inl, inr, arith}
use Rattle.std.specs.Prelude.{option_and_then}
use Rattle.std.specs.List.{list_all}
use Rattle.std.proofs.lemmas.Bool.{both_ways}
use Rattle.engine_core.specs.Chains.{Refusal}
use Rattle.engine_core.specs.Chains as chains
use Rattle.policy_declarations.specs.declared.declaration.NamedPolicy.{NamedPolicy}
use Rattle.toml.specs.Data.{Members}
use Rattle.scenario.specs.Applications.{IsAppFault, program_lines_of}
use Rattle.scenario.specs.Applications as against
use Rattle.scenario.specs.Keys.{app_ranges, has_app_keys, heap, entry_role}
use Rattle.scenario.specs.Lines.{program_role}
use Rattle.scenario.specs.Reasons.{IsFirstScenarioReason, IsSoFar, reason_of_line, scenario_reason_of_refusal, reason_of_policy_line, scenario_reason_rank}
use Rattle.scenario.specs.declared.fault.ScenarioReason.{ScenarioReason}
use Rattle.scenario.specs.declared.fault.ScenarioReason.TheVariants.{Key, Number, Name, Known, Unknown, Schema, OtherKind, Pair, Work}
use Rattle.scenario.specs.declared.entry_words.RoleWord.{RoleWord}
use Rattle.mrpc_table.specs.declared.policy_lines.RuleReason.{RuleReason}
use Rattle.mrpc_table.specs.declared.policy_lines.RuleReason.TheVariants as rule
use Rattle.scenario_lines.specs.declared.form.ProgramRole.{ProgramRole}
use Rattle.scenario_lines.specs.declared.reason.LineReason.{LineReason}
use Rattle.scenario_lines.specs.declared.reason.LineReason.TheVariants as line
use Rattle.scenario_toml.specs.Values.{is_within_at, number_or_default}
use Rattle.scenario_entries.specs.Owning.{no_name, no_policy}
use Rattle.scenario_reader.specs.AppContext.{IsPart}
use Rattle.scenario_reader.specs.Joining.{HasEarlyFault, HasLateFault, HasProgramFault, alone, other, reason_in, refused, too_much}
use Rattle.scenario_reader.proofs.FirstReason.{alone_first, at_least}
use Rattle.scenario_reader.proofs.Ranges.{all_within, one_out}

-- ---- parts

pub part_reason : {X : Type 0} (F : ScenarioReason → Type 0) (S : X → Type 0) (r : Result X ScenarioReason) → IsPart F S r → IsSoFar F (reason_in r)
part_reason F S (Ok x) h = h.0
part_reason F S (Err q) h = h

-- ---- orders

pub line_late : (why : LineReason) → 2 ≤ scenario_reason_rank (reason_of_line why)
line_late line.Number = omega arith
line_late line.Name = omega arith
line_late line.Word = omega arith
line_late line.Place = omega arith

pub line_soon : (why : LineReason) → scenario_reason_rank (reason_of_line why) ≤ 10
line_soon line.Number = omega arith
line_soon line.Name = omega arith
line_soon line.Word = omega arith
line_soon line.Place = omega arith

pub rule_late : (why : RuleReason) → 2 ≤ scenario_reason_rank (reason_of_policy_line why)
rule_late rule.Word = omega arith
rule_late rule.Number = omega arith
rule_late rule.Name = omega arith
rule_late rule.Known = omega arith
rule_late rule.Path = omega arith
rule_late rule.Default = omega arith

pub rule_soon : (why : RuleReason) → scenario_reason_rank (reason_of_policy_line why) ≤ 10
rule_soon rule.Word = omega arith
rule_soon rule.Number = omega arith
rule_soon rule.Name = omega arith
rule_soon rule.Known = omega arith
rule_soon rule.Path = omega arith
rule_soon rule.Default = omega arith

pub refusal_late : (r : Refusal) → 11 ≤ scenario_reason_rank (scenario_reason_of_refusal r)
refusal_late (chains.no_such n) = omega arith
refusal_late (chains.taken n) = omega arith
refusal_late (chains.no_place n) = omega arith
refusal_late (chains.full n) = omega arith
refusal_late (chains.other_kind n) = omega arith

pub refusal_soon : (r : Refusal) → scenario_reason_rank (scenario_reason_of_refusal r) ≤ 15
refusal_soon (chains.no_such n) = omega arith
refusal_soon (chains.taken n) = omega arith
refusal_soon (chains.no_place n) = omega arith
refusal_soon (chains.full n) = omega arith
refusal_soon (chains.other_kind n) = omega arith

pub at_most : (r q : ScenarioReason) (n : ℕ) → r ≡ q → scenario_reason_rank q ≤ n → scenario_reason_rank r ≤ n
at_most r q n e h = subst (λ (x : ScenarioReason). scenario_reason_rank x ≤ n) (sym e) h

-- ---- an application

module _ (all : Members) (declared : List NamedPolicy) (before : List Members) (ms : Members) where
  abbrev Early : ScenarioReason → Type 0
  Early = HasEarlyFault all before ms

  abbrev Late : ScenarioReason → Type 0
  Late = HasLateFault all declared before ms

  key_late : (q : ScenarioReason) → IsAppFault all declared before ms q → 1 ≤ scenario_reason_rank q
  key_late q (against.wrong_keys h is) = at_least q Key 1 is (omega arith)
  key_late q (against.out_of_range r there h is) = at_least q Number 1 is (omega arith)
  key_late q (against.in_program r why is_role fails is) = at_least q (reason_of_line why) 1 is (let l = line_late why in omega (arith, l))
  key_late q (against.no_name n there h is) = at_least q Name 1 is (omega arith)
  key_late q (against.is_known h is) = at_least q Known 1 is (omega arith)
  key_late q (against.no_policy n there h is) = at_least q Unknown 1 is (omega arith)
  key_late q (against.no_table t there h is) = at_least q Schema 1 is (omega arith)
  key_late q (against.in_policy why fails is) = at_least q (reason_of_policy_line why) 1 is (let l = rule_late why in omega (arith, l))
  key_late q (against.is_refused ops r attached refuses is) = at_least q (scenario_reason_of_refusal r) 1 is (let l = refusal_late r in omega (arith, l))
  key_late q (against.is_other p there named apart is) = at_least q OtherKind 1 is (omega arith)
  key_late q (against.is_alone h is) = at_least q Pair 1 is (omega arith)
  key_late q (against.too_much h is) = at_least q Work 1 is (omega arith)

  early_soon : (q : ScenarioReason) → Early q → scenario_reason_rank q ≤ 10
  early_soon q (inl (inl (inl (no_name n there h is)))) = at_most q Name 10 is (omega arith)
  early_soon q (inl (inl (inl (no_policy n there h is)))) = at_most q Unknown 10 is (omega arith)
  early_soon q (inl (inl (inr (h, is)))) = at_most q Known 10 is (omega arith)
  early_soon q (inl (inr (w, is_role, fails))) = at_most q (reason_of_line fails.why) 10 fails.is (line_soon fails.why)
  early_soon q (inr (inl gone)) = at_most q Schema 10 gone.is (omega arith)
  early_soon q (inr (inr (why, fails, is))) = at_most q (reason_of_policy_line why) 10 is (rule_soon why)

  late_late : (q : ScenarioReason) → Late q → 11 ≤ scenario_reason_rank q
  late_late q (refused ops r attached refuses is) = at_least q (scenario_reason_of_refusal r) 11 is (refusal_late r)
  late_late q (other p there named apart is) = at_least q OtherKind 11 is (omega arith)
  late_late q (alone h is) = at_least q Pair 11 is (omega arith)
  late_late q (too_much h is) = at_least q Work 11 is (omega arith)

  program_from : (w : RoleWord) (q : ScenarioReason) → entry_role ms ≡ Some w → HasProgramFault w (number_or_default heap ms) (program_lines_of ms) q
      → IsAppFault all declared before ms q
  program_from w q is_role h =
      against.in_program h.of h.why (ap (option_and_then program_role) is_role ∙ h.is_of) h.against h.is

  pub early_against : (q : ScenarioReason) → Early q → IsAppFault all declared before ms q
  early_against q (inl (inl (inl (no_name n there h is)))) = against.no_name n there h is
  early_against q (inl (inl (inl (no_policy n there h is)))) = against.no_policy n there h is
  early_against q (inl (inl (inr (h, is)))) = against.is_known h is
  early_against q (inl (inr (w, is_role, fails))) = program_from w q is_role fails
  early_against q (inr (inl gone)) = against.no_table gone.text gone.there gone.none gone.is
  early_against q (inr (inr (why, fails, is))) = against.in_policy why fails is

  late_against : (q : ScenarioReason) → Late q → IsAppFault all declared before ms q
  late_against q (refused ops r attached refuses is) = against.is_refused ops r attached refuses is
  late_against q (other p there named apart is) = against.is_other p there named apart is
  late_against q (alone h is) = against.is_alone h is
  late_against q (too_much h is) = against.too_much h is

  module _ (w : RoleWord) (is_role : entry_role ms ≡ Some w) (keys : has_app_keys (Some w) ms ≡ true) where
    keys_there : has_app_keys (entry_role ms) ms ≡ true
    keys_there = ap (λ (o : Option RoleWord). has_app_keys o ms) is_role ∙ keys

    number_late : (q : ScenarioReason) → IsAppFault all declared before ms q → 2 ≤ scenario_reason_rank q
    number_late q (against.wrong_keys h is) = absurd (both_ways (has_app_keys (entry_role ms) ms) h keys_there)
    number_late q (against.out_of_range r there h is) = at_least q Number 2 is (omega arith)
    number_late q (against.in_program r why of fails is) = at_least q (reason_of_line why) 2 is (line_late why)
    number_late q (against.no_name n there h is) = at_least q Name 2 is (omega arith)
    number_late q (against.is_known h is) = at_least q Known 2 is (omega arith)
    number_late q (against.no_policy n there h is) = at_least q Unknown 2 is (omega arith)
    number_late q (against.no_table t there h is) = at_least q Schema 2 is (omega arith)
    number_late q (against.in_policy why fails is) = at_least q (reason_of_policy_line why) 2 is (rule_late why)
    number_late q (against.is_refused ops r attached refuses is) = at_least q (scenario_reason_of_refusal r) 2 is (let l = refusal_late r in omega (arith, l))
    number_late q (against.is_other p there named apart is) = at_least q OtherKind 2 is (omega arith)
    number_late q (against.is_alone h is) = at_least q Pair 2 is (omega arith)
    number_late q (against.too_much h is) = at_least q Work 2 is (omega arith)

    pub app_number_first : list_all (is_within_at ms) app_ranges ≡ false → IsFirstScenarioReason (IsAppFault all declared before ms) Number
    app_number_first out =
        let r = one_out ms app_ranges out in
        alone_first (IsAppFault all declared before ms) Number (against.out_of_range r.0 r.1 r.2 refl) number_late

    module _ (within : list_all (is_within_at ms) app_ranges ≡ true) where
      program_to : (r : ProgramRole) (why : LineReason) → option_and_then program_role (entry_role ms) ≡ Some r → program_role w ≡ Some r
      program_to r why of = ap (option_and_then program_role) (sym is_role) ∙ of

      split : (q : ScenarioReason) → IsAppFault all declared before ms q → Early q ⊎ Late q
      split q (against.wrong_keys h is) = absurd (both_ways (has_app_keys (entry_role ms) ms) h keys_there)
      split q (against.out_of_range r there h is) = absurd (all_within ms app_ranges within r there h)
      split q (against.in_program r why of fails is) =
          inl (inl (inr (w, is_role, record { of = r; is_of = program_to r why of; why = why; against = fails; is = is })))
      split q (against.no_name n there h is) = inl (inl (inl (inl (no_name n there h is))))
      split q (against.is_known h is) = inl (inl (inl (inr (h, is))))
      split q (against.no_policy n there h is) = inl (inl (inl (inl (no_policy n there h is))))
      split q (against.no_table t there h is) = inl (inr (inl (record { text = t; there = there; none = h; is = is })))
      split q (against.in_policy why fails is) = inl (inr (inr (why, fails, is)))
      split q (against.is_refused ops r attached refuses is) = inr (refused ops r attached refuses is)
      split q (against.is_other p there named apart is) = inr (other p there named apart is)
      split q (against.is_alone h is) = inr (alone h is)
      split q (against.too_much h is) = inr (too_much h is)

      pub app_early_first : (q : ScenarioReason) → IsFirstScenarioReason Early q → IsFirstScenarioReason (IsAppFault all declared before ms) q
      app_early_first q first = record {
        stands = early_against q first.stands;
        first = λ o h. elim (split o h) [
          | inl early ↦ first.first o early
          | inr late ↦ (let a = early_soon q first.stands in let b = late_late o late in omega (arith, a, b))
        ];
      }

      pub app_late_first : ((q : ScenarioReason) → Early q → ⊥) → (q : ScenarioReason) → IsFirstScenarioReason Late q
          → IsFirstScenarioReason (IsAppFault all declared before ms) q
      app_late_first none q first = record {
        stands = late_against q first.stands;
        first = λ o h. elim (split o h) [
          | inl early ↦ absurd (none o early)
          | inr late ↦ first.first o late
        ];
      }

      pub app_free : ((q : ScenarioReason) → Early q → ⊥) → ((q : ScenarioReason) → Late q → ⊥) → (q : ScenarioReason)
          → IsAppFault all declared before ms q → ⊥
      app_free none no_late q h = elim (split q h) [
        | inl early ↦ none q early
        | inr late ↦ no_late q late
      ]
