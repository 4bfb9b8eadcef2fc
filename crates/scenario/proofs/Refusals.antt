-- The definitions on faulty texts, chains and policies worked out by hand.
use Rattle.std.proofs.Common.{◌≡◌, ◌<◌, true, false, pos, List, [], codes, Some, None, refl, inl, inr, sym, ◌∙◌, ◌≤◌, subst, arith, lit≤, lit<}
use Rattle.engine_core.specs.Chains.{Refusal, IsRejection, detaches_none, full, no_place, no_such, refusal_rank, taken}
use Rattle.engine_core.specs.Chains as chains
use Rattle.engine_core.specs.declared.op.Op.TheVariants as op
use Rattle.policy_declarations.specs.declared.declaration.NamedPolicy.{NamedPolicy}
use Rattle.run_plan.specs.Chains.{empty_chain}
use Rattle.toml.specs.Data.{string, integer, array, table, no_items, item, Members, no_members, member}
use Rattle.toml.specs.Parse.{parse_document}
use Rattle.toml.proofs.OnLiterals.{toml_on_literals}
use Rattle.scenario.specs.Applications.{IsAppFault, is_other}
use Rattle.scenario.specs.Keys.{format}
use Rattle.scenario.specs.Reasons as reasons
use Rattle.scenario.specs.Scenarios.{HasFault, IsFaultOfEntry, IsFirstFaultyEntry, IsTableText, IsTopKeyFault, no_toml}
use Rattle.scenario.specs.Scenarios as scenarios
use Rattle.scenario.specs.declared.fault.FaultyEntry.TheVariants as entry
use Rattle.scenario.specs.declared.fault.ScenarioReason.{ScenarioReason}
use Rattle.scenario.specs.declared.fault.ScenarioReason.TheVariants as reason

-- ---- texts

equals_alone : parse_document (codes "=") ≡ None
unfolding toml_on_literals
equals_alone = refl

no_table_text : (all : Members) → IsTableText (codes "=") all → ⊥
no_table_text all h =
    let e : None ≡ Some all = sym equals_alone ∙ h.1 in
    absurd cc

is_no_toml : HasFault (codes "=") entry.Top reason.Toml
is_no_toml = no_toml no_table_text refl refl

-- ---- policies of another kind

abbrev counting : Members
counting = member (codes "kind") (string (codes "count")) (member (codes "name") (string (codes "c")) no_members)

abbrev with_policy : Members
with_policy = member (codes "policy") (array (item (table counting) no_items)) no_members

abbrev judged : Members
judged = member (codes "inbound") (string (codes "c")) no_members

other_kind : (declared : List NamedPolicy) → IsAppFault with_policy declared [] judged reason.OtherKind
other_kind declared = is_other counting (0, lit< tt, refl) refl (λ e. cc) refl

-- ---- chains

none_below : (other : Refusal) → refusal_rank other < 1 → ⊥
none_below (no_such n) less = absurd (omega (arith, less))
none_below (taken n) less = absurd (omega (arith, less))
none_below (no_place n) less = absurd (omega (arith, less))
none_below (full n) less = absurd (omega (arith, less))
none_below (chains.other_kind n) less = absurd (omega (arith, less))

-- nothing to detach
none_to_detach : IsRejection empty_chain (op.Detach (codes "x")) (no_such (codes "x"))
none_to_detach = record {
  against = detaches_none (codes "x") refl (λ h. absurd (omega (arith, h.1))) refl;
  first = λ other less against. none_below other less;
}

abbrev client : Members
client = member (codes "conn") (integer (pos 1)) no_members

abbrev with_client : Members
with_client = member (codes "app") (array (item (table client) no_items)) no_members

abbrev operator : Members
operator =
    member (codes "conn") (integer (pos 1))
    (member (codes "steps") (array (item (string (codes "3 detach x")) no_items)) no_members)

-- a number out of range is the first fault of a scenario with all its keys
abbrev other_format : Members
other_format =
    member (codes "mrpc") (integer (pos 2)) (member (codes "schema") (string []) (member (codes "service") (string (codes "S")) no_members))

low : (q r : ScenarioReason) → q ≡ r → reasons.scenario_reason_rank q < 2 → 2 ≤ reasons.scenario_reason_rank r → ⊥
low q r is less most = absurd (omega (arith, subst (λ (x : ScenarioReason). reasons.scenario_reason_rank x < 2) is less, most))

no_key_fault : (q : ScenarioReason) → reasons.scenario_reason_rank q < 2 → IsTopKeyFault other_format q → ⊥
no_key_fault q less (scenarios.wrong_keys wrong is) = let e : true ≡ false = wrong in absurd cc
no_key_fault q less (scenarios.out_of_range r there out is) = low q _ is less (lit≤ tt)
no_key_fault q less (scenarios.no_name lacks is) = low q _ is less (lit≤ tt)
no_key_fault q less (scenarios.no_table lacks is) = low q _ is less (lit≤ tt)

top_alone : (q : ScenarioReason) → reasons.scenario_reason_rank q < 2 → IsFaultOfEntry other_format entry.Top q → ⊥
top_alone q less (scenarios.top at against) = no_key_fault q less against
top_alone q less (scenarios.tenant before ms n at stands against) = absurd cc
top_alone q less (scenarios.policy before ms n T at stands has against) = absurd cc
top_alone q less (scenarios.app before ms n d at stands has against) = absurd cc
top_alone q less (scenarios.link before ms n at stands against) = absurd cc
top_alone q less (scenarios.operator before ms n d at stands has against) = absurd cc

number_first : IsFirstFaultyEntry other_format entry.Top reason.Number
number_first = record {
  stands = scenarios.top refl (scenarios.out_of_range format (0, lit< tt, refl) refl refl);
  first_entry = λ other q before against. elim before [
    | inl less ↦ absurd (omega (arith, less))
    | inr less ↦ absurd (omega (arith, less.1))
  ];
  first_reason = top_alone;
}
