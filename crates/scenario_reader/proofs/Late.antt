-- The first reason of faults in an application's chain, the policy that judges deliveries, its links, and the calls
-- submitted up to it.
use Rattle.std.proofs.Common.{◌≡◌, ℕ, ◌+◌, ◌*◌, ◌<◌, ◌≤◌, List, [], ◌∷◌, ◌++◌, map, sum, Contains, Some, refl, sym, ap, ◌∙◌, arith}
use Rattle.std.specs.Prelude.{codes}
use Rattle.std.proofs.lemmas.List.Sums.{sum_by-cons}
use Rattle.mrpc_table.specs.Valid.{AreDistinct}
use Rattle.engine_core.specs.Chains.{Refusal}
use Rattle.engine_core.specs.declared.op.Op.{Op}
use Rattle.policy_declarations.specs.Declarations.{Declared, policy_names}
use Rattle.run_plan.specs.Chains.{empty_chain}
use Rattle.run_plan.specs.declared.limits.TheConstants.{MAX_WORK}
use Rattle.toml.specs.Data.{Members}
use Rattle.scenario.specs.Applications.{AreAttached, IsFirstRefusedOp, all_entry_ends, chain_names, entry_conn, link_tables, policy_tables, entry_submissions, work_of_entries}
use Rattle.scenario.specs.Keys.{entry_kind, loads}
use Rattle.scenario.specs.Policies.{entry_name}
use Rattle.scenario.specs.Reasons.{IsFirstScenarioReason, scenario_reason_of_refusal, scenario_reason_rank}
use Rattle.scenario.specs.declared.fault.ScenarioReason.{ScenarioReason}
use Rattle.scenario.specs.declared.fault.ScenarioReason.TheVariants.{OtherKind, Pair, Work}
use Rattle.scenario.specs.declared.entry_words.PolicyKind.TheVariants as kind
use Rattle.scenario_toml.specs.Values.{number_or_default, text_at}
use Rattle.scenario_entries.specs.declared.chain.ChainEntry.{ChainEntry}
use Rattle.scenario_reader.specs.Joining.{HasLateFault, alone, other, refused, too_much}
use Rattle.scenario_reader.specs.Walking.{AreOpsOf, IsRefusedFor, IsWalkedTo}
use Rattle.scenario_reader.proofs.Applying.{at_most, refusal_soon}
use Rattle.scenario_reader.proofs.FirstReason.{at_least}
use Rattle.scenario_reader.proofs.Telling.{attached_ops, attachments_are}
use Rattle.scenario_reader.proofs.Walking.{Laws, empty_sound, not_refused, one_refused}

module _ (all : Members) (d : Declared) (before : List Members) (ms : Members) (distinct : AreDistinct (policy_names d)) where
  abbrev Late : ScenarioReason → Type 0
  Late = HasLateFault all d.policies before ms

  abbrev pub NotRefused : Type 0
  NotRefused = (ops : List Op) (r : Refusal) → AreAttached d.policies 0 (chain_names ms) ops → IsFirstRefusedOp empty_chain ops r → ⊥

  -- what the chain refuses
  module _ (laws : Laws) where
    pub refused_first : ((name : List ℕ) → Contains (chain_names ms) name → Contains (policy_names d) name) → (q : ScenarioReason)
        → ((ops : List Op) → AreOpsOf d 0 (chain_names ms) ops → IsRefusedFor empty_chain ops q) → IsFirstScenarioReason Late q
    refused_first named q refuses =
        let some = attachments_are d 0 (chain_names ms) named in
        let r = refuses some.0 (attached_ops d 0 (chain_names ms) some.0 distinct some.1) in
        record {
          stands = refused some.0 r.0 some.1 r.1 r.2;
          first = later;
        }
      where
        soon : scenario_reason_rank q ≤ 15
        soon =
            let some = attachments_are d 0 (chain_names ms) named in
            let r = refuses some.0 (attached_ops d 0 (chain_names ms) some.0 distinct some.1) in
            at_most q (scenario_reason_of_refusal r.0) 15 r.2 (refusal_soon r.0)

        later : (o : ScenarioReason) → Late o → scenario_reason_rank q ≤ scenario_reason_rank o
        later o (refused ops x attached first is) =
            let r = refuses ops (attached_ops d 0 (chain_names ms) ops distinct attached) in
            let same = one_refused laws empty_chain ops r.0 x empty_sound r.1 first in
            let e : q ≡ o = r.2 ∙ ap scenario_reason_of_refusal same ∙ sym is in
            let n = ap scenario_reason_rank e in
            omega (arith, n)
        later o (other p there named_too apart is) = (let a = soon in let b = at_least o OtherKind 15 is (omega arith) in omega (arith, a, b))
        later o (alone h is) = (let a = soon in let b = at_least o Pair 15 is (omega arith) in omega (arith, a, b))
        later o (too_much h is) = (let a = soon in let b = at_least o Work 15 is (omega arith) in omega (arith, a, b))

    pub none_refused : (entries : List ChainEntry) → ((ops : List Op) → AreOpsOf d 0 (chain_names ms) ops → IsWalkedTo empty_chain ops entries) → NotRefused
    none_refused entries walked ops r attached first =
        let w = walked ops (attached_ops d 0 (chain_names ms) ops distinct attached) in
        not_refused laws empty_chain w.after ops r empty_sound w.change first

  -- a policy that doesn't judge deliveries
  abbrev pub NotOther : Type 0
  NotOther = (p : Members) → Contains (policy_tables all) p → text_at (codes "inbound") ms ≡ Some (entry_name p)
      → (entry_kind p ≡ Some kind.Access → ⊥) → ⊥

  pub other_first : NotRefused → (p : Members) → Contains (policy_tables all) p → text_at (codes "inbound") ms ≡ Some (entry_name p)
      → (entry_kind p ≡ Some kind.Access → ⊥) → IsFirstScenarioReason Late OtherKind
  other_first none p there named apart = record { stands = other p there named apart refl; first = later } where
    later : (o : ScenarioReason) → Late o → 15 ≤ scenario_reason_rank o
    later o (refused ops x attached first is) = absurd (none ops x attached first)
    later o (other p there named_too apart is) = at_least o OtherKind 15 is (omega arith)
    later o (alone h is) = at_least o Pair 15 is (omega arith)
    later o (too_much h is) = at_least o Work 15 is (omega arith)

  pub alone_first : NotRefused → NotOther → (Contains (all_entry_ends (link_tables all)) (entry_conn ms) → ⊥) → IsFirstScenarioReason Late Pair
  alone_first none no_other h = record { stands = alone h refl; first = later } where
    later : (o : ScenarioReason) → Late o → 16 ≤ scenario_reason_rank o
    later o (refused ops x attached first is) = absurd (none ops x attached first)
    later o (other p there named apart is) = absurd (no_other p there named apart)
    later o (alone k is) = at_least o Pair 16 is (omega arith)
    later o (too_much k is) = at_least o Work 16 is (omega arith)

  pub work_first : NotRefused → NotOther → Contains (all_entry_ends (link_tables all)) (entry_conn ms) → MAX_WORK < work_of_entries all (before ++ ms ∷ [])
      → IsFirstScenarioReason Late Work
  work_first none no_other ended h = record { stands = too_much h refl; first = later } where
    later : (o : ScenarioReason) → Late o → 17 ≤ scenario_reason_rank o
    later o (refused ops x attached first is) = absurd (none ops x attached first)
    later o (other p there named apart is) = absurd (no_other p there named apart)
    later o (alone k is) = absurd (k ended)
    later o (too_much k is) = at_least o Work 17 is (omega arith)

  pub late_free : NotRefused → NotOther → Contains (all_entry_ends (link_tables all)) (entry_conn ms) → work_of_entries all (before ++ ms ∷ []) ≤ MAX_WORK
      → (q : ScenarioReason) → Late q → ⊥
  late_free none no_other ended few q (refused ops x attached first is) = none ops x attached first
  late_free none no_other ended few q (other p there named apart is) = no_other p there named apart
  late_free none no_other ended few q (alone k is) = k ended
  late_free none no_other ended few q (too_much k is) = absurd (omega (arith, k, few))

-- the work of the applications up to this one
pub sum_more : (apps : List Members) (ms : Members) (before more : ℕ) → before ≡ sum (map entry_submissions apps) → more ≡ entry_submissions ms
    → before + more ≡ sum (map entry_submissions (apps ++ ms ∷ []))
sum_more apps ms before more b m =
    let e = total apps in
    omega (arith, b, m, e)
  where
    total : (xs : List Members) → sum (map entry_submissions (xs ++ ms ∷ [])) ≡ sum (map entry_submissions xs) + entry_submissions ms
    total [] = omega arith
    total (x ∷ xs) =
        let a = sum_by-cons (λ n. n) (entry_submissions x) (map entry_submissions (xs ++ ms ∷ [])) in
        let b = sum_by-cons (λ n. n) (entry_submissions x) (map entry_submissions xs) in
        let t = total xs in
        omega (arith, a, b, t)

pub work_is : (all : Members) (apps : List Members) (ms : Members) (before more l : ℕ) → before ≡ sum (map entry_submissions apps) → more ≡ entry_submissions ms
    → l ≡ number_or_default loads all → 2 * (before + more) * l ≡ work_of_entries all (apps ++ ms ∷ [])
work_is all apps ms before more l b m is =
    let total : before + more ≡ sum (map entry_submissions (apps ++ ms ∷ [])) = sum_more apps ms before more b m in
    ap (λ (n : ℕ). 2 * n * l) total ∙ ap (λ (n : ℕ). 2 * sum (map entry_submissions (apps ++ ms ∷ [])) * n) is
