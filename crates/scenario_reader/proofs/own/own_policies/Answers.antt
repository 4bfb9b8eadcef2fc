use Rattle.std.proofs.Common.{◌↔◌, ℕ, List, Contains, map, sym, ap, ◌∙◌, subst}
use Rattle.std.specs.Borrow.{Bor}
use Rattle.run_plan.specs.declared.application.OwnPolicy.{OwnPolicy}
use Rattle.toml.specs.Data.{Members}
use Rattle.toml.specs.View.{table_view}
use Rattle.scenario.specs.Applications.{operator_tables}
use Rattle.scenario.specs.Reasons.{IsFirstScenarioReason}
use Rattle.scenario.specs.declared.fault.ScenarioReason.{ScenarioReason}
use Rattle.scenario_entries.specs.Entries.{views}
use Rattle.scenario_entries.specs.Owning.{HasNamedFault}
use Rattle.scenario_reader.specs.Owning.{IsOwn, IsUsedIn}
use Rattle.scenario_reader.proofs.Owning.{own_first, own_free, own_is}
use Rattle.scenario_reader.proofs.own.own_policies.Goals as goal

pub returns-in-Err : goal.returns-in-Err
returns-in-Err c = λ all T text above there has.
    let ms = table_view c.args.entry.now in
    let words = ap (λ (xs : List (Bor (List ℕ))). map (λ n. n.now) xs) c.as_slice.ensures.value ∙ c.in_ok-names.ensures in
    let read = rw c.in-Err.is at (c.in_ok-first.ensures all ms text T there has above.entries above.free above.policies) in
    own_first all ms text there c.args.table.now has c.in-Err.reason
    (subst (λ (ns : List (List ℕ)). IsFirstScenarioReason (HasNamedFault all ms (Contains ns)) c.in-Err.reason) words read)

pub returns : goal.returns
returns c = λ all T text above there has.
    let ms = table_view c.args.entry.now in
    let table = c.args.table.now in
    let words = ap (λ (xs : List (Bor (List ℕ))). map (λ n. n.now) xs) c.as_slice.ensures.value ∙ c.in_ok-names.ensures in
    let read = rw c.in-Ok.is at (c.in_ok-first.ensures all ms text T there has above.entries above.free above.policies) in
    let named =
    subst (λ (ns : List (List ℕ)). (q : ScenarioReason) → HasNamedFault all ms (Contains ns) q → ⊥) words read.1 in
    let more = ap (λ (xs : List (Bor (List ℕ))). map (λ n. n.now) xs) c.as_slice-2.ensures.value in
    let names = map (λ n. n.now) c.as_slice-2.result.now in
    let used : (name : List ℕ) → Contains names name ↔ IsUsedIn (operator_tables all) ms name =
    λ name. subst (λ (os : List Members). Contains names name ↔ IsUsedIn os ms name) above.operators
    (subst (λ (ns : List (List ℕ)). Contains ns name ↔ IsUsedIn (views c.args.above.operators.now) ms name) (sym more) (c.in_ok-used.ensures name)) in
    let again = c.in_ok-read.ensures all ms text T there has above.entries above.free above.policies in (
      own_free all ms text there table has named,
      subst (λ (ps : List OwnPolicy). IsOwn all ms (record { table = table; policies = ps })) (sym c.unwrap_or-policies.ensures)
          (own_is all ms text there table has names used c.requires.valid c.in-Ok.named c.in_ok-read.read again),
    )
