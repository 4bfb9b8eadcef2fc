use Rattle.std.proofs.Common.{◌+◌, ◌<◌, Bool, List, Option, Some, Result, length, refl, sym, ap, ◌∙◌, subst, take, arith}
use Rattle.std.proofs.lemmas.List.{take_all}
use Rattle.mrpc_table.specs.declared.policy_lines.RuleReason.{RuleReason}
use Rattle.engine_core.specs.declared.policy.Policy.{Policy}
use Rattle.run_plan.specs.declared.application.OwnPolicy.{OwnPolicy}
use Rattle.toml.specs.View.{table_view}
use Rattle.scenario.specs.Reasons.{IsSoFar, lower_ranked}
use Rattle.scenario.specs.declared.fault.ScenarioReason.{ScenarioReason}
use Rattle.scenario_entries.specs.Entries.{views}
use Rattle.scenario_entries.specs.Marking.{AreReadAgain, HasReadMarked, IsReadAgain, HasMarkedFault}
use Rattle.scenario_entries.proofs.Rereading.{fails, skips, takes}
use Rattle.scenario_entries.proofs.Reentering.{entry_at, said_at}
use Rattle.scenario_entries.proofs.own.read_marked.Goals.{then-marks-place+in_ok-policy+in-Ok+in_ok-push-in-Ok, then-marks-place+in_ok-policy+in-Err, else-marks-place}
use Rattle.scenario_entries.proofs.own.read_marked.Goals as goal

pub loop-place-preserved : goal.loop-place-preserved
loop-place-preserved c = λ shared tenants says.
    let entries = c.args.entries.now in
    let policies = c.args.policies.now in
    let own = c.args.table.now in
    let marks = c.args.marks.now in
    let i = c.loop-place.place in
    let long = c.requires.marked in
    let within : i < length marks = (let test = c.loop-place-test.true in omega (arith, test, long)) in
    let so_far = c.loop-place.invariant shared tenants says in
    elim c.if-marks-place.branch [
      | then-marks-place+in_ok-policy+in-Ok+in_ok-push-in-Ok w ↦
          let e = w.index-entries-place.result in
          let p = w.index-policies-place.result in
          let there = entry_at entries i e (omega (arith, c.loop-place-test.true, c.requires.long)) w.index-entries-place.is in
          let told = said_at shared tenants entries policies i e p says there w.index-policies-place.is c.loop-place-test.true in
          let read = subst (λ (r : Result Policy RuleReason). IsReadAgain own tenants (table_view e.now) r) w.in-Ok.is (w.in_ok-policy.ensures shared tenants told) in
          subst (λ (f : Option ScenarioReason). HasReadMarked (views entries) tenants own (take (i + 1) marks) f c.if-marks-place.read) (sym w.first-is)
          (subst (λ (ps : List OwnPolicy). HasReadMarked (views entries) tenants own (take (i + 1) marks) c.loop-place.first ps)
          (sym (w.read-is ∙ w.in_ok-push-in-Ok.ensures.ok))
          (takes (views entries) tenants own marks i within c.loop-place.first c.loop-place.read so_far (table_view e.now) there w.if-marks-place.true
          (record { place = i; policy = w.in-Ok.policy }) refl read))
      | then-marks-place+in_ok-policy+in-Err w ↦
          let e = w.index-entries-place.result in
          let p = w.index-policies-place.result in
          let there = entry_at entries i e (omega (arith, c.loop-place-test.true, c.requires.long)) w.index-entries-place.is in
          let told = said_at shared tenants entries policies i e p says there w.index-policies-place.is c.loop-place-test.true in
          let read = subst (λ (r : Result Policy RuleReason). IsReadAgain own tenants (table_view e.now) r) w.in-Err.is (w.in_ok-policy.ensures shared tenants told) in
          let is = ap (λ (q : ScenarioReason). lower_ranked c.loop-place.first (Some q)) (sym w.reason_of_policy_line.ensures) ∙ w.first_with.ensures in
          subst (λ (f : Option ScenarioReason). HasReadMarked (views entries) tenants own (take (i + 1) marks) f c.if-marks-place.read) (sym w.first-is)
          (subst (λ (ps : List OwnPolicy). HasReadMarked (views entries) tenants own (take (i + 1) marks) (Some w.first_with.result) ps) (sym w.read-is)
          (fails (views entries) tenants own marks i within c.loop-place.first c.loop-place.read so_far (table_view e.now) there w.if-marks-place.true
          w.in-Err.why w.first_with.result read is))
      | else-marks-place w ↦
          subst (λ (f : Option ScenarioReason). HasReadMarked (views entries) tenants own (take (i + 1) marks) f c.if-marks-place.read) (sym w.first-is)
          (subst (λ (ps : List OwnPolicy). HasReadMarked (views entries) tenants own (take (i + 1) marks) c.loop-place.first ps) (sym w.read-is)
          (skips (views entries) tenants own marks i within c.loop-place.first c.loop-place.read so_far w.if-marks-place.false))
    ]

pub returns-in-None : goal.returns-in-None
returns-in-None c = λ shared tenants says.
    let entries = views c.args.entries.now in
    let own = c.args.table.now in
    let marks = c.args.marks.now in
    let read = c.loop-place.invariant shared tenants says in
    let same = take_all c.loop-place.place marks (omega (arith, c.loop-place-test.false, c.requires.marked)) in
    let free = subst (λ (f : Option ScenarioReason). IsSoFar (HasMarkedFault entries own (take c.loop-place.place marks)) f) c.in-None.is read.so_far in (
      subst (λ (ms : List Bool). AreReadAgain entries tenants own ms c.loop-place.read) same (read.read c.in-None.is),
      λ q f. free q (subst (λ (ms : List Bool). HasMarkedFault entries own ms q) (sym same) f),
    )

pub returns-in-Some : goal.returns-in-Some
returns-in-Some c = λ shared tenants says.
    let entries = views c.args.entries.now in
    let own = c.args.table.now in
    let marks = c.args.marks.now in
    let read = c.loop-place.invariant shared tenants says in
    let same = take_all c.loop-place.place marks (omega (arith, c.loop-place-test.false, c.requires.marked)) in
    let first = subst (λ (f : Option ScenarioReason). IsSoFar (HasMarkedFault entries own (take c.loop-place.place marks)) f) c.in-Some.is read.so_far in
    subst (λ (ms : List Bool). IsSoFar (HasMarkedFault entries own ms) (Some c.in-Some.reason)) same first
