use Rattle.std.proofs.Common.{Option, List, sym, subst}
use Rattle.std.proofs.lemmas.List.{take_all}
use Rattle.scenario.specs.declared.fault.ScenarioReason.{ScenarioReason}
use Rattle.scenario_entries.specs.ChainEntries.{IsChangeOrRefusal}
use Rattle.scenario_lines.specs.Programs.{Each}
use Rattle.scenario_lines.specs.declared.step.StepText.{StepText}
use Rattle.scenario_reader.specs.Walking.{IsOpOf}
use Rattle.scenario_reader.proofs.Walking.{Laws, walk_more, walk_refused}
use Rattle.scenario_reader.proofs.walk.apply_all.Goals as goal

pub returns-in-Some : goal.returns-in-Some
returns-in-Some c =
    let laws : Laws = record {
      one = c.change_or_rejection.ensures.one_chain;
      not_both = c.change_or_rejection.ensures.not_both;
      one_refusal = c.change_or_rejection.ensures.one_refusal;
      stays = c.change_preserves_chain.ensures;
    } in
    walk_refused laws c.args.declared.now c.args.told.now c.loop-step.step-index _ c.loop-step-test.true c.args.chain.now.entries.items
    c.loop-step.chain.entries.items c.apply_step.new.chain.entries.items c.loop-step.invariant c.in-Some.reason
    (λ start o sound kept is.
    subst (λ (r : Option ScenarioReason). IsChangeOrRefusal start o c.apply_step.new.chain.entries.items r) c.in-Some.is
    (c.in_ok-reason.ensures start o sound kept is))

pub loop-step-preserved : goal.loop-step-preserved
loop-step-preserved c =
    let laws : Laws = record {
      one = c.change_or_rejection.ensures.one_chain;
      not_both = c.change_or_rejection.ensures.not_both;
      one_refusal = c.change_or_rejection.ensures.one_refusal;
      stays = c.change_preserves_chain.ensures;
    } in
    walk_more laws c.args.declared.now c.args.told.now c.loop-step.step-index _ c.loop-step-test.true c.args.chain.now.entries.items
    c.loop-step.chain.entries.items c.apply_step.new.chain.entries.items c.loop-step.invariant
    (λ start o sound kept is.
    subst (λ (r : Option ScenarioReason). IsChangeOrRefusal start o c.apply_step.new.chain.entries.items r) c.in_default.is
    (c.in_ok-reason.ensures start o sound kept is))

pub returns : goal.returns
returns c = λ start ops sound kept are.
    let all = take_all c.loop-step.step-index c.args.told.now c.loop-step-test.false in
    let w =
    c.loop-step.invariant start ops sound kept
    (subst (λ (xs : List StepText). Each (IsOpOf c.args.declared.now) xs ops) (sym all) are) in
    (w.after, w.change)
