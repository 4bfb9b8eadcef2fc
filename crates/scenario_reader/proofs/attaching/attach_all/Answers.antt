use Rattle.std.proofs.Common.{Option, List, refl, ap, sym, ◌∙◌, subst, arith}
use Rattle.mrpc_table.specs.Lines.{in_64_bits}
use Rattle.run_plan.specs.Chains.{empty_chain}
use Rattle.scenario.specs.declared.fault.ScenarioReason.{ScenarioReason}
use Rattle.scenario_entries.specs.ChainEntries.{IsChangeOrRefusal, AreEntriesOf}
use Rattle.scenario_entries.specs.declared.chain.ChainEntry.{ChainEntry}
use Rattle.scenario_reader.proofs.Walking.{attach_more, attach_none, attach_refused, attaches_changed, begun, empty_sound, laws_of, nothing_attaches, small_in}
use Rattle.scenario_reader.proofs.attaching.attach_all.Goals as goal

pub loop-name-init : goal.loop-name-init
loop-name-init c = record {
  counted = refl;
  walked = begun c.args.declared.now c.new-chain.result.entries.items (subst (λ (es : List ChainEntry). AreEntriesOf es empty_chain) (sym c.new-chain.ensures) refl) empty_sound;
}

pub returns-in_default : goal.returns-in_default
returns-in_default c = λ ops are.
    absurd (attach_none (laws_of c.change_or_rejection.ensures.one_chain c.change_or_rejection.ensures.not_both c.change_or_rejection.ensures.one_refusal c.change_preserves_chain.ensures)
    c.args.declared.now c.args.names.now c.loop-name.name-index _ c.loop-name-test.true empty_chain c.loop-name.chain.entries.items
    c.loop-name.chain.entries.items c.loop-name.invariant.walked
    (λ o a. nothing_attaches c.args.declared.now c.loop-name.name-index _ o c.in_default.ensures a) ops are)

pub returns-in-Some-2 : goal.returns-in-Some-2
returns-in-Some-2 c =
    let fits = c.loop-name.auto.at-fits in
    let small = small_in c.loop-name.at (omega (arith, fits)) ∙ ap in_64_bits c.loop-name.invariant.counted in
    attach_refused (laws_of c.change_or_rejection.ensures.one_chain c.change_or_rejection.ensures.not_both c.change_or_rejection.ensures.one_refusal c.change_preserves_chain.ensures)
    c.args.declared.now c.args.names.now c.loop-name.name-index _ c.loop-name-test.true empty_chain c.loop-name.chain.entries.items
    c.attach.new.self.entries.items c.loop-name.invariant.walked c.in-Some-2.reason
    (λ before o sound kept a.
    subst (λ (r : Option ScenarioReason). IsChangeOrRefusal before o c.attach.new.self.entries.items r) c.in-Some-2.is
    (attaches_changed c.args.declared.now c.loop-name.name-index _ o c.in-Some.named.now before c.attach.new.self.entries.items
    c.in_ok-reason.field-0 a c.in-Some.ensures
    (λ label. c.in_ok-reason.ensures before c.loop-name.name-index label sound kept small)))

pub loop-name-preserved : goal.loop-name-preserved
loop-name-preserved c =
    let fits = c.loop-name.auto.at-fits in
    let small = small_in c.loop-name.at (omega (arith, fits)) ∙ ap in_64_bits c.loop-name.invariant.counted in
    record {
      counted = (let e = c.loop-name.invariant.counted in omega (arith, e));
      walked =
          attach_more (laws_of c.change_or_rejection.ensures.one_chain c.change_or_rejection.ensures.not_both c.change_or_rejection.ensures.one_refusal c.change_preserves_chain.ensures)
          c.args.declared.now c.args.names.now c.loop-name.name-index _ c.loop-name-test.true empty_chain c.loop-name.chain.entries.items
          c.attach.new.self.entries.items c.loop-name.invariant.walked
          (λ before o sound kept a.
          subst (λ (r : Option ScenarioReason). IsChangeOrRefusal before o c.attach.new.self.entries.items r) c.in_default-2.is
          (attaches_changed c.args.declared.now c.loop-name.name-index _ o c.in-Some.named.now before c.attach.new.self.entries.items
          c.in_ok-reason.field-0 a c.in-Some.ensures
          (λ label. c.in_ok-reason.ensures before c.loop-name.name-index label sound kept small)));
    }
