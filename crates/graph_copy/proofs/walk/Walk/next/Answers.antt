use Rattle.std.proofs.Common.{sym, subst, ◌∙◌}
use Rattle.graph_copy.specs.Expected.{expected, frame_words, stack_words, AreInHeap}
use Rattle.graph_copy.proofs.Fitting.{all_fit_left}
use Rattle.graph_copy.proofs.Stacking.{stack_pop, first_found, none_found}
use Rattle.graph_copy.proofs.walk.Walk.next.Goals as goal

pub open-requires-clause-fits : goal.open-requires-clause-fits
open-requires-clause-fits c =
    let T = c.args.table.now in
    let all = stack_pop T c.loop-frame.self.frames c.pop.new.self c.in-Some-pop.frame (expected T c.args.self.now) c.in-Some-pop.ensures.some c.loop-frame.invariant.words in
    let fits = subst (AreInHeap c.args.self.now.size) (sym all) c.requires.fits in
    subst (λ H. AreInHeap H (frame_words T c.in-Some-pop.frame)) (sym c.loop-frame.invariant.size)
    (all_fit_left c.args.self.now.size (frame_words T c.in-Some-pop.frame) (stack_words T c.pop.new.self) fits)

pub returns-in-Some-2-clause-word : goal.returns-in-Some-2-clause-word
returns-in-Some-2-clause-word c =
    let T = c.args.table.now in
    let all = stack_pop T c.loop-frame.self.frames c.pop.new.self c.in-Some-pop.frame (expected T c.args.self.now) c.in-Some-pop.ensures.some c.loop-frame.invariant.words in
    first_found T c.in-Some-pop.frame c.pop.new.self c.open.new.self.frames c.in_ok-role.field-0 (
      c.in-Some-2.role,
      c.in-Some-2.place,
    ) (expected T c.args.self.now) c.open.new.self.run c.open.new.self.bytes.items
    all c.in-Some-2.is (c.in_ok-role.ensures.run ∙ c.loop-frame.invariant.no_run) c.in_ok-role.ensures.found

pub loop-frame-preserved : goal.loop-frame-preserved
loop-frame-preserved c =
    let T = c.args.table.now in
    let all = stack_pop T c.loop-frame.self.frames c.pop.new.self c.in-Some-pop.frame (expected T c.args.self.now) c.in-Some-pop.ensures.some c.loop-frame.invariant.words in
    record {
      words = none_found T c.in-Some-pop.frame c.pop.new.self c.open.new.self.frames c.in_ok-role.field-0 (expected T c.args.self.now) all c.in_default-2.is c.in_ok-role.ensures.found;
      no_run = c.in_ok-role.ensures.run ∙ c.loop-frame.invariant.no_run;
      size = c.in_ok-role.ensures.size ∙ c.loop-frame.invariant.size;
    }
