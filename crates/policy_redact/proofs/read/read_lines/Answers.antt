use Rattle.std.proofs.Common.{◌∙◌, ap, sym, List, ℕ}
use Rattle.policy_redact.specs.Lines.{clear_line_of}
use Rattle.policy_redact.specs.LineContent.{judged_clear}
use Rattle.policy_redact.proofs.ReadLemmas.{fault-found, fault-beyond, read-next, text-read}
use Rattle.policy_redact.proofs.read.read_lines.Goals as goal

pub returns-then-place-ge-MAX_CLEARS-clause-fault : goal.returns-then-place-ge-MAX_CLEARS-clause-fault
returns-then-place-ge-MAX_CLEARS-clause-fault c =
    fault-beyond c.args.table.now c.args.lines.now c.loop-place.place c.loop-place.clears.items
    c.at-then-place-ge-MAX_CLEARS.result c.loop-place.invariant c.if-place-ge-MAX_CLEARS.true
    c.loop-place-test.true
    c.at-then-place-ge-MAX_CLEARS.ensures

pub returns-in-Err-clause-fault : goal.returns-in-Err-clause-fault
returns-in-Err-clause-fault c =
    let is = c.in_ok-reason.ensures ∙ ap (λ (l : List ℕ). judged_clear c.args.table.now (clear_line_of l)) c.as_slice.ensures in
    fault-found c.args.table.now c.args.lines.now c.loop-place.place c.loop-place.clears.items c.index-lines-place.result c.in-Err.reason c.at-in-Err.result c.loop-place.invariant
    c.if-place-ge-MAX_CLEARS.false c.loop-place-test.true c.index-lines-place.is (sym is ∙ c.in-Err.is) c.at-in-Err.ensures

pub loop-place-preserved : goal.loop-place-preserved
loop-place-preserved c =
    let is = c.in_ok-reason.ensures ∙ ap (λ (l : List ℕ). judged_clear c.args.table.now (clear_line_of l)) c.as_slice.ensures in
    read-next c.args.table.now c.args.lines.now c.loop-place.place c.loop-place.clears.items c.push.new.self.items c.index-lines-place.result c.in-Ok.clear c.loop-place.invariant
    c.if-place-ge-MAX_CLEARS.false c.loop-place-test.true c.index-lines-place.is (sym is ∙ c.in-Ok.is) c.in_ok-push-in-Ok.ensures.items

pub returns-clause-accepted : goal.returns-clause-accepted
returns-clause-accepted c =
    text-read c.args.table.now c.args.lines.now c.loop-place.place c.loop-place.clears.items c.new.result c.loop-place.invariant c.loop-place-test.false c.new.ensures
