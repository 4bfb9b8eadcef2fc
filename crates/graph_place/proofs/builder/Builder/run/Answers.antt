use Rattle.std.proofs.Common.{◌≡◌, ◌≤◌, ◌++◌, length, sym, subst, arith}
use Rattle.std.proofs.lemmas.List.{take-append-drop}
use Rattle.std.proofs.lemmas.Result.{on_ok_weaker}
use Rattle.graph_place.proofs.Chain.{RunOn, run_begins, run_more, run_whole, no_run}
use Rattle.graph_place.proofs.builder.Builder.run.Goals as goal

pub returns-then-is_empty-clause-puts : goal.returns-then-is_empty-clause-puts
returns-then-is_empty-clause-puts c = λ T H kind within text.
    let none : length c.args.bytes.now ≡ 0 = grind (arith, c.if-is_empty.ensures) in
    no_run c.args.bytes.now c.args.place c.args.self.now.free c.args.self.now.words.items none T H kind

pub loop-rest-init : goal.loop-rest-init
loop-rest-init c =
    let some : 1 ≤ length c.args.bytes.now = grind (arith, c.if-is_empty.ensures) in
    run_begins c.args.bytes.now c.put.new.self.free c.put.new.self.words.items some

pub loop-rest-preserved : goal.loop-rest-preserved
loop-rest-preserved c =
    let rest = c.loop-rest.rest.now in
    let split : c.loop-rest.rest.now ≡ c.split_at.result.0.now ++ c.split_at.result.1.now =
    rw (c.split_at.ensures.front, c.split_at.ensures.back) (sym (take-append-drop 8 c.loop-rest.rest.now)) in
    let word = c.in_ok-run_word.ensures.word in
    subst (λ e. RunOn c.args.bytes.now c.put.new.self.free c.put.new.self.words.items c.split_at.result.1.now e c.run_word.new.self.words.items) (sym c.run_word.ensures.free)
    (run_more c.args.bytes.now c.put.new.self.free c.put.new.self.words.items c.loop-rest.rest.now
    c.split_at.result.0.now c.split_at.result.1.now c.loop-rest.self.free word.0 c.loop-rest.self.words.items
    c.run_word.new.self.words.items
    c.loop-rest.invariant split c.split_at.ensures.front_len (omega (arith, c.loop-rest-test.true)) word.1 word.2)

pub returns-clause-puts : goal.returns-clause-puts
returns-clause-puts c = on_ok_weaker c.run_word-2.result
    (λ word.
    run_whole c.args.bytes.now c.args.place c.args.self.now.free c.put.new.self.free c.run_word-2.new.self.free
    c.args.self.now.words.items c.put.new.self.words.items c.loop-rest.rest.now c.loop-rest.self.free word.0
    c.loop-rest.self.words.items c.run_word-2.new.self.words.items
    c.requires.from_one c.requires.slot (omega (arith, c.requires.room)) c.put.ensures.free c.in_ok-put.ensures.words
    c.loop-rest.invariant (omega (arith, c.loop-rest-test.false)) word.1 c.run_word-2.ensures.free word.2)
    c.run_word-2.ensures.word
