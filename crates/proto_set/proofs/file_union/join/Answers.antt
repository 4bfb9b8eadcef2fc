-- The current file is the next part: what precedes it fits, it can be placed there, and it is joined.
use Rattle.std.proofs.Common.{◌∙◌, ap, sym, refl, length, rules, arith}
use Rattle.std.proofs.lemmas.Iterator.Consumers.{YieldsList-turn, YieldsList-so_far}
use Rattle.std.proofs.lemmas.Iterator.Adapters.{YieldsList-from_vec}
use Rattle.std.proofs.lemmas.Option.{slice_get_read}
use Rattle.proto_set.specs.Joining.{before_first_file, after_file, joined}
use Rattle.proto_set.specs.Placing.{joined_with_file}
use Rattle.proto_set.proofs.Moves.{past-push, past-files, past-bytes, joined-push, can_place, sizes_fit}
use Rattle.proto_set.proofs.file_union.join.Goals as goal

pub after-requires-clause-files : goal.after-requires-clause-files
after-requires-clause-files c =
    let turn = YieldsList-turn (YieldsList-from_vec {s = c.into_iter-part-iterator.result} c.args.parts.items (search rules) (search rules))
    c.loop-part.yielded c.loop-part.part-iterator c.loop-part.yielded_by c.next.result c.next.new.self c.in-Some.part c.in-Some.is c.next.ensures.steps in
    omega (arith, ap (λ b. b.files) c.loop-part.invariant.before, past-files before_first_file c.loop-part.yielded, turn.0)

pub after-requires-clause-bytes : goal.after-requires-clause-bytes
after-requires-clause-bytes c =
    let yields = YieldsList-from_vec {s = c.into_iter-part-iterator.result} c.args.parts.items (search rules) (search rules) in
    let turn = YieldsList-turn yields
    c.loop-part.yielded c.loop-part.part-iterator c.loop-part.yielded_by c.next.result c.next.new.self c.in-Some.part c.in-Some.is c.next.ensures.steps in
    let front = YieldsList-so_far yields c.loop-part.yielded c.loop-part.part-iterator c.loop-part.yielded_by in
    omega (
      arith,
      ap (λ b. b.bytes) c.loop-part.invariant.before,
      past-bytes before_first_file c.loop-part.yielded,
      sizes_fit c.args.parts.items c.loop-part.yielded c.in-Some.part front turn.0 turn.1,
      c.requires.small,
    )

pub append-requires : goal.append-requires
append-requires c =
    let yields = YieldsList-from_vec {s = c.into_iter-part-iterator.result} c.args.parts.items (search rules) (search rules) in
    let turn = YieldsList-turn yields
    c.loop-part.yielded c.loop-part.part-iterator c.loop-part.yielded_by c.next.result c.next.new.self c.in-Some.part c.in-Some.is c.next.ensures.steps in
    let front = YieldsList-so_far yields c.loop-part.yielded c.loop-part.part-iterator c.loop-part.yielded_by in
    can_place c.loop-part.before (length c.args.parts.items) (length c.loop-part.yielded) c.in-Some.part
    (omega (
      arith,
      ap (λ b. b.bytes) c.loop-part.invariant.before,
      past-bytes before_first_file c.loop-part.yielded,
      sizes_fit c.args.parts.items c.loop-part.yielded c.in-Some.part front turn.0 turn.1,
      c.requires.small,
    ))
    (omega (arith, ap (λ b. b.messages) c.in_ok-behind.ensures.value, c.in_ok-behind.ensures.room))
    (c.requires.sound.each (length c.loop-part.yielded) c.in-Some.part
    (slice_get_read c.args.parts.items (length c.args.parts.items) (length c.loop-part.yielded) c.in-Some.part refl turn.0 turn.1))

pub loop-part-preserved : goal.loop-part-preserved
loop-part-preserved c =
    let before = c.loop-part.before in
    let part = c.in-Some.part in
    let so_far = c.loop-part.yielded in
    record {
      files = c.in_ok-append.ensures ∙ ap (λ J. joined_with_file J before part) c.loop-part.invariant.files
          ∙ ap (λ b. joined_with_file (joined so_far) b part) c.loop-part.invariant.before ∙ sym (joined-push so_far part);
      before = c.in_ok-behind.ensures.value ∙ ap (λ b. after_file b part) c.loop-part.invariant.before ∙ sym (past-push before_first_file so_far part);
    }
