use Rattle.std.proofs.Common.{◌≡◌, suc, ◌<◌, ◌≤◌, ◌-◌, ◌/◌, ◌++◌, [], ◌∷◌, length, ap, ◌∙◌, length-append, arith}
use Rattle.std.specs.Prelude.{slice_index_or}
use Rattle.tenant_quota.specs.Drawing.{kept_half, new_half}
use Rattle.tenant_quota.specs.Splitting.{split_prefix}
use Rattle.tenant_quota.proofs.Splitting.{length_front, next_is, one_split, one_half, at_next}
use Rattle.tenant_quota.proofs.seats.split_each.Goals as goal

pub split-requires : goal.split-requires
split-requires c =
    let old = c.args.seats.now.items in
    let n = length c.loop-seats.halves.items in
    let d = c.index_mut.result.now in
    let split = c.loop-seats.invariant.split in
    let at_n : c.len-in-loop-seats-2.result ≡ n = omega (arith, c.len-in-loop-seats-2.ensures, c.loop-seats.halves.ok.0) in
    let is : d ≡ slice_index_or (split_prefix n old) n d = rw (at_n, split.kept) at c.index_mut.ensures.value in
    let all = ap length split.kept ∙ length_front n old in
    let inside : n < length old = omega (arith, c.loop-seats-test.true, c.len.ensures, c.len-in-loop-seats.ensures, c.loop-seats.halves.ok.0, c.loop-seats.seats.ok.0, all) in
    at_next (λ seat. 2 ≤ seat.share) n old d inside (next_is n old d is) c.requires.shares

pub push_reserved-requires : goal.push_reserved-requires
push_reserved-requires c =
    let old = c.args.seats.now.items in
    let n = length c.loop-seats.halves.items in
    let all = ap length c.loop-seats.invariant.split.kept ∙ length_front n old in
    omega (arith, c.loop-seats-test.true, c.len.ensures, c.len-in-loop-seats.ensures, c.loop-seats.halves.ok.0, c.loop-seats.seats.ok.0, all, c.loop-seats.invariant.room)

pub loop-seats-smaller : goal.loop-seats-smaller
loop-seats-smaller c =
    let old = c.args.seats.now.items in
    let n = length c.loop-seats.halves.items in
    let all = ap length c.loop-seats.invariant.split.kept ∙ length_front n old in
    let more = ap length c.push_reserved.ensures.pushed ∙ length-append c.loop-seats.halves.items (c.in_ok-half.half ∷ []) in
    omega (arith, c.loop-seats-test.true, c.len.ensures, c.len-in-loop-seats.ensures, c.loop-seats.halves.ok.0, c.loop-seats.seats.ok.0, all, more)

pub loop-seats-preserved : goal.loop-seats-preserved
loop-seats-preserved c =
    let old = c.args.seats.now.items in
    let n = length c.loop-seats.halves.items in
    let d = c.index_mut.result.now in
    let new = c.split.new.self in
    let half = c.in_ok-half.half in
    let told = c.in_ok-half.ensures in
    let split = c.loop-seats.invariant.split in
    let at_n : c.len-in-loop-seats-2.result ≡ n = omega (arith, c.len-in-loop-seats-2.ensures, c.loop-seats.halves.ok.0) in
    let is : d ≡ slice_index_or (split_prefix n old) n d = rw (at_n, split.kept) at c.index_mut.ensures.value in
    let all = ap length split.kept ∙ length_front n old in
    let inside : n < length old = omega (arith, c.loop-seats-test.true, c.len.ensures, c.len-in-loop-seats.ensures, c.loop-seats.halves.ok.0, c.loop-seats.seats.ok.0, all) in
    let share : new.share ≡ d.share - d.share / 2 = omega (arith, told.half, told.shares) in
    let kept : new ≡ kept_half d = λ i. record { quota = told.quota i; draws = told.draws i; share = share i } in
    let given : half ≡ new_half d = λ i. record { quota = told.one_quota i; draws = told.undrawn i; share = told.half i } in
    let more : length c.push_reserved.new.seats.items ≡ suc n = omega (arith, ap length c.push_reserved.ensures.pushed ∙ length-append c.loop-seats.halves.items (half ∷ [])) in
    rw (more, at_n) (record {
      split = record {
        kept = rw split.kept (one_split n old d new inside (next_is n old d is) kept);
        given = c.push_reserved.ensures.pushed ∙ ap (λ l. l ++ half ∷ []) split.given ∙ one_half n old d half inside (next_is n old d is) given;
      };
      room = omega (arith, c.loop-seats.invariant.room, c.push_reserved.ensures.capacity);
      within = omega (arith, inside);
    })

pub returns-clause-all : goal.returns-clause-all
returns-clause-all c =
    let old = c.args.seats.now.items in
    let n = length c.loop-seats.halves.items in
    let all = ap length c.loop-seats.invariant.split.kept ∙ length_front n old in
    omega (arith, c.loop-seats-test.false, c.len.ensures, c.len-in-loop-seats.ensures, c.loop-seats.halves.ok.0, c.loop-seats.seats.ok.0, all)
