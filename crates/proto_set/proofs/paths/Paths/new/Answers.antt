use Rattle.std.proofs.Common.{ℕ, List, cond, Some, ap, ◌∙◌}
use Rattle.std.specs.Borrow.{Bor}
use Rattle.std.specs.Ordering.{nat_cmp, is_eq}
use Rattle.std.specs.Cmp.Lexicographic.{slice_cmp}
use Rattle.std.specs.BTreeMap.{get_by}
use Rattle.proto_set.specs.declared.paths.Paths.{Paths}
use Rattle.proto_set.proofs.Placing.{before_none, before_more, before_all}
use Rattle.proto_set.proofs.paths.Paths.new.Goals as goal

pub loop-i-init : goal.loop-i-init
loop-i-init c = before_none c.args.members.now (record { by = c.new-by.result }) c.new-by.ensures.empty

pub loop-i-preserved : goal.loop-i-preserved
loop-i-preserved c =
    let set = c.args.members.now in
    let old : Paths = record { by = c.loop-i.by } in
    let new : Paths = record { by = c.insert.new.self } in
    let changed = λ (path : List ℕ).
    let key : Bor (List ℕ) = record { ref_ptr = (0, 0); now = path } in
    c.in_ok-insert.ensures.updates.0 key
    ∙ ap (λ (own : List ℕ). cond (is_eq (slice_cmp nat_cmp own path)) (Some c.loop-i.i)
    (get_by (λ (k : Bor (List ℕ)). slice_cmp nat_cmp path k.now) c.loop-i.by))
    c.as_slice.ensures in
    before_more set c.loop-i.i c.index-members-i.result old new c.loop-i-test.true changed c.loop-i.invariant

pub returns : goal.returns
returns c = before_all c.args.members.now c.loop-i.i (record { by = c.loop-i.by }) c.loop-i-test.false c.loop-i.invariant
