use Rattle.std.proofs.Common.{ℕ, ◌+◌, List, [], take, sym, subst}
use Rattle.std.proofs.lemmas.List.{take_all}
use Rattle.proto_ast.specs.declared.file.Range.{Range}
use Rattle.schema_validation.specs.Correspondence.{AreCorresponding}
use Rattle.schema_validation.specs.Ranges.{IsEndsOf}
use Rattle.schema_validation.proofs.Places.{those_none, those_next}
use Rattle.schema_validation.proofs.numbers.all_ends.Goals as goal

pub loop-i-init : goal.loop-i-init
loop-i-init c = subst (λ (ys : List (ℕ × ℕ)). AreCorresponding IsEndsOf [] ys) (sym c.in_ok-all.ensures.items)
    (those_none IsEndsOf)

pub loop-i-preserved : goal.loop-i-preserved
loop-i-preserved c =
    subst (λ (ys : List (ℕ × ℕ)). AreCorresponding IsEndsOf (take (c.loop-i.i + 1) c.args.ranges.now) ys)
    (sym c.in_ok-push.ensures.items)
    (those_next IsEndsOf c.args.ranges.now c.loop-i.all.items c.loop-i.i _ c.ends-ends.result c.loop-i-test.true
    c.ends-ends.ensures c.loop-i.invariant)

pub returns : goal.returns
returns c =
    subst (λ (xs : List Range). AreCorresponding IsEndsOf xs c.loop-i.all.items) (take_all c.loop-i.i c.args.ranges.now
    c.loop-i-test.false)
    c.loop-i.invariant
