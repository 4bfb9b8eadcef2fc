use Rattle.std.proofs.Common.{◌≡◌, ◌≤◌, true, false, length, refl, sym, subst, arith, below_more}
use Rattle.std.specs.Prelude.{is_some}
use Rattle.std.proofs.lemmas.Bool.{false≢true}
use Rattle.schema_binding.specs.Agreement.{methods_of}
use Rattle.schema_binding.specs.Places.{signature_at}
use Rattle.schema_binding.specs.Disagreement.{AreFirstDifferentFrom}
use Rattle.schema_binding.proofs.Signatures.{methods_differ, methods_equal, few_given, some_more, none_more}
use Rattle.schema_binding.proofs.methods.first_method.Goals as goal
use Rattle.schema_binding.proofs.methods.first_method.Goals.{then-is_some, else-is_some}

pub returns-then-not-is_same_at : goal.returns-then-not-is_same_at
returns-then-not-is_same_at c =
    let T = c.args.ours.now in
    let U = c.args.theirs.now in
    let s = c.args.service.now in
    subst (AreFirstDifferentFrom (methods_of T s) (methods_of U s)) (sym c.loop-index.invariant.count)
    (methods_differ T U s c.loop-index.index c.max-index-end.result c.loop-index-test.true (omega arith) (omega arith) c.loop-index.invariant.same
    (λ e. false≢true (c.if-not-is_same_at.ensures.1 e)))

pub overflow_add-at : goal.overflow_add-at
overflow_add-at c =
    let few = few_given (signature_at c.args.ours.now c.args.service.now) 0 c.loop-index.index in
    let ours : length c.args.ours.now.methods ≤ 256 = c.requires.ours.few_methods in
    let theirs : length c.args.theirs.now.methods ≤ 256 = c.requires.theirs.few_methods in
    omega (arith, few, ours, theirs, c.loop-index.invariant.count)

pub loop-index-preserved : goal.loop-index-preserved
loop-index-preserved c = record {
  same = below_more _ _ c.loop-index.invariant.same (c.if-not-is_same_at.ensures.0 refl);
  count = elim c.if-is_some.branch [
    | then-is_some w ↦
        let some : is_some c.method_at.result ≡ true = cc in
        let more = some_more c.args.ours.now c.args.service.now c.loop-index.index c.method_at.result c.method_at.ensures.method some in
        omega (arith, more, w.at-is, c.loop-index.invariant.count)
    | else-is_some w ↦
        let none : is_some c.method_at.result ≡ false = cc in
        let same = none_more c.args.ours.now c.args.service.now c.loop-index.index c.method_at.result c.method_at.ensures.method none in
        omega (arith, same, w.at-is, c.loop-index.invariant.count)
  ];
}

pub returns : goal.returns
returns c =
    methods_equal c.args.ours.now c.args.theirs.now c.args.service.now c.loop-index.index (omega arith) (omega arith) c.loop-index.invariant.same
