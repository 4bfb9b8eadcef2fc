use Rattle.std.proofs.Common.{◌≡◌, ℕ, ◌+◌, ◌<◌, ◌≤◌, ⊎_elim, set, List, length, take, get_or, sym, ◌∙◌, subst, arith, get_or-set_same}
use Rattle.std.proofs.lemmas.Bool.{cases_lt}
use Rattle.std.proofs.lemmas.List.{take_all, get_or_default}
use Rattle.proto_ast.specs.Joined.{package_at}
use Rattle.schema_symbols.specs.Numbers.{IsScopeNumber}
use Rattle.schema_symbols.specs.Below.{KnowsMore, IsKnownBelow, with_prefix}
use Rattle.schema_symbols.specs.declared.below.KnownBelow.{KnownBelow}
use Rattle.schema_symbols.specs.declared.below.KnownBelow.TheVariants.{Nothing, Several}
use Rattle.schema_symbols.proofs.ScopeLemmas.{number_same}
use Rattle.schema_symbols.proofs.BelowLemmas.{with_new, grows_more, grows_front, grows_several}
use Rattle.schema_symbols.proofs.below.note_package.Goals as goal

pub loop-n-preserved : goal.loop-n-preserved
loop-n-preserved c =
    let l : c.prefix-outer.result < length c.loop-n.below = omega (arith, c.prefix-outer.ensures.small, c.requires.all, c.loop-n.invariant.grows.same_length) in
    let is : c.with.result ≡ with_prefix (get_or c.loop-n.below c.prefix-outer.result Nothing) c.prefix-next.result = c.with.ensures in
    let g : KnowsMore c.loop-n.below (set c.loop-n.below c.prefix-outer.result c.with.result) =
    subst (λ (b : KnownBelow). KnowsMore c.loop-n.below (set c.loop-n.below c.prefix-outer.result b)) (sym is)
    (grows_front c.loop-n.below c.prefix-outer.result c.prefix-next.result
    (get_or c.loop-n.below c.prefix-outer.result Nothing) l
    (get_or_default c.loop-n.below c.prefix-outer.result Nothing
    (get_or c.loop-n.below c.prefix-outer.result Nothing) l)) in
    record {
      grows = grows_more c.loop-n.invariant.grows g;
      noted = λ n k less number.
          ⊎_elim
          (λ (old : n < c.loop-n.n). let w = c.loop-n.invariant.noted n k old number in (w.0, w.1, g.has k w.0 w.2))
          (λ (new : c.loop-n.n ≤ n).
          let e : c.loop-n.n ≡ n = omega (arith, less) in
          let own : IsScopeNumber c.args.places.now (take n (package_at c.args.places.now c.args.file)) c.prefix-outer.result =
          subst (λ (q : ℕ). IsScopeNumber c.args.places.now (take q (package_at c.args.places.now c.args.file)) c.prefix-outer.result) e c.prefix-outer.ensures.number in
          let same : c.prefix-outer.result ≡ k = number_same own number in
          let next : IsScopeNumber c.args.places.now (take (n + 1) (package_at c.args.places.now c.args.file)) c.prefix-next.result =
          subst (λ (q : ℕ). IsScopeNumber c.args.places.now (take (q + 1) (package_at c.args.places.now c.args.file)) c.prefix-next.result) e c.prefix-next.ensures.number in
          let at : get_or (set c.loop-n.below c.prefix-outer.result c.with.result) c.prefix-outer.result Nothing
          ≡ c.with.result = get_or-set_same c.loop-n.below c.prefix-outer.result c.with.result Nothing l in
          let has : IsKnownBelow (get_or (set c.loop-n.below c.prefix-outer.result c.with.result) c.prefix-outer.result Nothing) c.prefix-next.result =
          subst (λ (b : KnownBelow). IsKnownBelow b c.prefix-next.result) (sym (at ∙ is)) (with_new (get_or c.loop-n.below c.prefix-outer.result Nothing) c.prefix-next.result) in
          (c.prefix-next.result, next, subst (λ (q : ℕ). IsKnownBelow (get_or (set c.loop-n.below c.prefix-outer.result c.with.result) q Nothing) c.prefix-next.result) same has))
          (cases_lt n c.loop-n.n);
    }

pub returns-clause-grows : goal.returns-clause-grows
returns-clause-grows c =
    let l : c.prefix-package.result < length c.loop-n.below = omega (arith, c.prefix-package.ensures.small, c.requires.all, c.loop-n.invariant.grows.same_length) in
    grows_more c.loop-n.invariant.grows (grows_several c.loop-n.below c.prefix-package.result l)

pub returns-clause-notes : goal.returns-clause-notes
returns-clause-notes c =
    let l : c.prefix-package.result < length c.loop-n.below = omega (arith, c.prefix-package.ensures.small, c.requires.all, c.loop-n.invariant.grows.same_length) in
    let g : KnowsMore c.loop-n.below (set c.loop-n.below c.prefix-package.result Several) = grows_several c.loop-n.below c.prefix-package.result l in
    let all : take c.depth-depth.result (package_at c.args.places.now c.args.file) ≡ package_at c.args.places.now c.args.file =
    take_all c.depth-depth.result (package_at c.args.places.now c.args.file) (omega (arith, c.depth-depth.ensures.is)) in
    let own : IsScopeNumber c.args.places.now (package_at c.args.places.now c.args.file) c.prefix-package.result =
    subst (λ (q : List (List ℕ)). IsScopeNumber c.args.places.now q c.prefix-package.result) all c.prefix-package.ensures.number in
    record {
      next = λ n k less number.
          let w = c.loop-n.invariant.noted n k (omega (arith, less, c.loop-n-test.false, c.depth-depth.ensures.is)) number in
          (w.0, w.1, g.has k w.0 w.2);
      last = λ k number.
          let e : c.prefix-package.result ≡ k = number_same own number in
          subst (λ (q : ℕ). get_or (set c.loop-n.below c.prefix-package.result Several) q Nothing ≡ Several) e (get_or-set_same c.loop-n.below c.prefix-package.result Several Nothing l);
    }
