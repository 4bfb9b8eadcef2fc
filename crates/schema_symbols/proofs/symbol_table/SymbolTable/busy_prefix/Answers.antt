use Rattle.std.proofs.Common.{◌≡◌, ℕ, ◌<◌, ◌≤◌, ⊎_elim, true, false, [], ◌∷◌, ◌++◌, length, take, get_or, refl, sym, ◌∙◌, subst, arith}
use Rattle.std.proofs.lemmas.Bool.{cases_lt}
use Rattle.proto_ast.specs.Joined.{Joined, package_at}
use Rattle.schema_symbols.specs.Numbers.{IsScopeNumber}
use Rattle.schema_symbols.specs.Scopes.{IsVisibleName}
use Rattle.schema_symbols.specs.Below.{IsBusy}
use Rattle.schema_symbols.specs.Deepest.{IsVisibleNameAt}
use Rattle.schema_symbols.proofs.ScopeLemmas.{contains_index}
use Rattle.schema_symbols.proofs.FindLemmas.{kept, busy_known, none_busy, some_busy}
use Rattle.schema_symbols.proofs.symbol_table.SymbolTable.busy_prefix.Goals as goal

pub prefix-scope-requires-clause-depth : goal.prefix-scope-requires-clause-depth
prefix-scope-requires-clause-depth c =
    let k = kept c.self.inside c.self.view_is c.self.invariant in
    let b = busy_known k.its_fronts c.args.its_file c.index.result.now c.requires.its_file c.index.ensures in
    let busy : IsBusy c.args.self.now c.args.its_file c.as_slice-n-items.result.now = subst (IsBusy c.args.self.now c.args.its_file) (sym c.as_slice-n-items.ensures.value) b in
    let l : get_or c.as_slice-n-items.result.now c.loop-n.n-index 0 ≤ length (package_at c.args.self.now c.args.its_file) =
    busy.within (get_or c.as_slice-n-items.result.now c.loop-n.n-index 0) (contains_index c.as_slice-n-items.result.now c.loop-n.n-index 0 c.loop-n-test.true) in
    subst (λ (F : Joined). get_or c.as_slice-n-items.result.now c.loop-n.n-index 0 ≤ length (package_at F c.args.its_file)) (sym c.self.view_is) l

pub returns-then-is_visible : goal.returns-then-is_visible
returns-then-is_visible c =
    let k = kept c.self.inside c.self.view_is c.self.invariant in
    let b = busy_known k.its_fronts c.args.its_file c.index.result.now c.requires.its_file c.index.ensures in
    let busy : IsBusy c.args.self.now c.args.its_file c.as_slice-n-items.result.now = subst (IsBusy c.args.self.now c.args.its_file) (sym c.as_slice-n-items.ensures.value) b in
    let n : ℕ = get_or c.as_slice-n-items.result.now c.loop-n.n-index 0 in
    let number : IsScopeNumber c.args.self.now (take (get_or c.as_slice-n-items.result.now c.loop-n.n-index 0) (package_at c.args.self.now c.args.its_file)) c.prefix-scope.result =
    subst (λ (F : Joined).
    IsScopeNumber F (take (get_or c.as_slice-n-items.result.now c.loop-n.n-index 0) (package_at F c.args.its_file))
    c.prefix-scope.result) c.self.view_is c.prefix-scope.ensures.number in
    let there : IsVisibleName c.args.self.now c.args.file (take (get_or c.as_slice-n-items.result.now c.loop-n.n-index 0) (package_at c.args.self.now c.args.its_file) ++ c.args.name.now ∷ []) =
    (c.if-is_visible.ensures (take (get_or c.as_slice-n-items.result.now c.loop-n.n-index 0) (package_at c.args.self.now c.args.its_file)) number).0 refl in
    some_busy c.args.self.now c.args.file c.args.its_file c.args.name.now c.as_slice-n-items.result.now busy
    c.loop-n.n-index (get_or c.as_slice-n-items.result.now c.loop-n.n-index 0) c.loop-n-test.true refl
    c.loop-n.invariant there

pub loop-n-preserved : goal.loop-n-preserved
loop-n-preserved c j less h =
    let number : IsScopeNumber c.args.self.now (take (get_or c.as_slice-n-items.result.now c.loop-n.n-index 0) (package_at c.args.self.now c.args.its_file)) c.prefix-scope.result =
    subst (λ (F : Joined).
    IsScopeNumber F (take (get_or c.as_slice-n-items.result.now c.loop-n.n-index 0) (package_at F c.args.its_file))
    c.prefix-scope.result) c.self.view_is c.prefix-scope.ensures.number in
    ⊎_elim
    (λ (old : j < c.loop-n.n-index). c.loop-n.invariant j old h)
    (λ (new : c.loop-n.n-index ≤ j).
    let e : j ≡ c.loop-n.n-index = omega (arith, less) in
    let g : IsVisibleNameAt c.args.self.now c.args.file c.args.its_file c.args.name.now (get_or c.as_slice-n-items.result.now c.loop-n.n-index 0) =
    subst (λ (q : ℕ). IsVisibleNameAt c.args.self.now c.args.file c.args.its_file c.args.name.now (get_or c.as_slice-n-items.result.now q 0)) e h in
    let t : c.is_visible.result ≡ true =
    (c.is_visible.ensures (take (get_or c.as_slice-n-items.result.now c.loop-n.n-index 0)
    (package_at c.args.self.now c.args.its_file)) number).1 g.there in
    let z : true ≡ false = sym t ∙ c.if-is_visible.false in
    cc)
    (cases_lt j c.loop-n.n-index)

pub returns : goal.returns
returns c =
    let k = kept c.self.inside c.self.view_is c.self.invariant in
    let b = busy_known k.its_fronts c.args.its_file c.index.result.now c.requires.its_file c.index.ensures in
    let busy : IsBusy c.args.self.now c.args.its_file c.as_slice-n-items.result.now = subst (IsBusy c.args.self.now c.args.its_file) (sym c.as_slice-n-items.ensures.value) b in
    none_busy c.args.self.now c.args.file c.args.its_file c.args.name.now c.as_slice-n-items.result.now busy c.loop-n.n-index c.loop-n-test.false c.loop-n.invariant
