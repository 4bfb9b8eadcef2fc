use Rattle.std.proofs.Common.{◌≡◌, ℕ, ◌+◌, ◌-◌, ◌<◌, ◌≤◌, ⊎_elim, inl, inr, true, false, Some, length, take, refl, sym, ◌∙◌, ap, subst, arith}
use Rattle.std.specs.Prelude.{slice_get}
use Rattle.std.proofs.lemmas.Bool.{cases_lt}
use Rattle.std.proofs.lemmas.List.{length-take-le}
use Rattle.std.proofs.lemmas.Option.{slice_get_within, same_Some}
use Rattle.proto_ast.specs.Joined.{Joined, package_at}
use Rattle.schema_symbols.specs.PackagePrefixes.{CanSeePrefix}
use Rattle.schema_symbols.proofs.ListParts.{ne_apart, eq_same}
use Rattle.schema_symbols.proofs.FindLemmas.{seen_own, own_seen}
use Rattle.schema_symbols.proofs.symbol_table.SymbolTable.next_part_prefix.Goals as goal

pub overflow_step-n : goal.overflow_step-n
overflow_step-n c = omega (arith, c.in-Some.ensures.few)

pub returns-in_default : goal.returns-in_default
returns-in_default c n h =
    let e : slice_get (package_at c.self.inside.places c.args.its_file) n ≡ Some c.args.name.now =
    subst (λ (F : Joined). slice_get (package_at F c.args.its_file) n ≡ Some c.args.name.now) (sym c.self.view_is) h.its_part in
    c.in_default.ensures.last n e

pub loop-n-init : goal.loop-n-init
loop-n-init c m above h =
    let e : slice_get (package_at c.self.inside.places c.args.its_file) m ≡ Some c.args.name.now =
    subst (λ (F : Joined). slice_get (package_at F c.args.its_file) m ≡ Some c.args.name.now) (sym c.self.view_is) h.its_part in
    c.in-Some.ensures.last.1 m (omega (arith, above)) e

pub part-requires-clause-place : goal.part-requires-clause-place
part-requires-clause-place c =
    omega (arith, c.loop-n-test.true, c.loop-n.auto.n, slice_get_within (package_at c.self.inside.places c.args.its_file) c.in-Some.last c.args.name.now c.in-Some.ensures.last.0)

pub overflow_add-n : goal.overflow_add-n
overflow_add-n c = omega (arith, c.loop-n-test.true, c.loop-n.auto.n, c.in-Some.ensures.few)

pub prefix-front-requires-clause-depth : goal.prefix-front-requires-clause-depth
prefix-front-requires-clause-depth c =
    omega (arith, c.loop-n-test.true, c.loop-n.auto.n, slice_get_within (package_at c.self.inside.places c.args.its_file) c.in-Some.last c.args.name.now c.in-Some.ensures.last.0)

pub loop-n-preserved-then-ne : goal.loop-n-preserved-then-ne
loop-n-preserved-then-ne c m above h =
    ⊎_elim
    (λ (old : c.loop-n.n ≤ m). c.loop-n.invariant m old h)
    (λ (new : m < c.loop-n.n).
    let e : m ≡ c.loop-n.n - 1 = omega (arith, above) in
    let own : slice_get (package_at c.args.self.now c.args.its_file) (c.loop-n.n - 1) ≡ Some c.part.result.now =
    subst (λ (F : Joined). slice_get (package_at F c.args.its_file) (c.loop-n.n - 1) ≡ Some c.part.result.now) c.self.view_is c.part.ensures in
    let its : slice_get (package_at c.args.self.now c.args.its_file) (c.loop-n.n - 1) ≡ Some c.args.name.now =
    subst (λ (q : ℕ). slice_get (package_at c.args.self.now c.args.its_file) q ≡ Some c.args.name.now) e h.its_part in
    ne_apart c.part.result.now c.args.name.now c.if-ne.ensures (same_Some c.part.result.now c.args.name.now (sym own ∙ its)))
    (⊎_elim (λ (l : m < c.loop-n.n). inr l) (λ (l : c.loop-n.n ≤ m). inl l) (cases_lt m c.loop-n.n))

pub returns-then-sees_prefix : goal.returns-then-sees_prefix
returns-then-sees_prefix c =
    let own : slice_get (package_at c.args.self.now c.args.its_file) (c.loop-n.n - 1) ≡ Some c.part.result.now =
    subst (λ (F : Joined). slice_get (package_at F c.args.its_file) (c.loop-n.n - 1) ≡ Some c.part.result.now) c.self.view_is c.part.ensures in
    let its : slice_get (package_at c.args.self.now c.args.its_file) (c.loop-n.n - 1) ≡ Some c.args.name.now =
    own ∙ ap Some (eq_same c.part.result.now c.args.name.now c.if-ne.ensures) in
    let long : 0 < length (take (c.loop-n.n - 1 + 1) (package_at c.self.inside.places c.args.its_file)) =
    omega (
      arith,
      length-take-le (c.loop-n.n - 1 + 1) (package_at c.self.inside.places c.args.its_file)
          (let l : c.loop-n.n - 1 + 1 ≤ length (package_at c.self.inside.places c.args.its_file) =
          omega (
            arith,
            c.loop-n-test.true,
            c.loop-n.auto.n,
            slice_get_within (package_at c.self.inside.places c.args.its_file) c.in-Some.last c.args.name.now
                c.in-Some.ensures.last.0,
          ) in l),
    ) in
    let seen : CanSeePrefix c.args.self.now c.args.file (take (c.loop-n.n - 1 + 1) (package_at c.args.self.now c.args.its_file)) =
    subst (λ (F : Joined). CanSeePrefix F c.args.file (take (c.loop-n.n - 1 + 1) (package_at F c.args.its_file))) c.self.view_is
    ((c.if-sees_prefix.ensures (take (c.loop-n.n - 1 + 1) (package_at c.self.inside.places c.args.its_file)) long c.prefix-front.ensures.number).0 refl) in
    (seen_own c.args.name.now (c.loop-n.n - 1) its seen, λ m above h. c.loop-n.invariant m (omega (arith, above)) h)

pub loop-n-preserved : goal.loop-n-preserved
loop-n-preserved c m above h =
    ⊎_elim
    (λ (old : c.loop-n.n ≤ m). c.loop-n.invariant m old h)
    (λ (new : m < c.loop-n.n).
    let e : m ≡ c.loop-n.n - 1 = omega (arith, above) in
    let long : 0 < length (take (c.loop-n.n - 1 + 1) (package_at c.self.inside.places c.args.its_file)) =
    omega (
      arith,
      length-take-le (c.loop-n.n - 1 + 1) (package_at c.self.inside.places c.args.its_file)
          (let l : c.loop-n.n - 1 + 1 ≤ length (package_at c.self.inside.places c.args.its_file) =
          omega (
            arith,
            c.loop-n-test.true,
            c.loop-n.auto.n,
            slice_get_within (package_at c.self.inside.places c.args.its_file) c.in-Some.last c.args.name.now
                c.in-Some.ensures.last.0,
          ) in l),
    ) in
    let seen : CanSeePrefix c.args.self.now c.args.file (take (c.loop-n.n - 1 + 1) (package_at c.args.self.now c.args.its_file)) =
    subst (λ (q : ℕ). CanSeePrefix c.args.self.now c.args.file (take (q + 1) (package_at c.args.self.now c.args.its_file))) e (own_seen h) in
    let back : CanSeePrefix c.self.inside.places c.args.file (take (c.loop-n.n - 1 + 1) (package_at c.self.inside.places c.args.its_file)) =
    subst (λ (F : Joined). CanSeePrefix F c.args.file (take (c.loop-n.n - 1 + 1) (package_at F c.args.its_file))) (sym c.self.view_is) seen in
    let t : c.sees_prefix.result ≡ true = (c.sees_prefix.ensures (take (c.loop-n.n - 1 + 1) (package_at c.self.inside.places c.args.its_file)) long c.prefix-front.ensures.number).1 back in
    let z : true ≡ false = sym t ∙ c.if-sees_prefix.false in
    cc)
    (⊎_elim (λ (l : m < c.loop-n.n). inr l) (λ (l : c.loop-n.n ≤ m). inl l) (cases_lt m c.loop-n.n))

pub returns : goal.returns
returns c n h = c.loop-n.invariant n (omega (arith, c.loop-n-test.false)) h
