-- Keys of scopes and names.
use Rattle.std.proofs.Common.{◌≡◌, ℕ, ◌⊎◌, inl, inr, Bool, true, false, cond, List, refl, ap, ◌∙◌}
use Rattle.std.specs.Cmp.{Equal-is}
use Rattle.std.specs.Ordering.{nat_cmp, ordering_then, is_eq}
use Rattle.std.specs.Cmp.Lexicographic.{slice_cmp}
use Rattle.std.specs.declared.cmp.Ordering.{Ordering}
use Rattle.std.specs.declared.cmp.Ordering.TheVariants.{Equal}
use Rattle.std.proofs.lemmas.Cmp.{tied_itself, nat_cmp_total, nat_list_cmp_total}
use Rattle.std.proofs.lemmas.Map.Lookups.{exact_pairs, exact_unsigned, exact_bytes}
use Rattle.schema_symbols.specs.Children.{same_child}

pub same_child_parts : (a : ℕ) (x : List ℕ) (k : ℕ) (y : List ℕ) → same_child a x k y ≡ true → (a ≡ k) × (x ≡ y)
same_child_parts a x k y h =
    let e : ordering_then (nat_cmp a k) (slice_cmp nat_cmp x y) ≡ Equal = (Equal-is (ordering_then (nat_cmp a k) (slice_cmp nat_cmp x y))).0 h in
    let p : ◌≡◌ {A = ℕ × List ℕ} (a, x) (k, y) = exact_pairs nat_cmp (slice_cmp nat_cmp) exact_unsigned exact_bytes (a, x) (k, y) e in
    (ap (λ (q : ℕ × List ℕ). q.0) p, ap (λ (q : ℕ × List ℕ). q.1) p)

pub same_child_itself : (k : ℕ) (x : List ℕ) → same_child k x k x ≡ true
same_child_itself k x =
    ap (λ (o : Ordering). is_eq (ordering_then o (slice_cmp nat_cmp x x))) (tied_itself nat_cmp_total k) ∙ ap is_eq (tied_itself nat_list_cmp_total x)

pub cases : (b : Bool) → (b ≡ true) ⊎ (b ≡ false)
cases true = inl refl
cases false = inr refl

pub at_true : {X : Type 0} (b : Bool) (x y z : X) → b ≡ true → z ≡ cond b x y → z ≡ x
at_true true x y z e h = h
at_true false x y z e h = absurd cc

pub at_false : {X : Type 0} (b : Bool) (x y z : X) → b ≡ false → z ≡ cond b x y → z ≡ y
at_false true x y z e h = absurd cc
at_false false x y z e h = h
