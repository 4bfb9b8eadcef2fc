use Rattle.std.proofs.Common.{◌≡◌, ◌<◌, List, ℕ, ◌∷◌, Some, length, ap, refl, sym, subst, IsPermutation, slice_get}
use Rattle.std.proofs.lemmas.List.Sorted.{IsPermutation-swap_remove}
use Rattle.std.proofs.lemmas.Option.{slice_get_read}
use Rattle.mem_fabric.specs.Pair.{PairEnd}
use Rattle.mem_fabric.proofs.mem_fabric.MemFabric.take_kept.Goals as goal

pub returns-clause-link : goal.returns-clause-link
returns-clause-link g c =
    let e = c.swap_remove.ensures in
    let seen = ap (λ v. v.back) c.self.view_is in
    let within = subst (λ (xs : List (ℕ × PairEnd)). c.args.at < length xs) (sym seen) c.requires in
    subst (λ (xs : List (ℕ × PairEnd)). slice_get xs c.args.at ≡ Some c.swap_remove.result) seen
    (slice_get_read c.self.inside.back.items (length c.self.inside.back.items) c.args.at c.swap_remove.result refl within e.value)

pub returns-clause-back : goal.returns-clause-back
returns-clause-back g c =
    let e = c.swap_remove.ensures in
    let seen = ap (λ v. v.back) c.self.view_is in
    let within = subst (λ (xs : List (ℕ × PairEnd)). c.args.at < length xs) (sym seen) c.requires in
    subst (λ (p : List (ℕ × PairEnd) × List (ℕ × PairEnd)). IsPermutation p.0 (c.swap_remove.result ∷ p.1)) (λ i. (seen i, sym {A = List (ℕ × PairEnd)} e.items i))
    (IsPermutation-swap_remove c.self.inside.back.items c.args.at c.swap_remove.result within e.value)
