use Rattle.std.proofs.Common.{List, ℕ, [], ◌∷◌, ◌++◌, ap, sym, ◌∙◌, subst, IsPermutation}
use Rattle.std.proofs.lemmas.List.Sorted.{IsPermutation-append_comm}
use Rattle.mem_fabric.specs.Pair.{PairEnd}
use Rattle.mem_fabric.proofs.mem_fabric.MemFabricFabric.keep.Goals as goal

pub returns-clause-back : goal.returns-clause-back
returns-clause-back g c =
    let x : ℕ × PairEnd = (c.args.conn, c.args.link) in
    subst (λ (xs : List (ℕ × PairEnd)). IsPermutation xs (x ∷ c.args.self.now.back))
    (ap (λ (xs : List (ℕ × PairEnd)). xs ++ x ∷ []) (sym {A = List (ℕ × PairEnd)} (ap (λ v. v.back) c.self.view_is))
    ∙ sym {A = List (ℕ × PairEnd)} c.push_reserved.ensures.items)
    (IsPermutation-append_comm c.args.self.now.back (x ∷ []))
