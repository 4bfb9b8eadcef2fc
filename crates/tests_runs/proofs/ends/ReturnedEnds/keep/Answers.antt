use Rattle.std.proofs.Common.{rules, ◌≡◌, List, ℕ, [], ◌∷◌, ◌++◌, subst, sym, IsPermutation}
use Rattle.std.proofs.lemmas.List.Sorted.{IsPermutation-append_comm}
use Rattle.tests_runs.proofs.ends.ReturnedEnds.keep.Goals as goal

pub returns-clause-back : goal.returns-clause-back
returns-clause-back g c =
    let x : ℕ × g.row.L.Denot = (c.args.conn, c.args.end) in
    let old = c.args.self.now.back.items in
    let grew : c.push.new.self.items ≡ old ++ x ∷ [] = search rules in
    subst (λ (xs : List (ℕ × g.row.L.Denot)). IsPermutation xs (x ∷ old)) (sym grew) (IsPermutation-append_comm old (x ∷ []))
