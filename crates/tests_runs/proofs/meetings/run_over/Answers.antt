use Rattle.std.proofs.Common.{◌++◌, ◌∙◌, ℕ, List, [], map, subst, IsPermutation}
use Rattle.std.proofs.lemmas.List.Sorted.{length_permutation, IsPermutation-sym}
use Rattle.mem_fabric.specs.Pair.{ArePair, PairEnd}
use Rattle.run_driver.specs.Running.{numbered_link}
use Rattle.tests_runs.proofs.Meeting.{are_two_moved, pairs_are_two}
use Rattle.tests_runs.proofs.meetings.run_over.Goals as goal

pub returns : goal.returns
returns g c = λ two.
    let ran = c.in_ok-run.ensures.ran in
    let all : List (ℕ × PairEnd) = map numbered_link ran.conns ++ [] in
    let back : List (ℕ × PairEnd) = c.serve_plan.new.fabric.back in
    let moved : IsPermutation back all =
    subst (λ (l : List (ℕ × PairEnd)). IsPermutation back (map numbered_link ran.conns ++ l)) c.requires.none ran.given_back in
    are_two_moved ArePair (λ x y p. (p.1, p.0)) all back (IsPermutation-sym back all moved)
    (pairs_are_two ArePair numbered_link ran.conns ran.pairs (length_permutation back all moved ∙ two))
