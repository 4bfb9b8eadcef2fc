-- None of the lines so far is `end`, and these are the kept ones.
use Rattle.std.proofs.Common.{◌≡◌, ℕ, List, length}
use Rattle.policy_declarations.specs.Blocks.{kept_lines}
use Rattle.policy_declarations.proofs.InnerLines.{AreDone}
use Rattle.policy_declarations.proofs.block.read_block.Given as goal

abbrev pub invariant-loop-line : goal.invariant-loop-line
invariant-loop-line l = (done : List (List ℕ)) × AreDone l.text done l.rest × (l.lines ≡ kept_lines l.skips done)

abbrev pub decreases-loop-line : goal.decreases-loop-line
decreases-loop-line l = length l.rest
