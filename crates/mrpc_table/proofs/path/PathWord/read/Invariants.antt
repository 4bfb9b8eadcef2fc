-- The numbers so far precede those of the remainder.
use Rattle.std.proofs.Common.{◌≡◌, ◌==◌, ◌+◌, length}
use Rattle.std.specs.Prelude.{option_map}
use Rattle.std.specs.List.{slice_split}
use Rattle.mrpc_table.specs.PathWords.{path_of_parts}
use Rattle.mrpc_table.proofs.PathWordLemmas.{behind_numbers}
use Rattle.mrpc_table.proofs.path.PathWord.read.Given as goal

abbrev pub invariant-loop-part : goal.invariant-loop-part
invariant-loop-part l = record {
  numbers : path_of_parts (slice_split (λ c. c == 46) l.fn.word) ≡ option_map (behind_numbers l.way.items) (path_of_parts (slice_split (λ c. c == 46) l.rest));
  count : length (slice_split (λ c. c == 46) l.fn.word) ≡ length l.way.items + length (slice_split (λ c. c == 46) l.rest);
}

abbrev pub decreases-loop-part : goal.decreases-loop-part
decreases-loop-part l = length l.rest
