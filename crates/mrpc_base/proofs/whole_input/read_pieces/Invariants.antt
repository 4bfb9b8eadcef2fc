use Rattle.std.proofs.Common.{◌≡◌, ◌<◌, ◌≤◌, ◌-◌, ℕ, List, Option, length}
use Rattle.std.specs.Io.KnownBytes.{Consumes}
use Rattle.mrpc_base.proofs.whole_input.read_pieces.Given as goal

-- the text is what was read so far
pub record IsRead {S : Type 0} (left : S → Option (List ℕ)) (failures : S → ℕ) (old new : S) (text : List ℕ) : Type 0 where
  pub text_is : Consumes (left old) (left new) text
  pub no_fault : failures new ≡ failures old
  pub short : length text ≤ 16777217

abbrev pub invariant-loop-text : goal.invariant-loop-text
invariant-loop-text g l = IsRead g.S.Source.left g.S.Source.failures l.fn.input l.input l.text.items × (0 < length l.piece)

abbrev pub decreases-loop-text : goal.decreases-loop-text
decreases-loop-text g l = 16777217 - length l.text.items
