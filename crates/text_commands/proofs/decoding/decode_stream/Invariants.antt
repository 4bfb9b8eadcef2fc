use Rattle.std.proofs.Common.{◌≡◌, ◌-◌, List, ℕ, Option, length}
use Rattle.std.specs.Io.KnownBytes.{Appends}
use Rattle.mrpc_table.specs.declared.table.Table.{Table}
use Rattle.text_commands.specs.LineRanges.{AreLinesBetween}
use Rattle.text_commands.proofs.decoding.decode_stream.Given as goal

-- the lines of the frames before an offset were written
pub record Written (T : Table) (stream : List ℕ) (place : ℕ) (old new : Option (List ℕ)) : Type 0 where
  pub text : List ℕ
  pub tells : AreLinesBetween T stream 0 place text
  pub appends : Appends old new text

abbrev pub invariant-loop-place : goal.invariant-loop-place
invariant-loop-place g l =
    Written l.table l.stream l.place (g.K.Sink.written l.fn.out) (g.K.Sink.written l.out)
    × (g.K.Sink.failures l.out ≡ g.K.Sink.failures l.fn.out)

abbrev pub decreases-loop-place : goal.decreases-loop-place
decreases-loop-place g l = length l.stream - l.place
