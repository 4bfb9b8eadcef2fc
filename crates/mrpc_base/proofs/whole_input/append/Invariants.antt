-- The bytes appended so far, and the remaining chunks.
use Rattle.std.proofs.Common.{◌≡◌, ◌++◌}
use Rattle.std.specs.Slice.Iter.{chunks_rest, chunks_size}
use Rattle.mrpc_base.proofs.whole_input.append.Given as goal

abbrev pub invariant-loop-chunk : goal.invariant-loop-chunk
invariant-loop-chunk l =
    goal.iterator-loop-chunk.can_next l.chunk-iterator
    × goal.iterator-loop-chunk.is_finite l.chunk-iterator
    × (chunks_size l.chunk-iterator ≡ 2048)
    × (l.text.items ++ chunks_rest l.chunk-iterator ≡ l.fn.text.items ++ l.fn.bytes)
