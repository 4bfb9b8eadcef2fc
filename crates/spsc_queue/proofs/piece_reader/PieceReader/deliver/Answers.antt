use Rattle.std.proofs.Common.{◌≡◌, ◌+◌, ◌-◌, ◌++◌, take, drop, ap, ◌∙◌, length}
use Rattle.spsc_queue.specs.Ends.{popped_of}
use Rattle.spsc_queue.specs.Pieces.{bytes_of_pieces}
use Rattle.spsc_queue.proofs.GivenLemmas.{gives_more, left_whole}
use Rattle.spsc_queue.proofs.piece_reader.PieceReader.deliver.Goals as goal

pub invariant_of-self-clause-gives : goal.invariant_of-self-clause-gives
invariant_of-self-clause-gives g c =
    let h = c.args.self.now in
    let same : take c.min-count.result (take (length c.as_slice.result.now - h.at) (drop h.at c.as_slice.result.now))
    ≡ take c.min-count.result (drop h.at h.piece) =
    ap (take c.min-count.result) (left_whole _ h.piece h.at c.as_slice.ensures) in
    ap (λ b. b ++ drop (h.at + c.min-count.result) h.piece) (c.with-self.ensures ∙ ap (λ x. h.given.bytes ++ x) same)
    ∙ gives_more h.given.bytes h.piece (bytes_of_pieces (popped_of h.consumer)) h.at c.min-count.result h.gives
