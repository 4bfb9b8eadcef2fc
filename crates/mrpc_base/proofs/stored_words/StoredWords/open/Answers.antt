use Rattle.mrpc_base.proofs.LastStore.{stands_at_first}
use Rattle.mrpc_base.proofs.stored_words.StoredWords.open.Goals as goal

pub invariant_of-result : goal.invariant_of-result
invariant_of-result c =
    stands_at_first c.new.result c.in_ok-vec.field-0.items c.args.words c.new.ensures (c.in_ok-vec.ensures.items_if_clones_equal (λ y is. is))
