use Rattle.std.proofs.Common.{Bool, false, List, ◌∷◌, [], ◌++◌, ap, ◌∙◌}
use Rattle.std.proofs.lemmas.List.{replicate_more}
use Rattle.proto_set.proofs.seen.all_unseen.Goals as goal

pub loop-preserved : goal.loop-preserved
loop-preserved c =
    c.in_ok-push.ensures.items ∙ ap (λ (ms : List Bool). ms ++ false ∷ []) c.loop.invariant ∙ replicate_more c.loop.counter false
