use Rattle.std.proofs.Common.{List, ◌∷◌, [], ◌++◌, ap, ◌∙◌}
use Rattle.std.proofs.lemmas.List.{replicate_more}
use Rattle.proto_set.specs.declared.traversal.VisitState.{VisitState}
use Rattle.proto_set.specs.declared.traversal.VisitState.TheVariants.{New}
use Rattle.proto_set.proofs.traversal.all_new.Goals as goal

pub loop-preserved : goal.loop-preserved
loop-preserved c =
    c.in_ok-push.ensures.items ∙ ap (λ (ms : List VisitState). ms ++ New ∷ []) c.loop.invariant ∙ replicate_more c.loop.counter New
