use Rattle.std.proofs.Common.{rules}
use Rattle.std.proofs.lemmas.List.Sorted.{answers_always}
use Rattle.mrpc_table.proofs.ContentLemmas.{missed, equal_is}
use Rattle.mrpc_table.proofs.tree.find_content.Goals as goal

pub returns-in-Ok-clause-numbered : goal.returns-in-Ok-clause-numbered
returns-in-Ok-clause-numbered c =
    let hit = c.in-Ok.ensures.position (λ f. f.0) (answers_always _ _ _ (λ f a r g called. search rules)) in
    λ f. equal_is _ _ (hit f)

pub returns-in-Err-clause-none : goal.returns-in-Err-clause-none
returns-in-Err-clause-none c =
    let miss = c.in-Err.ensures.position (λ f. f.0) (answers_always _ _ _ (λ f a r g called. search rules)) in
    missed c.args.fields.now 0 c.args.number c.in-Err.field-0 c.requires miss
