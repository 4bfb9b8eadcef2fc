use Rattle.std.proofs.Common.{◌∙◌}
use Rattle.std.proofs.lemmas.Result.{IfOk-weaker}
use Rattle.graph_copy.proofs.forgetting.forget.Goals as goal

pub returns : goal.returns
returns c =
    IfOk-weaker c.make_tree.result _ _
    (λ tree made H P words. made H c.args.placed.now.address P words.sound.words (c.as_slice.ensures ∙ words.words))
    c.make_tree.ensures
