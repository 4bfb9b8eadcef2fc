use Rattle.graph_form.proofs.NormalTree.{normal-tree}
use Rattle.graph_form.proofs.laws.sound_tree_is_normal.Goals as goal

pub returns : goal.returns
returns c =
    let kept = c.kept_entries_are_normal.ensures in
    normal-tree (kept.kinds, kept.ascend, kept.depth, kept.some)
