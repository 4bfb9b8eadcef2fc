use Rattle.std.proofs.Common.{◌≡◌, ℕ, drop, get_or}
use Rattle.mrpc_table.specs.Normal.{fields_of}
use Rattle.mrpc_table.specs.View.{node_of}
use Rattle.graph_place.specs.Content.{member_of}
use Rattle.graph_place.proofs.look_up.members_of.Given as goal

-- with the remaining fields, the numbers so far are those of the tree
abbrev pub invariant-loop-number : goal.invariant-loop-number
invariant-loop-number l = (o : ℕ)
    → member_of (fields_of l.table l.message) o (get_or l.members o 0) (node_of (drop l.number-index l.number-items))
    ≡ member_of (fields_of l.table l.message) o 0 l.tree
