use Rattle.std.proofs.Common.{sym, subst}
use Rattle.mrpc_table.specs.View.{content_of, item_of}
use Rattle.mrpc_table.specs.declared.tree.FieldValue.{FieldValue}
use Rattle.mrpc_table.specs.declared.tree.Value.{Value}
use Rattle.mrpc_table.specs.PathTrees.{IsAscendingContent, IsAscendingItem}
use Rattle.mrpc_table.proofs.PathFinding.{numbers-ascend, content-ascends}
use Rattle.mrpc_table.proofs.path_find.message_under.Goals as goal

pub content-requires : goal.content-requires
content-requires c = numbers-ascend 0 c.args.tree.now c.requires

pub returns-in-Some-One-Node-clause-ascending : goal.returns-in-Some-One-Node-clause-ascending
returns-in-Some-One-Node-clause-ascending c =
    let content = content-ascends c.args.tree.now 0 c.args.number c.requires (content_of c.in-Some-One-Node.field-0.now) (sym c.in-Some-One-Node.ensures.content) in
    subst (λ (x : Value). IsAscendingItem (item_of x)) c.in-Some-One-Node.field-0-0-is
    (subst (λ (x : FieldValue). IsAscendingContent (content_of x)) c.in-Some-One-Node.field-0-is content)
