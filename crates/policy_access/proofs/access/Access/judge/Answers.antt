use Rattle.mrpc_table.specs.Calls.{message_at}
use Rattle.policy_access.proofs.access.Access.judge.Goals as goal

pub first_match-requires : goal.first_match-requires
first_match-requires c =
    c.normal_ascends.ensures c.args.table.now (message_at c.args.table.now c.args.call.now.method c.args.call.now.number) c.args.call.now.tree c.requires.tree
