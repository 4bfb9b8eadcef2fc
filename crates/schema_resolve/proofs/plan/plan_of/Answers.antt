use Rattle.std.proofs.Common.{arith}
use Rattle.schema_resolve.proofs.CleanFiles.{few_messages, few_enums, messages_distinct, enums_distinct}
use Rattle.schema_resolve.proofs.plan.plan_of.Goals as goal

pub new-requires-clause-few : goal.new-requires-clause-few
new-requires-clause-few c =
    omega (arith, few_messages c.args.files.now c.requires.formed c.requires.clean, c.in_ok-messages.ensures.count)

pub new-requires-clause-distinct : goal.new-requires-clause-distinct
new-requires-clause-distinct c =
    messages_distinct c.args.files.now c.in_ok-messages.messages.items c.requires.formed c.requires.ordered
    c.requires.clean c.in_ok-messages.ensures.count c.in_ok-messages.ensures.names

pub new-requires-2-clause-few : goal.new-requires-2-clause-few
new-requires-2-clause-few c =
    omega (arith, few_enums c.args.files.now c.requires.clean, c.in_ok-enums.ensures.count)

pub new-requires-2-clause-distinct : goal.new-requires-2-clause-distinct
new-requires-2-clause-distinct c =
    enums_distinct c.args.files.now c.in_ok-enums.enums.items c.requires.formed c.requires.ordered c.requires.clean
    c.in_ok-enums.ensures.count c.in_ok-enums.ensures.names
