use Rattle.std.proofs.Common.{[], arith}
use Rattle.conn_core.proofs.Placing.{attach-changed, attach-within}
use Rattle.conn_core.proofs.changing.attach.Goals as goal

pub put-requires-clause-at : goal.put-requires-clause-at
put-requires-clause-at c =
    omega (
      arith,
      attach-within c.args.chain.now c.args.at c.in-Ok-Ok.name [] c.in-Ok-Ok.policy _
          (c.in_ok-attach.ensures.changes []),
      c.requires.aligned,
    )

pub returns-clause-changed : goal.returns-clause-changed
returns-clause-changed c =
    λ label. attach-changed c.args.chain.now c.attach.new.self c.args.at c.args.now c.args.name.now c.in-Ok-Ok.name
    label c.args.policy.now c.in-Ok-Ok.policy
    c.in-Ok-Ok.ensures c.in-Ok-Ok.ensures' (c.in_ok-attach.ensures.changes label) c.in_ok-attach.ensures.engines
    c.in_ok-attach.ensures.calls c.in_ok-attach.ensures.row
