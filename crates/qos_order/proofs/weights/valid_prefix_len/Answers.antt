use Rattle.std.proofs.Common.{length, arith}
use Rattle.std.proofs.lemmas.List.Elements.{All-more}
use Rattle.std.proofs.lemmas.Option.{slice_get_past}
use Rattle.qos_order.specs.Account.{IsWeight}
use Rattle.qos_order.specs.declared.weights.Weight.{Weight}
use Rattle.qos_order.proofs.weights.valid_prefix_len.Goals as goal

pub loop-i-preserved : goal.loop-i-preserved
loop-i-preserved c =
    let none : Weight = record { conn = 0; weight = 0 } in
    All-more (λ w. IsWeight w.weight) c.args.entries.now c.loop-i.i none c.loop-i-test.true c.loop-i.invariant (c.if-entry-lt1.false, c.if-entry-gt100.false)

pub returns-clause-next : goal.returns-clause-next
returns-clause-next c = rw (slice_get_past c.args.entries.now (length c.args.entries.now) (omega arith)) tt
