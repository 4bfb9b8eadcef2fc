use Rattle.std.proofs.Common.{◌≡◌, length, arith}
use Rattle.std.specs.List.{Contains}
use Rattle.std.proofs.lemmas.List.Elements.{All-more}
use Rattle.std.proofs.lemmas.Option.{slice_get_past}
use Rattle.qos_order.specs.Weights.{conns_of_weights}
use Rattle.qos_order.specs.declared.weights.Weight.{Weight}
use Rattle.qos_order.proofs.weights.disjoint_prefix_len.Goals as goal

pub loop-i-preserved : goal.loop-i-preserved
loop-i-preserved c =
    let none : Weight = record { conn = 0; weight = 0 } in
    All-more (λ w. ¬ Contains (conns_of_weights c.args.front.now) w.conn) c.args.back.now c.loop-i.i none c.loop-i-test.true
    c.loop-i.invariant (λ there. let no = c.if-has_conn.ensures.1 there in cc)

pub returns-clause-apart : goal.returns-clause-apart
returns-clause-apart c = let end : c.loop-i.i ≡ length c.args.back.now = omega arith in rw (← end) c.loop-i.invariant

pub returns-clause-next : goal.returns-clause-next
returns-clause-next c = rw (slice_get_past c.args.back.now (length c.args.back.now) (omega arith)) tt
