use Rattle.std.proofs.Common.{◌≡◌, get_or, min, arith}
use Rattle.std.proofs.Math.ListN.{length-set}
use Rattle.std.proofs.lemmas.Grind.{common_steps}
use Rattle.audit_rules.proofs.Clocks.{changed-one-more, others-one-more}
use Rattle.audit_rules.proofs.reached.lower.Goals as goal

pub loop-place-preserved : goal.loop-place-preserved
loop-place-preserved c =
    let is : c.min.result ≡ min (get_or c.loop-place.numbers.items c.loop-place.place c.index-number.result.now)
    c.args.at = grind (arith, common_steps, c.min.ensures, c.index-number.ensures) in
    record {
      changed = changed-one-more (λ n. min n c.args.at) c.loop-place.numbers.items c.args.numbers.now.items c.loop-place.place c.index-number.result.now c.min.result
          (omega arith) (omega arith) c.loop-place.invariant.changed c.loop-place.invariant.others is;
      others = others-one-more c.loop-place.numbers.items c.args.numbers.now.items c.loop-place.place c.min.result c.loop-place.invariant.others;
      many = simp length-set c.loop-place.invariant.many;
      count = c.loop-place.invariant.count;
      capacity = c.loop-place.invariant.capacity;
    }
