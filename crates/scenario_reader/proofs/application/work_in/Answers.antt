use Rattle.std.proofs.Common.{◌+◌, ◌*◌, inl, inr, arith}
use Rattle.std.proofs.Math.Nat.{le-mul_of_pos_right}
use Rattle.scenario_reader.proofs.application.work_in.Goals as goal

pub returns-then-before-gt-MAX_WORK : goal.returns-then-before-gt-MAX_WORK
returns-then-before-gt-MAX_WORK c =
    let h = le-mul_of_pos_right {m = c.args.loads} (2 * (c.args.before + c.args.more)) (let one = c.requires.from_one in omega (arith, one)) in
    elim c.then-before-gt-MAX_WORK.either [
      | inl a ↦ omega (arith, h, a)
      | inr b ↦ (let x = b.1 in omega (arith, h, x))
    ]
