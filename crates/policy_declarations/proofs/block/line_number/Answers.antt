use Rattle.std.proofs.Common.{ℕ, sym, ap, ◌∙◌, arith}
use Rattle.policy_declarations.specs.Blocks.{line_number}
use Rattle.policy_declarations.specs.Reading.{inner_lines}
use Rattle.policy_declarations.proofs.InnerLines.{at_kept_other, at_skipped}
use Rattle.policy_declarations.proofs.block.line_number.Goals as goal
use Rattle.policy_declarations.proofs.block.line_number.Goals.{then-is_kept+else-left-eq1, else-is_kept}

pub loop-one-preserved : goal.loop-one-preserved
loop-one-preserved c =
    let skips = c.args.skips in
    let cut = c.in-Some.ensures.parts in
    let isnt = sym c.is_end.ensures ∙ c.if-is_end.false in
    let behind = c.in-Some.behind.now in
    elim c.if-is_kept.branch [
      | then-is_kept+else-left-eq1 w ↦
          let k = sym c.is_kept.ensures ∙ w.if-is_kept.true in
          let step = at_kept_other skips c.loop-one.rest.now c.in-Some.one.now behind c.loop-one.left cut isnt k w.if-left-eq1.false in
          let e = ap (λ (n : ℕ). line_number skips (inner_lines behind) n) (w.left-is ∙ w.saturating_sub-left.ensures) in
          record { same = omega (arith, c.loop-one.invariant.same, step, e); small = omega (arith, c.loop-one.invariant.small, c.in-Some.ensures.long) }
      | else-is_kept w ↦
          let k = sym c.is_kept.ensures ∙ w.if-is_kept.false in
          let step = at_skipped skips c.loop-one.rest.now c.in-Some.one.now behind c.loop-one.left cut isnt k in
          let e = ap (λ (n : ℕ). line_number skips (inner_lines behind) n) w.left-is in
          record { same = omega (arith, c.loop-one.invariant.same, step, e); small = omega (arith, c.loop-one.invariant.small, c.in-Some.ensures.long) }
    ]
