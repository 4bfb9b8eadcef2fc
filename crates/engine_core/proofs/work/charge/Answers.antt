use Rattle.std.proofs.Common.{ℕ, ap, refl}
use Rattle.engine_core.specs.declared.outcome.Noted.TheVariants.{Charged}
use Rattle.engine_core.specs.declared.outcome.Outcome.TheVariants.{Passed}
use Rattle.engine_core.specs.EngineSteps.{was_charged, charges, holds, refuses}
use Rattle.engine_core.proofs.Stepping.{pays, falls_short}
use Rattle.engine_core.proofs.work.charge.Goals as goal

pub returns-then-is_noted-clause-step : goal.returns-then-is_noted-clause-step
returns-then-is_noted-clause-step c = λ version moment. was_charged c.args.rate.now refl (rw c.if-is_noted.true at c.is_noted.ensures.noted) refl refl refl

pub returns-in-Pass-clause-step : goal.returns-in-Pass-clause-step
returns-in-Pass-clause-step c = λ version moment.
    let enough = pays c.args.rate.now.per c.args.bucket.now.level c.step.result c.in-Pass.level c.step.ensures.short c.in-Pass.is in
    let left = c.step.ensures.charged enough in
    charges c.args.rate.now refl (rw c.if-is_noted.false at c.is_noted.ensures.none) enough
    (ap (λ (l : ℕ). Passed (Charged l)) (let passed = c.step.ensures.pass enough in cc)) c.mark.ensures left

pub returns-in-Short-clause-step : goal.returns-in-Short-clause-step
returns-in-Short-clause-step c = λ version moment.
    let less = falls_short c.args.rate.now.per c.args.bucket.now.level c.step.result c.step.new.self.level c.in-Short.level c.in-Short.cost c.step.ensures.pass c.in-Short.is in
    holds c.args.rate.now refl (rw c.if-is_noted.false at c.is_noted.ensures.none) less c.if-rate.true (let short = c.step.ensures.short less in cc) refl (c.step.ensures.stays less)

pub returns-in-Short-2-clause-step : goal.returns-in-Short-2-clause-step
returns-in-Short-2-clause-step c = λ version moment.
    let less = falls_short c.args.rate.now.per c.args.bucket.now.level c.step.result c.step.new.self.level c.in-Short.level c.in-Short.cost c.step.ensures.pass c.in-Short.is in
    refuses c.args.rate.now refl (rw c.if-is_noted.false at c.is_noted.ensures.none) less c.if-rate.false (let short = c.step.ensures.short less in cc) refl (c.step.ensures.stays less)
