use Rattle.std.proofs.Common.{◌≡◌, Bool, true, false, not, refl, ap, sym, ◌∙◌, arith}
use Rattle.std.proofs.lemmas.Grind.{common_steps}
use Rattle.policy_access.specs.declared.verdict.Verdict.{Verdict}
use Rattle.engine_core.specs.declared.outcome.Noted.TheVariants.{Nothing}
use Rattle.engine_core.specs.declared.outcome.Why.TheVariants.{Denied}
use Rattle.engine_core.specs.declared.outcome.Outcome.TheVariants.{Refused}
use Rattle.engine_core.specs.EngineSteps.{was_allowed, allows, denies}
use Rattle.engine_core.proofs.work.judge.Goals as goal

not_allowed : {b : Bool} → not b ≡ true → b ≡ false
not_allowed {b} h = grind (arith, common_steps)

is_allowed : {b : Bool} → not b ≡ false → b ≡ true
is_allowed {b} h = grind (arith, common_steps)

pub returns-then-allows : goal.returns-then-allows
returns-then-allows c = λ level moment. was_allowed c.args.access.now refl (cc) refl refl refl

pub returns-then-not-verdict : goal.returns-then-not-verdict
returns-then-not-verdict c =
    λ level moment. denies c.args.access.now refl (cc)
    (ap (λ (v : Verdict). v.allow) (sym (rw c.call.ensures at c.judge-verdict.ensures.verdict))
    ∙ not_allowed c.if-not-verdict.true)
    (ap (λ (v : Verdict). Refused Nothing (Denied v.rule)) (rw c.call.ensures at c.judge-verdict.ensures.verdict))
    refl refl

pub returns : goal.returns
returns c = λ level moment. allows c.args.access.now refl (cc)
    (ap (λ (v : Verdict). v.allow) (sym (rw c.call.ensures at c.judge-verdict.ensures.verdict))
    ∙ is_allowed c.if-not-verdict.false) refl c.mark.ensures refl
