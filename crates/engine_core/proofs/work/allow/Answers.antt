use Rattle.std.proofs.Common.{◌≡◌, Bool, true, false, not, refl, ap, sym, ◌∙◌, arith}
use Rattle.std.specs.Prelude.{Option}
use Rattle.std.proofs.lemmas.Grind.{common_steps}
use Rattle.policy_access.specs.declared.verdict.Verdict.{Verdict}
use Rattle.engine_core.specs.Marks.{is_allowed_by}
use Rattle.engine_core.specs.EngineSteps.{allows}
use Rattle.engine_core.specs.declared.mark.MarkNote.{MarkNote}
use Rattle.engine_core.proofs.work.allow.Goals as goal

is_allowed : {b : Bool} → not b ≡ false → b ≡ true
is_allowed {b} h = grind (arith, common_steps)

pub returns-clause-allows : goal.returns-clause-allows
returns-clause-allows c = λ level moment. allows c.args.access.now refl
    (ap (λ (n : Option MarkNote). is_allowed_by c.args.version n) (sym c.requires.note) ∙ c.requires.unmarked)
    (ap (λ (v : Verdict). v.allow) (sym (rw c.call.ensures at c.judge.ensures.verdict))
    ∙ is_allowed c.if-not-judge.false) refl c.mark.ensures refl
