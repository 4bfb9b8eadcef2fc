use Rattle.std.proofs.Common.{◌≡◌, true, refl, ap, sym, ◌∙◌}
use Rattle.std.specs.Prelude.{Option}
use Rattle.engine_core.specs.Marks.{is_allowed_by, note_of, past_by}
use Rattle.engine_core.specs.EngineSteps.{was_allowed, was_charged}
use Rattle.engine_core.specs.declared.mark.MarkNote.{MarkNote}
use Rattle.engine_core.proofs.Passing.{where-true, then-true}
use Rattle.engine_core.proofs.engine.Engine.pass_unnoted.Goals as goal

pub returns-then-allows-clause-passed : goal.returns-then-allows-clause-passed
returns-then-allows-clause-passed c =
    let by : is_allowed_by c.self.inside.version (note_of c.args.call.now.marks c.self.inside.attach) ≡ true =
    ap (λ (n : Option MarkNote). is_allowed_by c.self.inside.version n) (sym c.note_at-note.ensures)
    ∙ (sym c.allows.ensures ∙ c.if-allows.true) in
    rw (← c.self.view_is, c.in-Access.is)
    (where-true c.allows.result (λ is moment. was_allowed _ refl by refl refl refl))

pub returns-else-allows-clause-passed : goal.returns-else-allows-clause-passed
returns-else-allows-clause-passed c = rw (← c.self.view_is, c.in-Access.is)
    (then-true c.allow.result (λ steps moment. steps c.self.inside.bucket.level moment) c.allow.ensures.allows)

pub returns-in-Rate-clause-passed : goal.returns-in-Rate-clause-passed
returns-in-Rate-clause-passed c = rw (← c.self.view_is, c.in-Rate.is)
    (then-true c.has_note.result (λ noted moment. was_charged _ refl
    (λ same. noted (ap (λ (n : Option MarkNote). past_by n) c.note_at-note.ensures ∙ same)) refl refl refl) c.has_note.ensures.noted)
