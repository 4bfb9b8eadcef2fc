use Rattle.std.proofs.Common.{◌++◌, ◌∷◌, [], Option, Some, Result, Ok, Err, sym, ap, ◌∙◌, subst}
use Rattle.std.specs.Prelude.{OnOk}
use Rattle.scenario.specs.Reasons.{lower_ranked}
use Rattle.scenario.specs.declared.fault.ScenarioReason.{ScenarioReason}
use Rattle.scenario_reader.specs.StepLinesReading.{HasReadLines}
use Rattle.scenario_reader.proofs.Stepping.{Laws, told_fault, told_next}
use Rattle.scenario_reader.proofs.steps.StepLinesReader.read.Goals as goal

on_three : {A E : Type 0} (r : Result A E) (P Q R S : Type 0) → OnOk r P → OnOk r Q → OnOk r R → (P → Q → R → S) → OnOk r S
on_three (Ok x) P Q R S p q r f = f p q r
on_three (Err e) P Q R S p q r f = tt

pub returns-in-Ok : goal.returns-in-Ok
returns-in-Ok c =
    let laws : Laws = record { one = c.meanings_or_reason.ensures.one; not_both = c.meanings_or_reason.ensures.not_both } in
    on_three c.keep.result _ _ _ _ c.keep.ensures.told c.keep.ensures.more c.keep.ensures.less
    (λ told more less lines so_far.
    told_next laws lines c.args.line.now c.in-Ok.step c.in-Ok.ensures c.args.self.now.told.items c.args.self.now.most c.args.self.now.first so_far
    c.keep.new.self.told.items c.keep.new.self.most c.keep.new.self.first told more less)

pub returns-in-Err : goal.returns-in-Err
returns-in-Err c = λ lines so_far.
    let laws : Laws = record { one = c.meanings_or_reason.ensures.one; not_both = c.meanings_or_reason.ensures.not_both } in
    subst (λ (o : Option ScenarioReason). HasReadLines (lines ++ c.args.line.now ∷ []) c.args.self.now.told.items c.args.self.now.most o)
    (sym (c.earlier-self.ensures ∙ ap (λ (r : ScenarioReason). lower_ranked c.args.self.now.first (Some r)) c.reason_of_line.ensures))
    (told_fault laws lines c.args.line.now c.in-Err.reason c.in-Err.ensures c.args.self.now.told.items c.args.self.now.most
    c.args.self.now.first so_far)
