use Rattle.std.proofs.Common.{◌≡◌, OnOk, Ok, Err, Option, Result, ap}
use Rattle.scenario_lines.specs.LineReading.{HasTakenLine, blames, keeps, kept}
use Rattle.scenario_lines.specs.declared.reason.LineReason.{LineReason}
use Rattle.scenario_lines.proofs.program.ProgramReader.take.Goals as goal

on_ok : {A E : Type 0} (P Q : Type 0) (r : Result A E) → (P → Q) → OnOk r P → OnOk r Q
on_ok P Q (Ok a) f p = f p
on_ok P Q (Err e) f p = tt

pub returns-in-Ok-clause-taken : goal.returns-in-Ok-clause-taken
returns-in-Ok-clause-taken c =
    on_ok (c.keep.new.self ≡ kept c.args.self.now c.in-Ok.said) (HasTakenLine c.args.self.now c.args.line.now c.keep.new.self) c.keep.result
    (λ e. keeps c.in-Ok.said c.in-Ok.ensures e) c.keep.ensures.kept

pub returns-in-Err-clause-taken : goal.returns-in-Err-clause-taken
returns-in-Err-clause-taken c =
    blames c.in-Err.reason c.in-Err.ensures
    (ap (λ (f : Option LineReason). record c.args.self.now { first = f }) c.earlier_line_reason-self.ensures)
