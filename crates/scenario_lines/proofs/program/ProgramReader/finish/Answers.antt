use Rattle.std.proofs.Common.{◌∙◌, sym, subst}
use Rattle.scenario_lines.specs.Programs.{IsProgramFault}
use Rattle.scenario_lines.specs.Reading.{IsFirstSoFar}
use Rattle.scenario_lines.proofs.ProgramReading.{first_of_program, says_program}
use Rattle.scenario_lines.proofs.program.ProgramReader.finish.Goals as goal

pub returns-in-None : goal.returns-in-None
returns-in-None c = λ r heap lines h.
    says_program r heap lines c.args.self h
    (subst (IsFirstSoFar (IsProgramFault r heap lines)) (sym c.first_reason.ensures ∙ c.in-None.is)
    (first_of_program c.meanings_or_reason.ensures.not_both c.meanings_or_reason.ensures.one r heap lines c.args.self h))

pub returns-in-Some : goal.returns-in-Some
returns-in-Some c = λ r heap lines h.
    subst (IsFirstSoFar (IsProgramFault r heap lines)) (sym c.first_reason.ensures ∙ c.in-Some.is)
    (first_of_program c.meanings_or_reason.ensures.not_both c.meanings_or_reason.ensures.one r heap lines c.args.self h)
