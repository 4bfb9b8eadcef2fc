use Rattle.std.proofs.Common.{◌∙◌, ap}
use Rattle.scenario_lines.specs.LineReading.{with_reply_noted}
use Rattle.scenario_lines.proofs.ProgramReading.{read_more}
use Rattle.scenario_lines.proofs.program.ProgramReader.read.Goals as goal

pub returns-in-Ok-clause-read : goal.returns-in-Ok-clause-read
returns-in-Ok-clause-read c = λ r heap lines h.
    read_more c.meanings_or_reason.ensures.not_both c.meanings_or_reason.ensures.one r heap lines c.args.line.now c.args.self.now
    c.take.new.self c.note_reply.new.self h c.in-Ok.ensures.taken
    (c.note_reply.ensures ∙ ap (with_reply_noted c.take.new.self) c.is_reply.ensures)
