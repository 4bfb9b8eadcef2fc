use Rattle.decode_laws.proofs.Frames.{cut_here}
use Rattle.decode_laws.proofs.Lines.{content_has_line}
use Rattle.decode_laws.proofs.Texts.{holds_there, holds_here, fault_there, fault_here}
use Rattle.decode_laws.proofs.laws.reader_agrees_with_decode.Goals as goal

pub returns-clause-parts : goal.returns-clause-parts
returns-clause-parts c = λ text stream T. (holds_there text stream T, holds_here text stream T)

pub returns-clause-of_text : goal.returns-clause-of_text
returns-clause-of_text c = λ text word line. (fault_there text word line, fault_here text word line)

pub returns-clause-line : goal.returns-clause-line
returns-clause-line c = content_has_line

pub returns-clause-of_frames : goal.returns-clause-of_frames
returns-clause-of_frames c = cut_here c.frames_join.ensures.places
