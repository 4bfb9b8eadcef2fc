use Rattle.text_commands.proofs.DecodeAnswers.{no_stream_fault}
use Rattle.text_commands.proofs.DecodeNeither.{held_or_faulty, told_or_cut}
use Rattle.text_commands.proofs.OneDecoding.{one_decoded, one_cut}
use Rattle.text_commands.proofs.TextAnswers.{one_holding, no_text_fault, one_text_fault}
use Rattle.text_commands.proofs.decode.decoding_is_unique.Goals as goal

pub returns-clause-parts : goal.returns-clause-parts
returns-clause-parts c = λ text stream other T U. one_holding c.text_law.ensures text T U stream other

pub returns-clause-text_fault : goal.returns-clause-text_fault
returns-clause-text_fault c = λ text word spelled line at. one_text_fault c.text_law.ensures text line at word spelled

pub returns-clause-no_text_fault : goal.returns-clause-no_text_fault
returns-clause-no_text_fault c = λ text stream word T line. no_text_fault c.text_law.ensures text T stream line word

pub returns-clause-lines : goal.returns-clause-lines
returns-clause-lines c = one_decoded c.meaning_law.ensures

pub returns-clause-cut : goal.returns-clause-cut
returns-clause-cut c = λ T stream told other word spelled place at. one_cut c.meaning_law.ensures T 0 stream told other place at word spelled

pub returns-clause-no_cut : goal.returns-clause-no_cut
returns-clause-no_cut c = λ T stream told other word place. no_stream_fault c.meaning_law.ensures T stream told other place word

pub returns-clause-text_or_fault : goal.returns-clause-text_or_fault
returns-clause-text_or_fault c = held_or_faulty c.text_law.ensures

pub returns-clause-lines_or_cut : goal.returns-clause-lines_or_cut
returns-clause-lines_or_cut c = told_or_cut c.meaning_law.ensures
