use Rattle.script_grammar.proofs.Deciding.{some_judgement}
use Rattle.script_grammar.proofs.Verdicts.{one_list, fine_or_not}
use Rattle.script_grammar.proofs.word_laws.meanings_or_reason.Goals as goal

pub returns-clause-one : goal.returns-clause-one
returns-clause-one c = one_list

pub returns-clause-either : goal.returns-clause-either
returns-clause-either c = some_judgement

pub returns-clause-not_both : goal.returns-clause-not_both
returns-clause-not_both c = fine_or_not
