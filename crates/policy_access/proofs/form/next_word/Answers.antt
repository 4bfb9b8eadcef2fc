use Rattle.policy_access.proofs.Words.{more_words}
use Rattle.policy_access.proofs.form.next_word.Goals as goal

pub returns-clause-more : goal.returns-clause-more
returns-clause-more c = more_words c.split_once.result
