use Rattle.std.proofs.Common.{sym}
use Rattle.policy_redact.proofs.Words.{too_many_words}
use Rattle.policy_redact.proofs.form.after_index.Goals as goal

pub returns-in-Some-split_once : goal.returns-in-Some-split_once
returns-in-Some-split_once c = rw (c.in-Some.ensures.parts, c.in-Some-split_once.ensures.parts)
    (sym (too_many_words c.args.index c.in-Some.word.now c.in-Some-split_once.field-0.0.now c.in-Some-split_once.field-0.1.now))
