use Rattle.audit_check.proofs.Judging.{one_answer}
use Rattle.audit_check.proofs.Neither.{never_neither}
use Rattle.audit_check.proofs.Lines.{not_both, one_fault}
use Rattle.audit_check.proofs.laws.check_is_deterministic.Goals as goal

pub returns-clause-checked : goal.returns-clause-checked
returns-clause-checked c T declared limit text one other valid a b =
    one_answer (record {
      happenings = c.line_splits_into_words.ensures.happening;
      stands = c.line_splits_into_words.ensures.stands;
      apart = c.stands_line_determines_call.ensures.apart;
      front = c.history_of_text_is_unique.ensures.front;
      one = c.stands_line_determines_call.ensures.one;
    })
    T declared limit text one other valid a b

pub returns-clause-bad : goal.returns-clause-bad
returns-clause-bad c T declared text line other valid a b =
    one_fault (record {
      happenings = c.line_splits_into_words.ensures.happening;
      stands = c.line_splits_into_words.ensures.stands;
      apart = c.stands_line_determines_call.ensures.apart;
      front = c.history_of_text_is_unique.ensures.front;
      one = c.stands_line_determines_call.ensures.one;
    })
    T declared text line other valid a b

pub returns-clause-not_both : goal.returns-clause-not_both
returns-clause-not_both c T declared limit text checked line valid a b =
    not_both (record {
      happenings = c.line_splits_into_words.ensures.happening;
      stands = c.line_splits_into_words.ensures.stands;
      apart = c.stands_line_determines_call.ensures.apart;
      front = c.history_of_text_is_unique.ensures.front;
      one = c.stands_line_determines_call.ensures.one;
    })
    T declared text line a.history a.stands valid a.tells b

pub returns-clause-not_neither : goal.returns-clause-not_neither
returns-clause-not_neither c T declared limit text valid no_checked no_bad = never_neither T declared limit text no_checked no_bad
