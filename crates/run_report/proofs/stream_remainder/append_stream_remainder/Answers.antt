use Rattle.std.proofs.Common.{◌∙◌, ap, refl, append_assoc}
use Rattle.std.proofs.lemmas.Result.{on_ok_weaker}
use Rattle.std.specs.Prelude.{◌++◌, ◌-◌, length}
use Rattle.run_report.specs.ConnectionReport.{cut_text, waiting_text}
use Rattle.run_report.proofs.Keeping.{all-kept, cut-same}
use Rattle.run_report.proofs.stream_remainder.append_stream_remainder.Goals as goal

pub append_where_cut-requires-clause-kept : goal.append_where_cut-requires-clause-kept
append_where_cut-requires-clause-kept c = λ is.
    (all-kept c.split_is_unique.ensures.once c.requires.lived.0 c.args.arrivals.now c.requires.lived.1 is).none_behind

pub returns : goal.returns
returns c = λ life lived.
    let cut = cut_text c.args.conn c.args.failed life.fault (length life.stream - length lived.lives.all.rest) lived.lives.all.rest in
    let waiting = waiting_text c.args.conn lived.lives.waiting in
    let first = c.in_ok-append_where_cut.ensures lived.lives.waiting lived.lives.kept.rest lived.lives.kept.splits in
    let same = cut-same c.split_is_unique.ensures.once life c.args.arrivals.now lived c.args.conn c.args.failed in
    on_ok_weaker c.append_waiting.result (λ more. (
      cut ++ waiting,
      record {
        waiting = lived.lives.waiting;
        rest = lived.lives.all.rest;
        splits = lived.lives.all.splits;
        lines = refl;
      },
      more ∙ ap (λ text. text ++ waiting) (first ∙ ap (λ text. c.args.out.now ++ text) same) ∙ append_assoc c.args.out.now cut waiting,
    )) (c.append_waiting.ensures lived.lives.waiting lived.lives.kept.rest lived.lives.kept.splits)
