use Rattle.std.proofs.Common.{inl, inr, sym, ◌∙◌, slice_index_or, arith}
use Rattle.std.proofs.lemmas.Option.{slice_get-get_or}
use Rattle.service_loop.specs.Within.{IsDue}
use Rattle.service_loop.proofs.Deciding.{on-so, on-within, there}
use Rattle.service_loop.proofs.submissions.Submissions.is_due.Goals as goal

pub returns-then-closing-clause-due : goal.returns-then-closing-clause-due
returns-then-closing-clause-due c =
    on-so c.args.closing (IsDue c.args.self.now) (record {
      due = (there c.args.self.now.steps.now c.args.self.now.applied c.if-self.true).0;
      first = (there c.args.self.now.steps.now c.args.self.now.applied c.if-self.true).1;
      reached = inl (sym c.requires.closing ∙ c.if-closing.true);
    })

pub returns-else-closing-clause-due : goal.returns-else-closing-clause-due
returns-else-closing-clause-due c =
    on-within (slice_index_or c.args.self.now.steps.now c.args.self.now.applied c.index-self-self.result).count
    c.from.result (IsDue c.args.self.now) (λ least. record {
      due = slice_index_or c.args.self.now.steps.now c.args.self.now.applied c.index-self-self.result;
      first = slice_get-get_or c.args.self.now.steps.now c.args.self.now.applied c.index-self-self.result
          c.if-self.true;
      reached = inr (omega (arith, least, c.from.ensures));
    })
