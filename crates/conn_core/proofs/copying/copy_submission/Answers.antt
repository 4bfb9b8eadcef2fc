use Rattle.std.proofs.Common.{◌≡◌, ◌<◌, ℕ, length, subst, arith}
use Rattle.mrpc_table.specs.Calls.{message_at}
use Rattle.graph_form.specs.Malformed.{IsMalformed}
use Rattle.graph_copy.specs.Answers.{IfCopied, IfMalformed}
use Rattle.graph_copy.specs.Copies.{IsCopied, loads_since}
use Rattle.conn_core.proofs.Taken.{all-well}
use Rattle.conn_core.proofs.copying.copy_submission.Goals as goal

pub returns-clause-well : goal.returns-clause-well
returns-clause-well g c =
    let T = c.args.table.now in
    let H = g.W.Words.size c.args.words.now in
    let xs = loads_since (g.W.Words.loads c.args.words.now) (g.W.Words.loads c.copy.new.words) in
    let known : c.args.ask.method < length T.methods = omega arith in
    let message : c.message_at-message.result ≡ message_at T c.args.ask.method c.args.ask.number =
    c.message_at-message.ensures.place in
    all-well (record {
      normal = c.sound_tree_is_normal.ensures;
      short = c.copies_are_short.ensures;
      reason = c.malformed_graphs_are_within_limit.ensures.reason;
    })
    T H c.args.limit c.args.conn c.args.seq xs c.args.ask.method c.args.ask.number c.args.ask.addr c.args.ask.after
    c.in_ok-answer.answer c.requires.valid known
    c.requires.greatest_limit c.in_ok-answer.ensures.few
    (subst (λ (m : ℕ). IfCopied (IsCopied T H m c.args.ask.addr xs) c.in_ok-answer.answer) message
    c.in_ok-answer.ensures.copied)
    (subst (λ (m : ℕ). IfMalformed (IsMalformed T H m c.args.ask.addr c.args.limit xs) c.in_ok-answer.answer) message
    c.in_ok-answer.ensures.malformed)
    c.in_ok-answer.ensures.counted c.from_copy_result.result c.from_copy_result.ensures
