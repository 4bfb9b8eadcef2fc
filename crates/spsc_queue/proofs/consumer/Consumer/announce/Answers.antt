use Rattle.std.proofs.Common.{ap, sym, ◌∙◌}
use Rattle.spsc_queue.specs.declared.credit.CreditDesk.{CreditDesk}
use Rattle.spsc_queue.proofs.CreditMoves.{sends, sends_after, hears_from}
use Rattle.spsc_queue.proofs.Moves.{tells}
use Rattle.spsc_queue.proofs.consumer.Consumer.announce.Goals as goal

pub another-requires-clause-rule : goal.another-requires-clause-rule
another-requires-clause-rule g c = tells _ _ c.args.self.now.takes

pub force_push_as-requires-clause-push : goal.force_push_as-requires-clause-push
force_push_as-requires-clause-push g c =
    let h = c.args.self.now in
    let named = ap (λ (d : CreditDesk). d.named) h.tells in
    let of = c.another.ensures.queue.1.0 ∙ ap (λ q. q.table.shared.table_id) c.deref.ensures ∙ sym h.of_queue.0 ∙ sym (ap (λ (d : CreditDesk). d.queue) h.tells) in
    (sends _ _ _ _ named of, sends_after _ _ _ _ named of)

pub force_push_as-requires-clause-pop : goal.force_push_as-requires-clause-pop
force_push_as-requires-clause-pop g c = hears_from _ _ _ (ap (λ (d : CreditDesk). d.named) c.args.self.now.tells)
