use Rattle.std.proofs.Common.{refl}
use Rattle.message_delivery.proofs.Told.{added}
use Rattle.message_delivery.proofs.notices.Notices.add.Goals as goal

pub returns-clause-telling : goal.returns-clause-telling
returns-clause-telling c heap placed h is few =
    added heap placed c.args.self.now _ c.args.message h is few c.in_ok-push_back.ensures.items refl refl refl refl refl
