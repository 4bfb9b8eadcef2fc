use Rattle.std.proofs.Common.{subst}
use Rattle.call_history.proofs.Fates.{ascend}
use Rattle.call_history.specs.Legal.{IsLegalPrefix}
use Rattle.call_history.proofs.laws.sent_in_order.Goals as goal

pub returns : goal.returns
returns c = λ T limit conn m n a b h later between earlier legal is.
    ascend (record { conn = conn; table = T; limit = limit }) m n a b later between earlier
    (subst (IsLegalPrefix (record { conn = conn; table = T; limit = limit })) is (legal conn).prefix)
