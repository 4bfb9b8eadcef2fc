-- It owns nothing, so it may be sent to another thread.
use denote.RattleType.{RattleType}
use denote.Param.Send.{IsSend, owning_send, sendable}
use Rattle.link_queue.specs.contracts.earlier.EarlierLink.{the_row, the_type}

pub send : (L : RattleType) → IsSend L → IsSend (the_row L)
send L s = owning_send (the_type L) (search sendable, tt) (λ d. tt) (λ k x w. tt)
