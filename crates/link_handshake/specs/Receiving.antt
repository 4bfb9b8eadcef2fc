-- The code's own: what was received while it waits for the first frame.
use Rattle.std.specs.Prelude.{◌≡◌, ℕ, List, Bool, Option, None, IsTrue}
use Rattle.std.specs.Io.KnownBytes.{Appends}
use Rattle.mrpc_base.specs.Failures.{HasCause}
use Rattle.frame_transport.specs.declared.fault.FeedFault.{FeedFault}
use Rattle.receive_core.specs.ReceiverTraces.{after_piece, empty_trace}
use Rattle.message_delivery.specs.Arriving.{HaveSameIdentity, IsArrivalTrace}
use Rattle.message_delivery.specs.declared.arrivals.Arrivals.{Arrivals}
use Rattle.message_delivery.specs.declared.arrivals.StreamState.TheVariants.{Ended, Failed}

-- the bytes received since are the arrivals' stream
pub record HasReceivedSince (given given' : Option (List ℕ)) (a : Arrivals) : Type 0 where
  pub stream : List ℕ
  pub fault : Option FeedFault
  pub came : Appends given given' stream
  pub lived : IsArrivalTrace (after_piece empty_trace stream fault) a

-- what is unchanged by all receives, and what the state of the stream means for the link
pub record IsUnchangedByReceives (given given' : Option (List ℕ)) (failures faults' : ℕ) (ended : Bool)
    (old new : Arrivals) : Type 0
  where
    pub same : HaveSameIdentity old new
    pub writer : new.writer ≡ old.writer
    pub lines : new.lines ≡ old.lines
    pub heap : new.inbound.heap ≡ old.inbound.heap
    pub cause : HasCause (new.stream ≡ Failed) failures faults'
    pub ends : new.stream ≡ Ended → IsTrue ended
    pub silent : given ≡ None → given' ≡ None
