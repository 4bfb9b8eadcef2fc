-- When a connection is bound, and otherwise why not (this project's own).
use Rattle.std.specs.Prelude.{◌≡◌, ◌≢◌, ℕ, List, [], ◌∷◌, Option, Some, None, ⊤}
use Rattle.std.specs.Io.KnownBytes.{Appends}
use Rattle.mrpc_table.specs.declared.table.Table.{Table}
use Rattle.frame_transport.specs.Bytes.{frame_bytes}
use Rattle.frame_transport.specs.declared.format.Frame.{Frame}
use Rattle.frame_transport.specs.declared.format.TheConstants.{HELLO, HELLO_VERSION}
use Rattle.frame_transport.specs.declared.fault.FeedFault.{FeedFault}
use Rattle.frame_transport.specs.declared.fault.FeedFault.TheVariants.{Memory as NoMemoryToFeed}
use Rattle.receive_core.specs.ReceiverTraces.{HasFrames, after_piece, after_hello, empty_trace}
use Rattle.schema_binding.specs.Agreement.{AreInAgreement, IsDisagreement}
use Rattle.schema_binding.specs.Hello.{IsFirstFaultyLine, IsHello, hello_payload}
use Rattle.schema_binding.specs.declared.fault.AgreeFault.{AgreeFault}
use Rattle.schema_binding.specs.declared.fault.AgreeFault.TheVariants.{Memory as NoMemoryToAgree}
use Rattle.message_delivery.specs.Arriving.{IsArrivalTrace}
use Rattle.message_delivery.specs.declared.arrivals.Arrivals.{Arrivals}
use Rattle.message_delivery.specs.declared.arrivals.StreamState.{StreamState}
use Rattle.message_delivery.specs.declared.arrivals.StreamState.TheVariants.{Ended as HasEnded, Failed as HasFailed}
use Rattle.link_handshake.specs.declared.unbound.Unbound.{Unbound}
use Rattle.link_handshake.specs.declared.unbound.Unbound.TheVariants.{Transport, Ended, Cut, Hello, Disagrees}

-- the hello of a connection: a frame with the service and the connection's own table
abbrev pub hello_of : ℕ → List ℕ → Table → List ℕ
hello_of conn service T = frame_bytes HELLO HELLO_VERSION 0 conn 0 (hello_payload service T)

-- this frame is the first of the received bytes, whatever follows
abbrev pub HasFirstFrame : List ℕ → Option FeedFault → Frame → Type 0
HasFirstFrame stream fault f = (more : List Frame) × HasFrames 0 stream (f ∷ more) fault

-- the first frame of the received bytes is a hello with this table; the service that it names isn't compared
pub record HasHello (stream : List ℕ) (fault : Option FeedFault) (hello : Frame) (theirs : Table) : Type 0 where
  pub first : HasFirstFrame stream fault hello
  pub kind : hello.kind ≡ HELLO
  pub service : List ℕ
  pub says : IsHello hello.payload service theirs

-- A connection with this table is bound to the service: the first frame received is this hello, whose table
-- agrees with the connection's own on the service, under the hello's version.
pub record IsBound (T : Table) (service stream : List ℕ) (fault : Option FeedFault) (hello : Frame) : Type 0 where
  pub theirs : Table
  pub greeted : HasHello stream fault hello theirs
  pub agree : AreInAgreement T theirs service hello.version

-- It is unbound for this cause, by the bytes received up to the stream's state.
pub data IsUnbound (T : Table) (service stream : List ℕ) (fault : Option FeedFault) (state : StreamState)
    (why : Unbound)
    : Type 0 where
  -- the link failed
  failed : state ≡ HasFailed → why ≡ Transport → IsUnbound T service stream fault state why
  -- the other side finished before a whole frame or a fault
  ended : state ≡ HasEnded → HasFrames 0 stream [] None → why ≡ Ended → IsUnbound T service stream fault state why
  -- a fault comes before any whole frame
  cut : (first : FeedFault) → HasFrames 0 stream [] (Some first) → why ≡ Cut first
      → IsUnbound T service stream fault state why
  -- the first frame isn't a hello
  other_frame : (f : Frame) → HasFirstFrame stream fault f → f.kind ≢ HELLO → why ≡ Hello 0
      → IsUnbound T service stream fault state why
  -- it is a hello whose payload has no service and table; `line` is the payload's first invalid line
  bad_hello : (f : Frame) (line : ℕ) → HasFirstFrame stream fault f → f.kind ≡ HELLO → IsFirstFaultyLine f.payload line
      → why ≡ Hello line → IsUnbound T service stream fault state why
  -- it is a hello with a table that doesn't agree with the connection's own
  disagrees : (f : Frame) (theirs : Table) (cause : AgreeFault) → HasHello stream fault f theirs
      → IsDisagreement T theirs service f.version cause → why ≡ Disagrees cause
      → IsUnbound T service stream fault state why

-- a cause is about the stream or the tables, never out of memory
abbrev pub IsUnboundCause : Unbound → Type 0
IsUnboundCause (Cut fault) = fault ≢ NoMemoryToFeed
IsUnboundCause (Disagrees fault) = fault ≢ NoMemoryToAgree
IsUnboundCause Transport = ⊤
IsUnboundCause Ended = ⊤
IsUnboundCause (Hello line) = ⊤

-- A hello was received by which a connection is bound. The trace of its arrivals continues after the hello with
-- the bytes received after it: frames that wait, and a fault.
pub record HasBound (service : List ℕ) (given given' : Option (List ℕ)) (a : Arrivals) : Type 0 where
  pub stream : List ℕ
  pub fault : Option FeedFault
  pub hello : Frame
  pub came : Appends given given' stream
  pub bound : IsBound a.table.now service stream fault hello
  pub lived : IsArrivalTrace (after_hello (after_piece empty_trace stream fault) hello) a

-- the received bytes leave a connection unbound
pub record IsLeftUnbound (service : List ℕ) (given given' : Option (List ℕ)) (a : Arrivals) (why : Unbound)
    : Type 0 where
  pub stream : List ℕ
  pub fault : Option FeedFault
  pub came : Appends given given' stream
  pub unbound : IsUnbound a.table.now service stream fault a.stream why
  pub says : IsUnboundCause why

-- If the link hasn't failed, no stream both binds a connection and leaves it unbound,
abbrev pub IsNeverBoundAndUnbound : Type 0
IsNeverBoundAndUnbound = (T : Table) (service stream : List ℕ) (fault : Option FeedFault) (state : StreamState)
    (hello : Frame)
    (why : Unbound) → state ≢ HasFailed → IsBound T service stream fault hello
    → IsUnbound T service stream fault state why → ⊥

-- and it leaves it unbound for at most one cause.
abbrev pub IsCauseUnique : Type 0
IsCauseUnique = (T : Table) (service stream : List ℕ) (fault : Option FeedFault) (state : StreamState)
    (why other : Unbound)
    → state ≢ HasFailed → IsUnbound T service stream fault state why → IsUnbound T service stream fault state other
    → why ≡ other
