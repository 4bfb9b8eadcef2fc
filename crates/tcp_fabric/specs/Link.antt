-- One end of a connection, and how the two ends relate.
use Rattle.std.specs.Prelude.{◌≡◌, ◌≢◌, ℕ, Bool, List, ◌++◌, Option, IfSome}
use Rattle.std.specs.List.{concat}
use Rattle.std.specs.Io.KnownBytes.{append_known}
use mathlib.Core.List.{IsPrefix}
use Rattle.tcp_fabric.specs.declared.link.SendState.{SendState}
use Rattle.tcp_fabric.specs.declared.link.SendState.TheVariants.{Cut}
use Rattle.tcp_fabric.specs.declared.wire.ReceiveState.{ReceiveState}

-- one end of a connection
pub record LinkEnd : Type 0 where
  -- the bytes that its socket took and delivered, if the socket knows them
  pub sent : Option (List ℕ)
  pub came : Option (List ℕ)
  -- the frames that were sent, in order, and the state of the sending side
  pub handed : List (List ℕ)
  pub outgoing : SendState
  -- the bytes that were received, and those that are read ahead
  pub given : List ℕ
  pub waiting : List ℕ
  -- the state of the receiving side, and whether a receive returned the end of the stream
  pub incoming : ReceiveState
  pub ended : Bool
  -- how many sends and receives failed; saturates at 2^64 - 1
  pub failures : ℕ
  -- the port of this end, and of the other
  pub local : ℕ
  pub peer : ℕ

-- the two ends of one connection, from one port to another and back
abbrev pub AreSocketPair : LinkEnd → LinkEnd → Type 0
AreSocketPair a b = (a.local ≡ b.peer) × (b.local ≡ a.peer)

-- a socket that knows its bytes took the sent frames, concatenated, and more only if a frame was truncated
pub record HasSentInOrder (end : LinkEnd) : Type 0 where
  pub front : IfSome end.sent (λ bytes. IsPrefix (concat end.handed) bytes)
  pub whole : end.outgoing ≢ Cut → IfSome end.sent (λ bytes. bytes ≡ concat end.handed)

-- what a socket that knows its bytes delivered was received, in order and once, or is read ahead
abbrev pub HasReceivedInOrder : LinkEnd → Type 0
HasReceivedInOrder end = IfSome end.came (λ bytes. bytes ≡ end.given ++ end.waiting)

-- the socket delivered some bytes; of those read ahead before and these, `received` were received first, and the
-- others are read ahead
abbrev pub IsReceivedNext : List ℕ → Option (List ℕ) → List ℕ → Option (List ℕ) → List ℕ → Type 0
IsReceivedNext received came waiting came_now waiting_now =
    (read : List ℕ) × (came_now ≡ append_known came read) × (waiting ++ read ≡ received ++ waiting_now)
