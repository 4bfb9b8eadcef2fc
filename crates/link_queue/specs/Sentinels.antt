-- The code's own: the contents of the queue to a writer and of the queue back.
use Rattle.std.specs.Prelude.{◌≡◌, ◌⊎◌, ◌<◌, ◌≤◌, ◌+◌, ◌++◌, ℕ, Bool, true, false, List, [], ◌∷◌, Option, None, Some}
use Rattle.spsc_queue.specs.declared.piece.Piece.{Piece}
use Rattle.spsc_queue.specs.declared.piece.Piece.TheVariants.{Bytes, Sentinel}
use Rattle.spsc_queue.specs.Pieces.{bytes_of_pieces, frames_of_pieces, sentinels_of}
use Rattle.link_queue.specs.declared.orders.Health.{Health}
use Rattle.link_queue.specs.declared.orders.Health.TheVariants.{Working, Failed as HasFailed, Memory as LacksMemory}
use Rattle.link_queue.specs.Known.{IsPrefix}
use Rattle.link_queue.specs.declared.orders.Order.{Order}
use Rattle.link_queue.specs.declared.orders.Order.TheVariants.{Finish, Close}
use Rattle.link_queue.specs.declared.orders.News.{News}
use Rattle.link_queue.specs.declared.orders.News.TheVariants.{End, Failed, Memory}

-- a sentinel is among some sentinels
abbrev pub IsSentinelIn : {M : Type 0} → M → List M → Type 0
IsSentinelIn mark [] = ⊥
IsSentinelIn mark (x ∷ xs) = (x ≡ mark) ⊎ IsSentinelIn mark xs

-- no closing sentinel was pushed
abbrev pub is_open : List (Piece Order) → Bool
is_open [] = true
is_open (Bytes frame ∷ pieces) = is_open pieces
is_open (Sentinel Finish ∷ pieces) = is_open pieces
is_open (Sentinel Close ∷ pieces) = false

-- the only closing sentinel is the last piece
abbrev pub is_closed : List (Piece Order) → Bool
is_closed [] = false
is_closed (Bytes frame ∷ pieces) = is_closed pieces
is_closed (Sentinel Finish ∷ pieces) = is_closed pieces
is_closed (Sentinel Close ∷ []) = true
is_closed (Sentinel Close ∷ piece ∷ pieces) = false

-- a sentinel that shuts the sending side down was pushed
abbrev pub has_finished : List (Piece Order) → Bool
has_finished [] = false
has_finished (Bytes frame ∷ pieces) = has_finished pieces
has_finished (Sentinel Finish ∷ pieces) = true
has_finished (Sentinel Close ∷ pieces) = has_finished pieces

-- there are only sentinels
abbrev pub has_no_bytes : List (Piece News) → Bool
has_no_bytes [] = true
has_no_bytes (Bytes bytes ∷ pieces) = false
has_no_bytes (Sentinel mark ∷ pieces) = has_no_bytes pieces

-- no bytes follow the sentinel that the other side has finished
abbrev pub ends_once : List (Piece News) → Bool
ends_once [] = true
ends_once (Bytes bytes ∷ pieces) = ends_once pieces
ends_once (Sentinel End ∷ pieces) = has_no_bytes pieces
ends_once (Sentinel Failed ∷ pieces) = ends_once pieces
ends_once (Sentinel Memory ∷ pieces) = ends_once pieces

-- what a writer may report of an inner link besides its end: that it failed or its writer was out of memory, if that is
-- so
abbrev pub IsNewsOf : Health → News → Type 0
IsNewsOf health End = ⊥
IsNewsOf health Failed = health ≡ HasFailed
IsNewsOf health Memory = health ≡ LacksMemory

-- the bytes that a writer holds until there is room
abbrev pub held_bytes : Option (Piece News) → List ℕ
held_bytes None = []
held_bytes (Some (Bytes bytes)) = bytes
held_bytes (Some (Sentinel mark)) = []

-- what a writer may hold: nothing; bytes until the other side has finished; the sentinel of the end from then on
abbrev pub may_hold : Bool → Option (Piece News) → Bool
may_hold ended None = true
may_hold true (Some (Bytes bytes)) = false
may_hold false (Some (Bytes bytes)) = true
may_hold ended (Some (Sentinel End)) = ended
may_hold ended (Some (Sentinel Failed)) = false
may_hold ended (Some (Sentinel Memory)) = false

-- ---- what a link and its writer pushed and popped

-- Two queues connect a link and its writer. The link pushes frames into the queue to the writer, the sentinel `Finish`
-- when its sending side is shut down, and finally the sentinel `Close`. The writer forwards the frames to the inner
-- link. Into the queue back it pushes the bytes that the inner link receives, and the sentinel `End` when the other
-- side has finished. It pushes the sentinel `Failed` when the inner link failed, and `Memory` when the writer was out
-- of memory.

-- What a link that isn't closed has pushed into the queue to its writer. That queue has `capacity` slots, and
-- `free` of them are known to be free. At most `most` frames are queued, and `finished` is whether the sending
-- side was shut down.
pub record IsQueueing (most capacity free : ℕ) (put : List (Piece Order)) (finished : Bool) : Type 0 where
  -- two slots are reserved for sentinels
  pub places : capacity ≡ most + 2
  -- both are free until the sending side is shut down, and one of them until the link is closed
  pub for_the_end : finished ≡ false → 2 ≤ free
  pub for_the_closing : 1 ≤ free
  -- `Close` wasn't pushed, and `Finish` was pushed exactly if the sending side was shut down
  pub unclosed : is_open put ≡ true
  pub finishes : has_finished put ≡ finished

-- What a link that isn't closed has popped from the queue back, and what it returned to its caller. It delivered the
-- bytes `given`, and `ended` is whether it returned the end of the stream. `health` is what it knows of the inner link,
-- and `faults` is how many sends and receives failed.
pub record IsReceivingBack (taken : List (Piece News)) (given : List ℕ) (ended : Bool) (health : Health)
    (failures : ℕ) : Type 0 where
  -- if it returned the end, it has popped `End` and delivered every byte that it popped
  pub ends : ended ≡ true → IsSentinelIn End (sentinels_of taken)
  pub gave : ended ≡ true → given ≡ bytes_of_pieces taken
  -- if it knows that the inner link failed, it has popped `Failed`
  pub fails : health ≡ HasFailed → IsSentinelIn Failed (sentinels_of taken)
  -- if a send or a receive failed, it knows that the inner link failed
  pub counts : 0 < failures → health ≡ HasFailed

-- What a closed link has pushed into the queue to its writer, popped from the queue back, and returned to its
-- caller. `failed` is whether it knew that the inner link failed.
pub record HasQueued (put : List (Piece Order)) (taken : List (Piece News)) (given : List ℕ)
    (ended failed : Bool) : Type 0 where
  -- `Close` was pushed, and nothing after it
  pub closed_last : is_closed put ≡ true
  -- if it returned the end, it has popped `End` and delivered every byte that it popped
  pub ends : ended ≡ true → IsSentinelIn End (sentinels_of taken)
  pub gave : ended ≡ true → given ≡ bytes_of_pieces taken
  -- if it knows that the inner link failed, it has popped `Failed`
  pub fails : failed ≡ true → IsSentinelIn Failed (sentinels_of taken)

-- What a writer has popped from the queue to it, and which frames it has forwarded to the inner link. `closed`
-- is whether it has popped the sentinel `Close`, and `health` the health of the inner link.
pub record IsForwarding (taken : List (Piece Order)) (passed : List (List ℕ)) (closed : Bool)
    (health : Health) : Type 0 where
  -- it popped `Close` exactly if `closed` is true, and nothing after it
  pub unclosed : closed ≡ false → is_open taken ≡ true
  pub closed_last : closed ≡ true → is_closed taken ≡ true
  -- it forwarded a prefix of the frames that it popped, in order, and all of them while the inner link works
  pub in_order : IsPrefix (frames_of_pieces taken) passed
  pub whole : health ≡ Working → passed ≡ frames_of_pieces taken

-- What a writer has pushed into the queue back, and the piece that it holds until that queue has room. The bytes
-- `came` are all that the inner link received, `ended` is whether that link returned the end of the stream, and
-- `health` its health.
pub record IsReturning (put : List (Piece News)) (held : Option (Piece News)) (came : List ℕ) (ended : Bool)
    (health : Health) : Type 0 where
  -- each received byte was pushed or is held, once and in order
  pub in_order : bytes_of_pieces put ++ held_bytes held ≡ came
  -- no bytes were pushed after `End`, which was pushed only after the inner link returned it
  pub ends_once : ends_once put ≡ true
  pub ended_first : IsSentinelIn End (sentinels_of put) → ended ≡ true
  -- it holds bytes only before the inner link returned the end, and `End` only after that
  pub holds : may_hold ended held ≡ true
  -- `Failed` was pushed only after the inner link failed
  pub failed_first : IsSentinelIn Failed (sentinels_of put) → health ≡ HasFailed

-- What a writer that has ended had pushed into the queue back. A piece that it still held was dropped.
pub record HasReturned (put : List (Piece News)) (came : List ℕ) (ended : Bool) (health : Health) : Type 0 where
  -- the pushed bytes are a prefix of the received ones, in order, and all of them if `End` was pushed
  pub in_order : IsPrefix came (bytes_of_pieces put)
  pub whole : IsSentinelIn End (sentinels_of put) → bytes_of_pieces put ≡ came
  -- no bytes were pushed after `End`, which was pushed only after the inner link returned it
  pub ends_once : ends_once put ≡ true
  pub ended_first : IsSentinelIn End (sentinels_of put) → ended ≡ true
  -- `Failed` was pushed only after the inner link failed
  pub failed_first : IsSentinelIn Failed (sentinels_of put) → health ≡ HasFailed
