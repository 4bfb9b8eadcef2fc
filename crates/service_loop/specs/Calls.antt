-- The calls of a connection, by its history and its heap (this project's own).
use Rattle.std.specs.Prelude.{◌≡◌, ℕ, ◌+◌, false, List, [], ◌∷◌, ◌++◌, map, flat_map}
use Rattle.std.specs.List.{AllZip}
use Rattle.mrpc_table.specs.declared.table.Table.{Table}
use Rattle.shared_heap.specs.Fresh.{CallLoads, AreFresh, Reading, word_of_load}
use Rattle.descriptor_ring.specs.declared.descriptor.Descriptor.{Descriptor}
use Rattle.call_history.specs.Trace.{Trace, timestamp, taken}
use Rattle.call_history.specs.Loads.{IsLoaded}
use Rattle.call_history.specs.declared.happening.Happening.TheVariants.{Took, Away, Moment}
use Rattle.call_history.specs.declared.happening.AcceptedCall.{AcceptedCall}
use Rattle.conn_core.specs.Connections.{Connection, conn_trace}
use Rattle.conn_core.specs.declared.answers.Ask.{Ask}

-- ---- loads

-- the loads of a call, from a heap of this many words, after the stores made before its submission
pub record HasLoads (T : Table) (H limit : ℕ) (call : AcceptedCall) (own : CallLoads) : Type 0 where
  pub after : own.after ≡ call.after
  pub loaded : IsLoaded T H limit call own.loads

-- the reader's loads are those of the accepted calls, in order, and fresh for the stores that it knows
pub record IsReaderOf (c : Connection) (r : Reading) : Type 0 where
  pub calls : List CallLoads
  pub each : AllZip (HasLoads c.table r.heap.words c.limit) (taken (conn_trace c)) calls
  pub all : map word_of_load r.loads ≡ flat_map (λ call. call.loads) calls
  pub fresh : AreFresh calls r.known

-- ---- submissions

-- the request of a descriptor, and that of a call
abbrev pub ask_of : Descriptor → Ask
ask_of d = record { method = d.method; number = d.number; addr = d.addr; after = d.stores }

abbrev pub asked : AcceptedCall → Ask
asked call = record { method = call.method; number = call.number; addr = call.addr; after = call.after }

-- how often a submission was rejected because `MAX_CALLS` calls were pending
abbrev pub rejected_count : Trace → ℕ
rejected_count [] = 0
rejected_count (Away method number addr ∷ past) = rejected_count past + 1
rejected_count (_ ∷ past) = rejected_count past

-- The accepted calls are the submissions taken, in order: all of them, or those before the link failed.
pub record HasAcceptedAll (c : Connection) (submissions : List Descriptor) : Type 0 where
  pub rejected : List Ask
  pub in_order : map ask_of submissions ≡ map asked (taken (conn_trace c)) ++ rejected
  pub all : c.ended ≡ false → rejected ≡ []
  pub none_away : rejected_count (conn_trace c) ≡ 0

-- ---- the clock

-- the timestamps of the clock, in order
abbrev pub timestamps_in : Trace → List ℕ
timestamps_in [] = []
timestamps_in (Moment ms ∷ past) = timestamps_in past ++ ms ∷ []
timestamps_in (_ ∷ past) = timestamps_in past

-- the timestamp at which each call was taken, in order
abbrev pub timestamps_at_calls : Trace → List ℕ
timestamps_at_calls [] = []
timestamps_at_calls (Took call ∷ past) = timestamps_at_calls past ++ timestamp past ∷ []
timestamps_at_calls (_ ∷ past) = timestamps_at_calls past
