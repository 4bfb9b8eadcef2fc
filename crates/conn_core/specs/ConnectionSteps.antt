-- The transitions of a connection, as the clauses of its methods state them (this project's own).
use Rattle.std.specs.Prelude.{◌≡◌, ℕ, ◌<◌, ◌⊎◌, List, [], ◌++◌, Option, IfSome, IsSomeAnd}
use Rattle.std.specs.List.{sum_by}
use Rattle.mrpc_base.specs.declared.tickets.TheConstants.{WINDOWS}
use Rattle.mrpc_table.specs.Weight.{weight}
use Rattle.mrpc_table.specs.declared.call.Call.{Call}
use Rattle.engine_core.specs.Marks.{PendingCall}
use Rattle.engine_core.specs.Working.{AreTenantsKept, IsLaterState}
use Rattle.engine_core.specs.declared.op.Op.{Op}
use Rattle.engine_core.specs.declared.op.Op.TheVariants.{Attach, Detach, Upgrade}
use Rattle.engine_core.specs.declared.outcome.Outcome.{Outcome}
use Rattle.engine_core.specs.declared.outcome.Outcome.TheVariants.{Passed, Held, Refused, Redacted}
use Rattle.engine_core.specs.declared.policy.Policy.{Policy}
use Rattle.graph_copy.specs.Copies.{HasOnlyLoaded}
use Rattle.call_history.specs.Draining.{HasPartlyDrained}
use Rattle.call_history.specs.Transitions.{IsTransition, ConnState, Transition, IsReady, accepts, fails, sends}
use Rattle.call_history.specs.Frames.{frame_of}
use Rattle.call_history.specs.Loads.{IsLoaded, Loads}
use Rattle.call_history.specs.Rules.{JudgeContext}
use Rattle.call_history.specs.Tickets.{tickets_of_trace}
use Rattle.call_history.specs.declared.happening.AcceptedCall.{AcceptedCall}
use Rattle.conn_core.specs.Connections.{Connection, conn_trace, conn_state, conn_frames, judge_context}
use Rattle.conn_core.specs.declared.answers.Ask.{Ask}
use Rattle.conn_core.specs.declared.answers.Sending.{Sending}
use Rattle.conn_core.specs.declared.answers.Sending.TheVariants.{Nothing, Sent, Failed, Memory}

-- the policy of an operation, if it has one
abbrev pub IfPolicy : Op → (Policy → Type 0) → Type 0
IfPolicy (Attach at name label policy) Holds = Holds policy
IfPolicy (Detach name) Holds = Unit {0}
IfPolicy (Upgrade name label policy) Holds = Holds policy

-- a transition leads from a connection to its later state
abbrev pub IsStep : Connection → Transition → Connection → Type 0
IsStep before event after = IsTransition (judge_context before) (conn_state before) event (conn_state after)

-- a submission was accepted under a number, by these loads from a heap of `H` words
pub record IsAcceptance (H : ℕ) (ask : Ask) (seq : ℕ) (own : Loads) (before after : Connection) : Type 0 where
  pub call : AcceptedCall
  pub number : call.seq ≡ seq
  pub method : call.method ≡ ask.method
  pub request : call.number ≡ ask.number
  pub address : call.addr ≡ ask.addr
  pub stores : call.after ≡ ask.after
  pub loaded : IsLoaded before.table H before.limit call own
  pub step : IsStep before (accepts call) after

-- a heap's reader: unchanged, or it reserved memory and then made these loads, in order
abbrev pub IsReadBy : {W : Type 0} → (W → W → Type 0) → (W → ℕ → ℕ → W → Type 0) → W → Loads → W → Type 0
IsReadBy after_room after_load old own new =
    ((own ≡ []) × (new ≡ old)) ⊎ HasOnlyLoaded after_room after_load old own new

-- the call of a number was sent
abbrev pub OnSent : Sending → (ℕ → Type 0) → Type 0
OnSent Nothing Holds = Unit {0}
OnSent (Sent seq) Holds = Holds seq
OnSent Failed Holds = Unit {0}
OnSent Memory Holds = Unit {0}

-- the call was sent, in a frame of some length
abbrev pub IsSend : Connection → ℕ → Connection → Type 0
IsSend before seq after = (bytes : ℕ) × IsStep before (sends seq bytes) after

-- the frames that were sent on a link are those that the history adds, and no others
abbrev pub HasHandedOver : Connection → Connection → List (List ℕ) → List (List ℕ) → Type 0
HasHandedOver before after handed handed' =
    (more : List (List ℕ)) × (conn_frames after ≡ conn_frames before ++ more) × (handed' ≡ handed ++ more)

-- A link failed at the frame of the first ready call. `Refused` is the relation of a failed send of a frame.
pub record HasFailedSend {L : Type 0} (Refused : L → List ℕ → L → Type 0) (before : Connection)
    (old new : L) : Type 0 where
  pub seq : ℕ
  pub bytes : ℕ
  pub ready : IsReady (judge_context before) (conn_state before) seq bytes
  pub refused : Refused old (frame_of before.table ready.sent) new

-- a failure of the link in the state `between` refuses the pending calls, and the connection is then `after`
abbrev pub IsFailureFrom : Connection → ConnState → Connection → Type 0
IsFailureFrom before between after = IsTransition (judge_context before) between fails (conn_state after)

-- the frame of a call of the connection
abbrev pub frame_in : Connection → Call → List ℕ
frame_in before call = frame_of before.table call

-- A link failed at the frame of the first ready call, after the transitions that `Front` relates; the calls that were
-- pending then are refused. `Refused` is the relation of a failed send of a frame. `handed_of` returns the sent frames,
-- and `faults_of` the number of failures. `Since` means that its second argument is a later state of the first.
pub record HasFailedAfter {L : Type 0} (Front : JudgeContext → ConnState → ConnState → Type 0) (Refused : L → List ℕ → L
    → Type 0)
    (handed_of : L → List (List ℕ)) (faults_of : L → ℕ) (Since : L → L → Type 0) (before after : Connection)
    (old new : L) : Type 0 where
  -- the connection and the link right before that send
  pub between : ConnState
  pub link : L
  pub front : Front (judge_context before) (conn_state before) between
  -- the number of the call and the size of its frame
  pub seq : ℕ
  pub bytes : ℕ
  pub ready : IsReady (judge_context before) between seq bytes
  pub failed : IsFailureFrom before between after
  pub refused : Refused link (frame_in before ready.sent) new
  -- the failed send adds no frame, and the sends before it don't fail
  pub same_handed : handed_of link ≡ handed_of new
  pub same_faults : faults_of link ≡ faults_of old
  pub since : IsLaterState Since old link

-- a drain as far as it went until the link failed
abbrev pub HasFailedInDrain : {L : Type 0} → (L → List ℕ → L → Type 0) → (L → List (List ℕ)) → (L → ℕ)
    → (L → L → Type 0)
    → Connection → Connection → L → L → Type 0
HasFailedInDrain Refuses handed_of faults_of Since = HasFailedAfter HasPartlyDrained Refuses handed_of faults_of Since

-- the tickets of a tenant's window that were drawn on the connection
abbrev pub drawn_tickets_on : ℕ → ℕ → Connection → List ℕ
drawn_tickets_on tenant window c = tickets_of_trace tenant window (conn_trace c)

-- as many tickets as the connection drew meanwhile were added to the earlier ones, the same ones in the same order
abbrev pub HasDrawnMore : ℕ → ℕ → Connection → Connection → List ℕ → List ℕ → Type 0
HasDrawnMore tenant window before after earlier now = (more : List ℕ)
    × (drawn_tickets_on tenant window after ≡ drawn_tickets_on tenant window before ++ more) × (now ≡ earlier ++ more)

-- if the drawn tickets of a tenant's window are known, exactly those that the history adds were drawn since
abbrev pub HasDrawnInWindow : ℕ → ℕ → Connection → Connection → Option (List ℕ) → Option (List ℕ) → Type 0
HasDrawnInWindow tenant window before after drawn drawn' =
    IfSome drawn' (λ now. IsSomeAnd drawn (λ earlier. HasDrawnMore tenant window before after earlier now))

-- The tickets after a transition: exactly those that the history adds were drawn, in windows of known tenants. `Knows`
-- says which tenants have tickets, and `drawn_of` returns the drawn tickets. `Since` means that its second argument is
-- a later state of the first.
pub record HasDrawnTickets {Q : Type 0} (Knows : Q → ℕ → Type 0) (drawn_of : Q → ℕ → ℕ → Option (List ℕ))
    (Since : Q → Q → Type 0) (before after : Connection) (old new : Q) : Type 0 where
  pub drawn : (tenant window : ℕ) → Knows old tenant → window < WINDOWS
      → HasDrawnInWindow tenant window before after (drawn_of old tenant window) (drawn_of new tenant window)
  pub knows : AreTenantsKept Knows old new
  pub since : IsLaterState Since old new

-- the number of parts of the trees of some calls
abbrev pub call_parts : List PendingCall → ℕ
call_parts calls = sum_by (λ s. weight s.call.tree) calls

-- the number of parts of the trees of the pending calls
abbrev pub conn_parts : Connection → ℕ
conn_parts c = call_parts c.chain.calls

-- how many times a turn cleared fields
abbrev pub redactions : Outcome → ℕ
redactions (Passed noted) = 0
redactions (Held level cost) = 0
redactions (Refused noted why) = 0
redactions Redacted = 1
