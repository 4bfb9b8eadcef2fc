-- The events that have an audit line (this project's own). Their numbers are in the ranges of their types, and their
-- names have the form of a name. An operation's policy is the one declared under its label. A copy is a normal tree
-- whose encoding has fewer than 2^64 bytes.
use Rattle.std.specs.Prelude.{◌≡◌, ℕ, ◌<◌, ◌^◌, ◌⊎◌, List, IsTrue, length, Option, Some, None}
use Rattle.mrpc_table.specs.Calls.{message_at}
use Rattle.mrpc_table.specs.Names.{is_name_form}
use Rattle.mrpc_table.specs.Node.{Node}
use Rattle.mrpc_table.specs.Normal.{IsNormal}
use Rattle.mrpc_table.specs.declared.table.Table.{Table}
use Rattle.wire_base.specs.Encoding.{encoding}
use Rattle.engine_core.specs.declared.op.Op.{Op as Step}
use Rattle.engine_core.specs.declared.op.Op.TheVariants.{Attach, Detach, Upgrade}
use Rattle.engine_core.specs.declared.policy.Policy.{Policy}
use Rattle.call_history.specs.declared.happening.Cause.{Cause}
use Rattle.call_history.specs.declared.happening.Cause.TheVariants as cause
use Rattle.call_history.specs.declared.happening.ConnectionEvent.{ConnectionEvent}
use Rattle.call_history.specs.declared.happening.Happening.{Happening}
use Rattle.call_history.specs.declared.happening.Happening.TheVariants.{Took, Away, Op, Moment, Charged, Drawn, Counted, Redacted, Sent, Refused}
use Rattle.call_history.specs.declared.happening.AcceptedCall.{AcceptedCall}
use Rattle.call_history.specs.declared.happening.TookCopy.{TookCopy}
use Rattle.call_history.specs.declared.happening.TookCopy.TheVariants.{Copy, Malformed}
use Rattle.policy_declarations.specs.Declarations.{Declared}
use Rattle.audit_text.specs.Labels.{policy_under}
use Rattle.audit_text.specs.Lines.{transport}
use Rattle.audit_text.specs.declared.holding.Holding.{Holding}

-- a letter or `_`, and then letters, digits and `_`, of any length
abbrev pub HasNameForm : List ℕ → Type 0
HasNameForm name = IsTrue (is_name_form name)

-- ---- an operation

-- the policy is the one declared under the label
pub record IsDeclared (declared : Declared) (label : List ℕ) (policy : Policy) : Type 0 where
  pub form : HasNameForm label
  pub under : policy_under label declared ≡ Some policy

abbrev pub IsWritableOp : Declared → Step → Type 0
IsWritableOp declared (Attach at name label policy) = (at < 2 ^ 32) × HasNameForm name
    × IsDeclared declared label policy
IsWritableOp declared (Detach name) = HasNameForm name
IsWritableOp declared (Upgrade name label policy) = HasNameForm name × IsDeclared declared label policy

-- ---- an accepted call

-- a copy is a normal tree of the call's message, and its encoding has fewer than 2^64 bytes
pub record IsShortCopy (T : Table) (call : AcceptedCall) (tree : Node) : Type 0 where
  pub method : call.method < length T.methods
  pub normal : IsNormal T (message_at T call.method call.number) tree
  pub short : length (encoding T (message_at T call.method call.number) tree) < 2 ^ 64

abbrev pub IsWritableCopy : Table → AcceptedCall → TookCopy → Type 0
IsWritableCopy T call (Copy tree) = IsShortCopy T call tree
IsWritableCopy T call (Malformed reason place value) = (place < 2 ^ 64) × (value < 2 ^ 64)

pub record IsWritableCall (T : Table) (call : AcceptedCall) : Type 0 where
  pub seq : call.seq < 2 ^ 32
  pub method : call.method < 2 ^ 16
  pub number : call.number < 2 ^ 32
  pub addr : call.addr < 2 ^ 64
  pub after : call.after < 2 ^ 64
  pub count : call.count < 2 ^ 64
  pub copy : IsWritableCopy T call call.copy

-- ---- a refusal

abbrev pub IsWritableCause : Cause → Type 0
IsWritableCause cause.Malformed = Unit {0}
IsWritableCause (cause.Access name version rule) = HasNameForm name × (version < 2 ^ 32) × HasNameForm rule
IsWritableCause (cause.Rate name left cost) = HasNameForm name × (left < 2 ^ 64) × (cost < 2 ^ 64)
IsWritableCause (cause.Quota name ticket cap) = HasNameForm name × (ticket < 2 ^ 64) × (cap < 2 ^ 64)
IsWritableCause cause.Transport = Unit {0}

-- ---- events

-- the event can be written, under a table and declared policies
abbrev pub CanBeWritten : Table → Declared → Happening → Type 0
CanBeWritten T declared (Took call) = IsWritableCall T call
CanBeWritten T declared (Away method number addr) = (method < 2 ^ 16) × (number < 2 ^ 32) × (addr < 2 ^ 64)
CanBeWritten T declared (Op step) = IsWritableOp declared step
CanBeWritten T declared (Moment ms) = ms < 2 ^ 64
CanBeWritten T declared (Charged seq name left) = (seq < 2 ^ 32) × HasNameForm name × (left < 2 ^ 64)
CanBeWritten T declared (Drawn seq name window ticket) =
    (seq < 2 ^ 32) × HasNameForm name × (window < 2 ^ 64) × (ticket < 2 ^ 64)
CanBeWritten T declared (Counted seq name) = (seq < 2 ^ 32) × HasNameForm name
CanBeWritten T declared (Redacted seq name version) = (seq < 2 ^ 32) × HasNameForm name × (version < 2 ^ 32)
CanBeWritten T declared (Sent seq bytes) = (seq < 2 ^ 32) × (bytes < 2 ^ 64)
CanBeWritten T declared (Refused seq why) = (seq < 2 ^ 32) × IsWritableCause why

pub record IsWritable (T : Table) (declared : Declared) (x : ConnectionEvent) : Type 0 where
  pub conn : x.conn < 2 ^ 32
  pub told : CanBeWritten T declared x.what

-- ---- pending calls

-- the name of an engine or of the transport queue
abbrev pub IsQueueName : List ℕ → Type 0
IsQueueName name = HasNameForm name ⊎ (name ≡ transport)

abbrev pub IsWritableHolding : Option Holding → Type 0
IsWritableHolding None = Unit {0}
IsWritableHolding (Some holding) = (holding.level < 2 ^ 64) × (holding.cost < 2 ^ 64)

-- the numbers of a pending call are in the ranges of their types, and its queue has a name
pub record IsWritablePendingCall (call_conn call_seq place : ℕ) (queue : List ℕ) (held : Option Holding) : Type 0 where
  pub conn : call_conn < 2 ^ 32
  pub seq : call_seq < 2 ^ 32
  pub position : place < 2 ^ 32
  pub name : IsQueueName queue
  pub holding : IsWritableHolding held
