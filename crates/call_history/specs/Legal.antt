-- Legal histories (this project's own).
use Rattle.std.specs.Prelude.{◌≡◌, ℕ, ◌<◌, ◌==◌, List, [], ◌∷◌, true, reverse, Some, None}
use Rattle.std.specs.List.{filter_map}
use Rattle.std.specs.Prelude.{if◌then◌else◌}
use Rattle.mrpc_table.specs.declared.table.Table.{Table}
use Rattle.mrpc_table.specs.Calls.{IsCallOf}
use Rattle.mrpc_table.specs.declared.call.Call.{Call}
use Rattle.engine_core.specs.declared.policy.Policy.{Policy}
use Rattle.call_history.specs.Trace.{Trace, policy_in_trace, pending_calls, has_failed, form}
use Rattle.call_history.specs.Rules.{JudgeContext, CanFollow, cap_of}
use Rattle.call_history.specs.declared.happening.ConnectionEvent.{ConnectionEvent}
use Rattle.call_history.specs.declared.happening.Happening.{Happening}
use Rattle.call_history.specs.declared.happening.Happening.TheVariants.{Took, Drawn}
use Rattle.call_history.specs.declared.happening.AcceptedCall.{AcceptedCall}
use Rattle.call_history.specs.declared.happening.TookCopy.{TookCopy}
use Rattle.call_history.specs.declared.happening.TookCopy.TheVariants.{Copy, Malformed}

-- a history of all connections, in order
abbrev pub History : Type 0
History = List ConnectionEvent

-- the events of one connection, in order
abbrev pub events_of : ℕ → History → List Happening
events_of conn h = filter_map (λ x. if x.conn == conn then Some x.what else None) h

-- the trace of one connection: its events, latest first
abbrev pub trace_of : ℕ → History → Trace
trace_of conn h = reverse (events_of conn h)

-- each event follows by the rules; a refusal may still be owed
abbrev pub IsLegalPrefix : JudgeContext → Trace → Type 0
IsLegalPrefix u [] = Unit {0}
IsLegalPrefix u (last ∷ past) = IsLegalPrefix u past × CanFollow u past last

-- the call has no copy: it is malformed
abbrev pub HasNoCopy : TookCopy → Type 0
HasNoCopy (Copy tree) = ⊥
HasNoCopy (Malformed reason place value) = Unit {0}

-- the latest event accepts a malformed call, whose refusal is owed
abbrev pub HasMalformedObligation : Trace → Type 0
HasMalformedObligation (Took call ∷ past) = HasNoCopy call.copy
HasMalformedObligation _ = ⊥

-- the ticket isn't below the cap of the quota with this name
pub record IsPastCap (past : Trace) (name : List ℕ) (ticket : ℕ) : Type 0 where
  pub policy : Policy
  pub cap : ℕ
  pub is_policy : policy_in_trace name past ≡ Some policy
  pub is_cap : cap_of policy ≡ Some cap
  pub over : (ticket < cap) → ⊥

-- the latest event draws a ticket that isn't below the cap, and the call's refusal is owed
abbrev pub HasQuotaObligation : Trace → Type 0
HasQuotaObligation (Drawn seq name window ticket ∷ past) = IsPastCap past name ticket
HasQuotaObligation _ = ⊥

-- the link has failed and calls are pending, whose refusals are owed
pub record HasLinkObligation (past : Trace) : Type 0 where
  pub failed : has_failed past ≡ true
  pub some_pending : pending_calls past ≡ [] → ⊥

-- no refusal is owed
pub record HasNoObligation (past : Trace) : Type 0 where
  pub malformed : HasMalformedObligation past → ⊥
  pub quota : HasQuotaObligation past → ⊥
  pub link : HasLinkObligation past → ⊥

-- the trace is legal: each event follows by the rules, and no refusal is owed
pub record IsLegalTrace (u : JudgeContext) (past : Trace) : Type 0 where
  pub prefix : IsLegalPrefix u past
  pub closed : HasNoObligation past

-- an accepted call has a form: a call of its method and kind with a normal tree
pub record HasForm (u : JudgeContext) (past : Trace) (call : AcceptedCall) : Type 0 where
  pub now : Call
  pub is_form : form u.conn call.seq past ≡ Some now
  pub of_table : IsCallOf u.table now
  pub method : now.method ≡ call.method
  pub number : now.number ≡ call.number

-- a history is legal if the trace of each connection is legal
abbrev pub IsLegal : Table → ℕ → History → Type 0
IsLegal T limit h = (conn : ℕ) → IsLegalTrace (record { conn = conn; table = T; limit = limit }) (trace_of conn h)
