-- The state of a connection as a function of its trace: the events of one connection, latest first (this
-- project's own).
use Rattle.std.specs.Prelude.{ℕ, ◌-◌, ◌==◌, Bool, true, false, not, ◌&&◌, List, [], ◌∷◌, ◌++◌, filter, find, option_map, Option, Some, None, if◌then◌else◌}
use Rattle.std.specs.List.{list_any}
use Rattle.std.specs.Str.{bytes_eq}
use Rattle.mrpc_table.specs.Node.{Node}
use Rattle.mrpc_table.specs.declared.call.Call.{Call}
use Rattle.policy_redact.specs.Redacting.{cleared_call}
use Rattle.engine_core.specs.Answers.{Past, nothing, charged, drawn, counted}
use Rattle.engine_core.specs.Chains.{Chain, changed, is_named}
use Rattle.engine_core.specs.Policies.{initial_level, level_after_time, level_after_upgrade}
use Rattle.engine_core.specs.declared.op.Op.TheVariants.{Attach, Upgrade}
use Rattle.engine_core.specs.declared.policy.Policy.{Policy}
use Rattle.engine_core.specs.declared.policy.Policy.TheVariants.{Redact}
use Rattle.call_history.specs.declared.happening.Cause.TheVariants as cause
use Rattle.call_history.specs.declared.happening.Happening.{Happening}
use Rattle.call_history.specs.declared.happening.Happening.TheVariants.{Took, Op, Moment, Charged, Drawn, Counted, Redacted, Sent, Refused}
use Rattle.call_history.specs.declared.happening.AcceptedCall.{AcceptedCall}
use Rattle.call_history.specs.declared.happening.TookCopy.{TookCopy}
use Rattle.call_history.specs.declared.happening.TookCopy.TheVariants.{Copy, Malformed}

-- the trace of a connection: its events, latest first
abbrev pub Trace : Type 0
Trace = List Happening

-- ---- the chain

abbrev pub empty_chain : Chain
empty_chain = record { entries = []; attached = 0 }

-- the chain that results from all operations, applied in order
abbrev pub chain : Trace → Chain
chain [] = empty_chain
chain (Op step ∷ past) = changed step (chain past)
chain (_ ∷ past) = chain past

-- the policy of the entry with a name
abbrev pub policy_in_trace : List ℕ → Trace → Option Policy
policy_in_trace name past = option_map (λ e. e.policy) (find (is_named name) (chain past).entries)

-- ---- the clock and the buckets

-- the latest timestamp, in milliseconds; 0 before the first
abbrev pub timestamp : Trace → ℕ
timestamp [] = 0
timestamp (Moment ms ∷ past) = ms
timestamp (_ ∷ past) = timestamp past

-- `converted` is the level of a name's bucket under a new policy, `filled` the level some milliseconds later.
-- Both leave the level as it is if no entry has the name.
abbrev pub converted : Option Policy → Policy → ℕ → ℕ
converted None new level_in_trace = level_in_trace
converted (Some old) new level_in_trace = level_after_upgrade old new level_in_trace

abbrev pub filled : Option Policy → ℕ → ℕ → ℕ
filled None passed level_in_trace = level_in_trace
filled (Some policy) passed level_in_trace = level_after_time policy level_in_trace passed

-- The level of a name's bucket since the name's latest attachment. It starts full and time fills it. A charge
-- sets it to the level in the note, and an upgrade converts it. A policy that isn't a rate policy has level 0.
abbrev pub level_in_trace : List ℕ → Trace → ℕ
level_in_trace name [] = 0
level_in_trace name (Op (Attach at other label policy) ∷ past) =
    if bytes_eq other name then initial_level policy else level_in_trace name past
level_in_trace name (Op (Upgrade other label policy) ∷ past) =
    if bytes_eq other name then converted (policy_in_trace name past) policy (level_in_trace name past) else level_in_trace name past
level_in_trace name (Moment ms ∷ past) = filled (policy_in_trace name past) (ms - timestamp past) (level_in_trace name past)
level_in_trace name (Charged seq other left ∷ past) = if bytes_eq other name then left else level_in_trace name past
level_in_trace name (_ ∷ past) = level_in_trace name past

-- ---- notes

-- what the entry with a name noted of a call since its latest attachment
abbrev pub noted : List ℕ → ℕ → Trace → Past
noted name seq [] = nothing
noted name seq (Op (Attach at other label policy) ∷ past) = if bytes_eq other name then nothing else noted name seq past
noted name seq (Charged call other left ∷ past) =
    if (call == seq) && bytes_eq other name then charged else noted name seq past
noted name seq (Drawn call other window ticket ∷ past) =
    if (call == seq) && bytes_eq other name then drawn ticket else noted name seq past
noted name seq (Counted call other ∷ past) =
    if (call == seq) && bytes_eq other name then counted else noted name seq past
noted name seq (_ ∷ past) = noted name seq past

-- the calls that the entry with a name charged, drew for or counted since its latest attachment, latest first
abbrev pub noted_calls : List ℕ → Trace → List ℕ
noted_calls name [] = []
noted_calls name (Op (Attach at other label policy) ∷ past) = if bytes_eq other name then [] else noted_calls name past
noted_calls name (Charged call other left ∷ past) =
    if bytes_eq other name then call ∷ noted_calls name past else noted_calls name past
noted_calls name (Drawn call other window ticket ∷ past) =
    if bytes_eq other name then call ∷ noted_calls name past else noted_calls name past
noted_calls name (Counted call other ∷ past) =
    if bytes_eq other name then call ∷ noted_calls name past else noted_calls name past
noted_calls name (_ ∷ past) = noted_calls name past

-- ---- calls

-- the accepted calls, in order
abbrev pub taken : Trace → List AcceptedCall
taken [] = []
taken (Took call ∷ past) = taken past ++ call ∷ []
taken (_ ∷ past) = taken past

-- the event is the fate of a call: it was sent or refused
abbrev pub is_fate_of : ℕ → Happening → Bool
is_fate_of seq (Sent call bytes) = call == seq
is_fate_of seq (Refused call why) = call == seq
is_fate_of seq _ = false

-- the call is pending: accepted, neither sent nor refused
abbrev pub is_pending : Trace → AcceptedCall → Bool
is_pending past call = not (list_any (is_fate_of call.seq) past)

-- the pending calls, in order
abbrev pub pending_calls : Trace → List AcceptedCall
pending_calls past = filter (is_pending past) (taken past)

-- the event refuses a call because the link failed
abbrev pub is_transport_refusal : Happening → Bool
is_transport_refusal (Refused seq cause.Transport) = true
is_transport_refusal _ = false

-- the link has failed: a call was refused for that cause
abbrev pub has_failed : Trace → Bool
has_failed past = list_any is_transport_refusal past

-- ---- the form of a call

-- a call as policies see it
abbrev pub with_tree : ℕ → AcceptedCall → Node → Call
with_tree conn call tree = record {
  conn = conn;
  seq = call.seq;
  method = call.method;
  number = call.number;
  tree = tree;
}

-- the call with its copy, if it has one
abbrev pub copied : ℕ → AcceptedCall → TookCopy → Option Call
copied conn call (Copy tree) = Some (with_tree conn call tree)
copied conn call (Malformed reason place value) = None

-- a call after a policy's redaction; a policy that doesn't redact leaves it as it is
abbrev pub redacted : Option Policy → Call → Call
redacted (Some (Redact clears)) call = cleared_call clears call
redacted _ call = call

-- The form of a call: its copy without the fields that were cleared since. A malformed call has none.
abbrev pub form : ℕ → ℕ → Trace → Option Call
form conn seq [] = None
form conn seq (Took call ∷ past) = if call.seq == seq then copied conn call call.copy else form conn seq past
form conn seq (Redacted call name version ∷ past) =
    if call == seq then option_map (redacted (policy_in_trace name past)) (form conn seq past) else form conn seq past
form conn seq (_ ∷ past) = form conn seq past
