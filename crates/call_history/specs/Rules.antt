-- Which event can follow a trace, rule by rule (this project's own). Each rule looks at the trace alone, latest
-- first.
use Rattle.std.specs.Prelude.{◌≡◌, ℕ, ◌+◌, ◌<◌, ◌≤◌, true, List, [], ◌∷◌, ◌++◌, length, map, All, Contains, Option, Some, None, IsSomeAnd}
use Rattle.mrpc_table.specs.Calls.{message_at}
use Rattle.mrpc_table.specs.Normal.{IsNormal}
use Rattle.mrpc_table.specs.declared.table.Table.{Table}
use Rattle.wire_base.specs.Encoding.{encoding}
use Rattle.frame_transport.specs.declared.format.TheConstants.{HEADER_LEN}
use Rattle.graph_form.specs.declared.reason.Reason.TheVariants.{NoMethod}
use Rattle.policy_access.specs.Verdict.{AccessPolicy, rule_name}
use Rattle.mrpc_table.specs.declared.call.Call.{Call}
use Rattle.engine_core.specs.Answers.{Answer, IsEntryAnswer, pass, deny, refuse, over, note, redact}
use Rattle.engine_core.specs.Chains.{HasChanged, Entry}
use Rattle.engine_core.specs.declared.outcome.Noted.{Noted}
use Rattle.engine_core.specs.declared.outcome.Noted.TheVariants as notes
use Rattle.engine_core.specs.declared.policy.Policy.TheVariants.{Access, Quota}
use Rattle.engine_core.specs.declared.policy.Policy.{Policy}
use Rattle.call_history.specs.Trace.{Trace, chain, policy_in_trace, timestamp, level_in_trace, noted, noted_calls, taken, pending_calls, has_failed, form}
use Rattle.engine_core.specs.Chains.{changed}
use Rattle.call_history.specs.declared.happening.Cause.{Cause}
use Rattle.call_history.specs.declared.happening.Cause.TheVariants as cause
use Rattle.call_history.specs.declared.happening.Happening.{Happening}
use Rattle.call_history.specs.declared.happening.Happening.TheVariants.{Took, Away, Op, Moment, Charged, Drawn, Counted, Redacted, Sent, Refused}
use Rattle.call_history.specs.declared.happening.AcceptedCall.{AcceptedCall}
use Rattle.call_history.specs.declared.happening.TookCopy.{TookCopy}
use Rattle.call_history.specs.declared.happening.TookCopy.TheVariants.{Copy, Malformed}
use Rattle.engine_core.specs.declared.call_row.TheConstants.{MAX_CALLS}

-- The context in which a connection's events are judged: its number, its table, and its limit of loads.
pub record JudgeContext : Type 0 where
  pub conn : ℕ
  pub table : Table
  pub limit : ℕ

-- ---- numbering

-- A copy of a call is a normal tree of its message or malformed. The reason is `NoMethod` exactly if the table
-- lacks the method.
abbrev pub IsValidCopy : Table → AcceptedCall → TookCopy → Type 0
IsValidCopy T call (Copy tree) = (call.method < length T.methods) × IsNormal T (message_at T call.method call.number) tree
IsValidCopy T call (Malformed reason place value) =
    (reason ≡ NoMethod → length T.methods ≤ call.method) × (length T.methods ≤ call.method → reason ≡ NoMethod)

-- a call can be accepted: it has the next number, fewer than `MAX_CALLS` calls are pending, and its loads are
-- within the limit
pub record MayTake (u : JudgeContext) (past : Trace) (call : AcceptedCall) : Type 0 where
  pub number : call.seq ≡ length (taken past) + 1
  pub few : length (pending_calls past) < MAX_CALLS
  pub loads : call.count ≤ u.limit
  pub copy : IsValidCopy u.table call call.copy

-- (a) accepted calls are numbered, and a submission is rejected (`Away`) exactly if `MAX_CALLS` calls are pending
abbrev pub IsNumbered : JudgeContext → Trace → Happening → Type 0
IsNumbered u past (Took call) = MayTake u past call
IsNumbered u past (Away method number addr) = length (pending_calls past) ≡ MAX_CALLS
IsNumbered u past _ = Unit {0}

-- ---- malformed calls

-- (b) a malformed call is refused at once, and no other call has this cause
abbrev pub IsRefusedAtOnce : TookCopy → ℕ → Happening → Type 0
IsRefusedAtOnce (Copy tree) seq (Refused call cause.Malformed) = ⊥
IsRefusedAtOnce (Copy tree) seq _ = Unit {0}
IsRefusedAtOnce (Malformed reason place value) seq next = next ≡ Refused seq cause.Malformed

-- the event doesn't refuse a call as malformed
abbrev pub IsNoMalformedRefusal : Happening → Type 0
IsNoMalformedRefusal (Refused seq cause.Malformed) = ⊥
IsNoMalformedRefusal _ = Unit {0}

-- the next event refuses a malformed call, and no other event refuses a call as malformed
abbrev pub IsMalformedRefusedAtOnce : Trace → Happening → Type 0
IsMalformedRefusedAtOnce (Took call ∷ past) next = IsRefusedAtOnce call.copy call.seq next
IsMalformedRefusedAtOnce _ next = IsNoMalformedRefusal next

-- ---- the chain and the clock

-- (c) the chain accepts each operation, and timestamps increase
abbrev pub IsChainPreserved : Trace → Happening → Type 0
IsChainPreserved past (Op step) = HasChanged (chain past) step (changed step (chain past))
IsChainPreserved past (Moment ms) = timestamp past < ms
IsChainPreserved past _ = Unit {0}

-- ---- answers of entries

-- what an entry answers to a call, given the trace
abbrev pub IsAnswerInTrace : JudgeContext → Trace → Entry → ℕ → Answer → Type 0
IsAnswerInTrace u past e seq answer = IsSomeAnd (form u.conn seq past)
    (λ call. IsEntryAnswer e.policy (level_in_trace e.name past) (timestamp past) call (noted e.name seq past) answer)

abbrev pub IsAllowedInTrace : JudgeContext → Trace → ℕ → Entry → Type 0
IsAllowedInTrace u past seq e = IsAnswerInTrace u past e seq pass

-- A pending call is at the entry with this name: all entries before it let the call pass.
pub record IsAt (u : JudgeContext) (past : Trace) (seq : ℕ) (name : List ℕ) (e : Entry) : Type 0 where
  pub front : List Entry
  pub back : List Entry
  pub entries : (chain past).entries ≡ front ++ e ∷ back
  pub named : e.name ≡ name
  pub is_pending : Contains (map (λ call. call.seq) (pending_calls past)) seq
  pub allowed : All (IsAllowedInTrace u past seq) front

-- an entry gives a pending call this answer
pub record IsPendingAnswer (u : JudgeContext) (past : Trace) (seq : ℕ) (name : List ℕ) (answer : Answer) : Type 0 where
  pub entry : Entry
  pub at : IsAt u past seq name entry
  pub gives : IsAnswerInTrace u past entry seq answer

-- ---- notes

-- a note is due, and the entry has noted only calls with smaller numbers since its attachment
pub record IsNoteDue (u : JudgeContext) (past : Trace) (seq : ℕ) (name : List ℕ) (n : Noted) : Type 0 where
  pub meets : IsPendingAnswer u past seq name (note n)
  pub ascends : All (λ other. other < seq) (noted_calls name past)

-- a redaction by the entry's present version is due
pub record IsRedactionDue (u : JudgeContext) (past : Trace) (seq : ℕ) (name : List ℕ) (version : ℕ) : Type 0 where
  pub entry : Entry
  pub at : IsAt u past seq name entry
  pub gives : IsAnswerInTrace u past entry seq redact
  pub present : entry.version ≡ version

-- the cap of a policy, if it is a quota
abbrev pub cap_of : Policy → Option ℕ
cap_of (Quota tenant per cap) = Some cap
cap_of _ = None

-- (d) each note of a call is due by the answer of its entry
abbrev pub IsNotedAsDue : JudgeContext → Trace → Happening → Type 0
IsNotedAsDue u past (Charged seq name left) = IsNoteDue u past seq name (notes.Charged left)
IsNotedAsDue u past (Drawn seq name window ticket) = IsNoteDue u past seq name (notes.Drawn window ticket)
IsNotedAsDue u past (Counted seq name) = IsNoteDue u past seq name notes.Counted
IsNotedAsDue u past (Redacted seq name version) = IsRedactionDue u past seq name version
IsNotedAsDue u past _ = Unit {0}

-- if a drawn ticket isn't below the cap, the next event refuses the call
abbrev pub IsRefusedIfPastCap : Trace → Happening → Type 0
IsRefusedIfPastCap (Drawn seq name window ticket ∷ past) next = (policy : Policy) (cap : ℕ)
    → policy_in_trace name past ≡ Some policy → cap_of policy ≡ Some cap → cap ≤ ticket
    → next ≡ Refused seq (cause.Quota name ticket cap)
IsRefusedIfPastCap _ next = Unit {0}

-- ---- sends

-- the encoding of the form of a call
abbrev pub payload : Table → Call → List ℕ
payload T call = encoding T (message_at T call.method call.number) call.tree

-- (e) the oldest pending call is sent if every entry lets it pass; its frame has the length of its form
pub record IsSentNext (u : JudgeContext) (past : Trace) (seq bytes : ℕ) : Type 0 where
  pub call : AcceptedCall
  pub others : List AcceptedCall
  pub first : pending_calls past ≡ call ∷ others
  pub number : call.seq ≡ seq
  pub allowed : All (IsAllowedInTrace u past seq) (chain past).entries
  pub sent : Call
  pub is_form : form u.conn seq past ≡ Some sent
  pub long : bytes ≡ HEADER_LEN + length (payload u.table sent)

abbrev pub IsSentInOrder : JudgeContext → Trace → Happening → Type 0
IsSentInOrder u past (Sent seq bytes) = IsSentNext u past seq bytes
IsSentInOrder u past _ = Unit {0}

-- ---- refusals

-- an entry denies a call by a rule, in its present version
pub record IsDenied (u : JudgeContext) (past : Trace) (seq : ℕ) (name : List ℕ) (version : ℕ) (rule : List ℕ) : Type 0 where
  pub entry : Entry
  pub at : IsAt u past seq name entry
  pub present : entry.version ≡ version
  pub policy : AccessPolicy
  pub is_policy : entry.policy ≡ Access policy
  pub place : ℕ
  pub gives : IsAnswerInTrace u past entry seq (deny place)
  pub names : rule ≡ rule_name policy place

-- (f) a refusal by an entry is the entry's answer
abbrev pub IsAnswered : JudgeContext → Trace → ℕ → Cause → Type 0
IsAnswered u past seq (cause.Access name version rule) = IsDenied u past seq name version rule
IsAnswered u past seq (cause.Rate name left cost) = IsPendingAnswer u past seq name (refuse left cost)
IsAnswered u past seq (cause.Quota name ticket cap) = IsPendingAnswer u past seq name (over ticket cap)
IsAnswered u past seq _ = Unit {0}

abbrev pub IsRefusedAsAnswered : JudgeContext → Trace → Happening → Type 0
IsRefusedAsAnswered u past (Refused seq why) = IsAnswered u past seq why
IsRefusedAsAnswered u past _ = Unit {0}

-- ---- the end of a link

-- the oldest pending call has this number
abbrev pub IsOldest : List AcceptedCall → ℕ → Type 0
IsOldest [] seq = ⊥
IsOldest (call ∷ others) seq = call.seq ≡ seq

-- an operation or a timestamp
abbrev pub IsQuiet : Happening → Type 0
IsQuiet (Op step) = Unit {0}
IsQuiet (Moment ms) = Unit {0}
IsQuiet _ = ⊥

-- after a refusal for the link, the other pending calls are refused for it, in order; then only operations and
-- timestamps follow
abbrev pub IsNextAfterFailure : List AcceptedCall → Happening → Type 0
IsNextAfterFailure [] next = IsQuiet next
IsNextAfterFailure (call ∷ others) next = next ≡ Refused call.seq cause.Transport

-- (g) a failed link refuses the pending calls, in order
abbrev pub IsLinkRefusal : Trace → Happening → Type 0
IsLinkRefusal past (Refused seq cause.Transport) = IsOldest (pending_calls past) seq
IsLinkRefusal past _ = Unit {0}

abbrev pub IsEndedWithLink : Trace → Happening → Type 0
IsEndedWithLink past next = (has_failed past ≡ true → IsNextAfterFailure (pending_calls past) next) × IsLinkRefusal past next

-- ---- all rules

-- the event can follow the trace by all rules
pub record CanFollow (u : JudgeContext) (past : Trace) (next : Happening) : Type 0 where
  pub numbered : IsNumbered u past next
  pub malformed : IsMalformedRefusedAtOnce past next
  pub chain_kept : IsChainPreserved past next
  pub notes_due : IsNotedAsDue u past next
  pub drawn_refused : IsRefusedIfPastCap past next
  pub in_order : IsSentInOrder u past next
  pub answered : IsRefusedAsAnswered u past next
  pub link_end : IsEndedWithLink past next
