-- What a checker knows of a connection: the state that its events lead to (this project's own).
use Rattle.std.specs.Prelude.{◌≡◌, ℕ, ◌+◌, ◌<◌, ◌≤◌, ◌^◌, max, List, [], ◌∷◌, ◌++◌, All, length, map, min, slice_get, Some, vec_capacity}
use Rattle.std.specs.List.{AllZip}
use Rattle.std.specs.VecDeque.{deque_capacity}
use Rattle.mrpc_table.specs.Calls.{IsCallOf}
use Rattle.mrpc_table.specs.declared.table.Table.{Table}
use Rattle.engine_core.specs.Chains.{Entry}
use Rattle.engine_core.specs.Engines.{EngineParts}
use Rattle.engine_core.specs.Policies.{IsPolicy}
use Rattle.engine_core.specs.declared.TheConstants.{MAX_ENGINES}
use Rattle.engine_core.specs.declared.call_row.TheConstants.{MAX_CALLS}
use Rattle.engine_core.specs.declared.policy.Policy.{Policy}
use Rattle.engine_core.specs.declared.op.Op.{Op as Step}
use Rattle.engine_core.specs.declared.op.Op.TheVariants.{Attach, Detach, Upgrade}
use Rattle.call_history.specs.Trace.{Trace, chain, has_failed, noted_calls, policy_in_trace, pending_calls, taken}
use Rattle.call_history.specs.Legal.{HasMalformedObligation, HasQuotaObligation, HasNoCopy}
use Rattle.call_history.specs.Rules.{IsValidCopy, IsChainPreserved, IsNotedAsDue, IsRefusedAsAnswered, IsSentInOrder, JudgeContext, cap_of}
use Rattle.call_history.specs.declared.happening.Cause.{Cause}
use Rattle.call_history.specs.declared.happening.Cause.TheVariants as cause
use Rattle.call_history.specs.declared.happening.Happening.{Happening}
use Rattle.call_history.specs.declared.happening.Happening.TheVariants.{Took, Op, Drawn, Refused}
use Rattle.call_history.specs.declared.happening.AcceptedCall.{AcceptedCall}
use Rattle.call_history.specs.declared.happening.TookCopy.{TookCopy}
use Rattle.call_history.specs.declared.happening.TookCopy.TheVariants.{Copy, Malformed}
use Rattle.engine_core.specs.Marks.{seqs_of}
use Rattle.audit_rules.specs.Asking.{IsRising, IsRowOfTrace}
use Rattle.audit_rules.specs.declared.checker.Checker.{Checker}
use Rattle.audit_rules.specs.declared.obligation.Obligation.{Obligation}
use Rattle.audit_rules.specs.declared.rule.Rule.{Rule}
use Rattle.audit_rules.specs.declared.rule.Rule.TheVariants.{C, D, E, F}
use Rattle.audit_rules.specs.declared.obligation.Obligation.TheVariants.{Nothing, RefuseMalformed, RefuseOverCap}

-- the context under which the events of its connection are judged
abbrev pub checker_context : Table → Checker → JudgeContext
checker_context T c = record { conn = c.conn; table = T; limit = c.limit }

-- ---- events that it can check

-- a copy is a normal tree of the message of a method of the table
abbrev pub IsCopyBy : Table → AcceptedCall → TookCopy → Type 0
IsCopyBy T call (Copy tree) = IsValidCopy T call (Copy tree)
IsCopyBy T call (Malformed reason place value) = Unit {0}

-- the numbers of the policy are in their ranges
abbrev pub IsReadableOp : Step → Type 0
IsReadableOp (Attach at name label policy) = IsPolicy policy
IsReadableOp (Detach name) = Unit {0}
IsReadableOp (Upgrade name label policy) = IsPolicy policy

-- what is known of an event before it is checked
abbrev pub IsReadable : Table → Happening → Type 0
IsReadable T (Took call) = IsCopyBy T call call.copy
IsReadable T (Op step) = IsReadableOp step
IsReadable T _ = Unit {0}

-- ---- what it knows

-- the numbers of the pending calls; a malformed call that awaits its refusal is one of them, and has no copy
abbrev pub with_malformed : Obligation → List ℕ → List ℕ
with_malformed Nothing numbers = numbers
with_malformed (RefuseMalformed seq) numbers = numbers ++ seq ∷ []
with_malformed (RefuseOverCap seq at ticket cap) numbers = numbers

abbrev pub pending_numbers : Checker → List ℕ
pending_numbers c = with_malformed c.left (seqs_of c.calls)

-- no malformed call awaits its refusal
abbrev pub HasNoMalformed : Obligation → Type 0
HasNoMalformed Nothing = Unit {0}
HasNoMalformed (RefuseMalformed seq) = ⊥
HasNoMalformed (RefuseOverCap seq at ticket cap) = Unit {0}

-- the code's own: the cause is malformed, or no malformed call awaits its refusal
abbrev pub IsUnblockedCause : Cause → Obligation → Type 0
IsUnblockedCause cause.Malformed left = Unit {0}
IsUnblockedCause _ left = HasNoMalformed left

-- the code's own: the event is a refusal as malformed, or no malformed call awaits its refusal
abbrev pub IsUnblocked : Happening → Obligation → Type 0
IsUnblocked (Refused seq why) left = IsUnblockedCause why left
IsUnblocked _ left = HasNoMalformed left

-- the greatest of some numbers, 0 if there is none
abbrev pub greatest : List ℕ → ℕ
greatest [] = 0
greatest (n ∷ numbers) = max n (greatest numbers)

-- the greatest number of a call that an engine has noted since its attachment; 0 if there is none
abbrev pub IsLatest : Trace → EngineParts → ℕ → Type 0
IsLatest past e n = n ≡ greatest (noted_calls e.entry.name past)

-- no call's refusal is due: the last event is neither a malformed call nor a ticket past the cap
abbrev pub IsNoRefusalDue : Trace → Type 0
IsNoRefusalDue past = (HasMalformedObligation past → ⊥) × (HasQuotaObligation past → ⊥)

-- the last event accepts a malformed call, of this number: its refusal is due
pub record IsMalformedRefusalDue (past : Trace) (seq : ℕ) : Type 0 where
  pub call : AcceptedCall
  pub earlier : Trace
  pub is_last : past ≡ Took call ∷ earlier
  pub malformed : HasNoCopy call.copy
  pub number : call.seq ≡ seq

-- the last event draws a ticket for this call at the entry of this position, and the ticket isn't below the cap of the
-- entry's quota: the call's refusal is due
pub record IsQuotaRefusalDue (past : Trace) (seq at ticket cap : ℕ) : Type 0 where
  pub entry : Entry
  pub window : ℕ
  pub earlier : Trace
  pub is_last : past ≡ Drawn seq entry.name window ticket ∷ earlier
  pub past_cap : cap ≤ ticket
  pub position : slice_get (chain past).entries at ≡ Some entry
  pub policy : Policy
  pub is_policy : policy_in_trace entry.name earlier ≡ Some policy
  pub is_cap : cap_of policy ≡ Some cap

-- what the last event leaves open, other than the refusals of a failed link
abbrev pub IsObligationAfter : Trace → Obligation → Type 0
IsObligationAfter past Nothing = IsNoRefusalDue past
IsObligationAfter past (RefuseMalformed seq) = IsMalformedRefusalDue past seq
IsObligationAfter past (RefuseOverCap seq at ticket cap) = IsQuotaRefusalDue past seq at ticket cap

-- there is room for all engines and all calls
pub record HasRoom (c : Checker) : Type 0 where
  pub few_engines : length c.engines.items ≤ 8
  pub engines : 8 ≤ vec_capacity c.engines
  pub latest : 8 ≤ vec_capacity c.latest
  pub calls : MAX_CALLS ≤ deque_capacity c.reached

-- the trace is legal so far, and the checker's engines and calls agree with it
abbrev pub HasRowOf : Table → Trace → Checker → Type 0
HasRowOf T past c = IsRowOfTrace (checker_context T c) past c.engines.items c.attached c.calls c.reached.items c.moment

-- the checker's numbers are those of the pending calls
abbrev pub HasNumbersOf : Trace → Checker → Type 0
HasNumbersOf past c = pending_numbers c ≡ map (λ call. call.seq) (pending_calls past)

-- they rise, and none is above that of the latest call
abbrev pub HasRisingNumbers : Checker → Type 0
HasRisingNumbers c = IsRising 0 c.taken (pending_numbers c)

-- the checker has counted the accepted calls
abbrev pub HasTakenOf : Trace → Checker → Type 0
HasTakenOf past c = c.taken ≡ length (taken past)

-- for each engine it has the greatest number of a call that the engine noted something of
abbrev pub HasLatestOf : Trace → Checker → Type 0
HasLatestOf past c = AllZip (IsLatest past) c.engines.items c.latest.items

-- it knows whether the link failed
abbrev pub HasLinkOf : Trace → Checker → Type 0
HasLinkOf past c = c.failed ≡ has_failed past

-- its calls are valid for the table
abbrev pub HasCallsOf : Table → Checker → Type 0
HasCallsOf T c = All (λ s. IsCallOf T s.call) c.calls

-- there were no more attachments than events
abbrev pub HasFewAttachments : Trace → Checker → Type 0
HasFewAttachments past c = c.attached ≤ length past

-- no entry has had more new versions than there were events
abbrev pub HasFewVersions : Trace → Checker → Type 0
HasFewVersions past c = All (λ e. e.entry.version ≤ length past + 1) c.engines.items

-- no line of a pending call was read yet
abbrev pub HasReadNoPending : Checker → Type 0
HasReadNoPending c = (c.told ≡ 0) × (c.position ≡ MAX_ENGINES)

-- The state of a checker after a trace: the trace is legal so far, and the checker's fields agree with it.
pub record IsCheckerAfter (T : Table) (past : Trace) (c : Checker) : Type 0 where
  pub row : HasRowOf T past c
  pub numbers : HasNumbersOf past c
  pub rising : HasRisingNumbers c
  pub taken : HasTakenOf past c
  pub latest : HasLatestOf past c
  pub failed : HasLinkOf past c
  pub left : IsObligationAfter past c.left
  pub of_table : HasCallsOf T c
  pub attachments : HasFewAttachments past c
  pub versions : HasFewVersions past c
  pub room : HasRoom c
  pub untold : HasReadNoPending c

-- it knows some trace, whose length stays below 2^32 by some margin
abbrev pub IsKnowing : Table → Checker → Type 0
IsKnowing T c = (past : Trace) × IsCheckerAfter T past c × (length past + 2 < 2 ^ 32)

-- the lowest of the listed positions; the end of a full chain if there is none
abbrev pub lowest_position : List ℕ → ℕ
lowest_position [] = MAX_ENGINES
lowest_position (p ∷ positions) = min p (lowest_position positions)

-- It knows the trace, and the first pending calls were listed, in order, at these positions.
pub record KnowsListed (T : Table) (past : Trace) (positions : List ℕ) (c : Checker) : Type 0 where
  pub knows : IsCheckerAfter T past (record c { told = 0; position = MAX_ENGINES })
  pub settled : HasNoMalformed c.left
  pub told : c.told ≡ length positions
  pub position : c.position ≡ lowest_position positions

-- ---- rules for one kind of event

-- the code's own: the rules of an event's own kind
abbrev pub IsOwnRuleKept : JudgeContext → Trace → Happening → Rule → Type 0
IsOwnRuleKept u past next C = IsChainPreserved past next
IsOwnRuleKept u past next D = IsNotedAsDue u past next
IsOwnRuleKept u past next E = IsSentInOrder u past next
IsOwnRuleKept u past next F = IsRefusedAsAnswered u past next
IsOwnRuleKept u past next _ = Unit {0}
