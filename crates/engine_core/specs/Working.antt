-- The effects of an engine's turn: on the engine, on the call with its marks, and on the tickets.
use Rattle.std.specs.Prelude.{◌≡◌, ◌≢◌, ℕ, ◌<◌, ◌≤◌, true, false, if◌then◌else◌, All, List, length, Option, None, Some, set, slice_get}
use Rattle.mrpc_base.specs.declared.tickets.TheConstants.{WINDOWS}
use Rattle.mrpc_table.specs.Calls.{IsCallOf}
use Rattle.mrpc_table.specs.Weight.{weight}
use Rattle.mrpc_table.specs.declared.call.Call.{Call}
use Rattle.mrpc_table.specs.declared.table.Table.{Table}
use Rattle.policy_access.specs.Verdict.{AccessPolicy}
use Rattle.policy_rate.specs.Level.{BucketEvent}
use Rattle.policy_rate.specs.declared.rate.Rate.{Rate as RatePolicy}
use Rattle.engine_core.specs.Answers.{level_after_note, past_after}
use Rattle.engine_core.specs.Chains.{Entry}
use Rattle.engine_core.specs.Engines.{EngineParts, IsHistoryOfBucket, past_after_note}
use Rattle.engine_core.specs.Marks.{IsAllowing, IsSilent, IsTrueFor, PendingCall, is_allowed, note_of, other_marks, past_of}
use Rattle.engine_core.specs.Policies.{IsAccess, KnowsTenantOf}
use Rattle.engine_core.specs.Turns.{IsTurnOutcome, IsElsewhere, IsRecordedDraw, form_after, is_draw, is_redacted_by, noted_in}
use Rattle.engine_core.specs.declared.policy.Policy.{Policy}
use Rattle.engine_core.specs.declared.policy.Policy.TheVariants.{Access}
use Rattle.engine_core.specs.declared.outcome.Noted.{Noted}
use Rattle.engine_core.specs.declared.outcome.Noted.TheVariants.{Nothing}
use Rattle.engine_core.specs.declared.outcome.Why.TheVariants.{Denied}
use Rattle.engine_core.specs.declared.outcome.Outcome.{Outcome}
use Rattle.engine_core.specs.declared.outcome.Outcome.TheVariants.{Passed, Refused, Redacted}

-- by a mark of the call, this version of the entry's policy allowed it
abbrev pub IsMarkedAllowed : Entry → PendingCall → Type 0
IsMarkedAllowed entry s = is_allowed s.marks entry.attach entry.version ≡ true

-- a turn of an engine, for a call with its marks
pub record IsTurn (e : EngineParts) (moment : ℕ) (s : PendingCall) (outcome : Outcome) : Type 0 where
  -- if the policy allows the call whenever a mark means that this version allowed it, the outcome is that of an entry
  -- with the notes of the marks
  pub comes : (IsMarkedAllowed e.entry s → IsAllowing e.entry.policy s.call)
      → IsTurnOutcome e.entry.policy e.level moment s.call (past_of s.marks e.entry.attach) outcome
  -- a call with a mark that this version of an access policy allowed it passes, without a new verdict
  pub allowed : IsMarkedAllowed e.entry s → IsAccess e.entry.policy → outcome ≡ Passed Nothing
  -- a call is denied by one of the rules, or by the default
  pub rule : (p : AccessPolicy) (noted : Noted) (rule : ℕ) → e.entry.policy ≡ Access p
      → outcome ≡ Refused noted (Denied rule) → rule ≤ length p.rules

-- a turn changes its engine only by taking a charge from the bucket
pub record IsEngineAfter (outcome : Outcome) (before after : EngineParts) : Type 0 where
  pub level : after.level ≡ level_after_note (noted_in outcome) before.level
  pub last : after.last ≡ before.last
  pub entry : after.entry ≡ before.entry
  -- a charge is added to the past of a bucket
  pub past : (first : RatePolicy) (start : ℕ) (past : List BucketEvent) → IsHistoryOfBucket before first start past
      → IsHistoryOfBucket after first start (past_after_note (noted_in outcome) past)

-- the call is unchanged except by redaction, which makes it smaller and keeps it valid for its table
pub record IsCallAfter (policy : Policy) (outcome : Outcome) (before after : Call) : Type 0 where
  pub form : after ≡ form_after outcome policy before
  pub smaller : outcome ≡ Redacted → weight after.tree < weight before.tree
  pub fits : (T : Table) → IsCallOf T before → IsCallOf T after

-- in this turn an access policy allowed the call, or had allowed it
abbrev pub IsAllowance : Policy → Outcome → Type 0
IsAllowance policy outcome = IsAccess policy × (outcome ≡ Passed Nothing)

-- ---- the effect of an engine's turn on the marks of a call

-- the call has no mark of this attachment
abbrev pub HasNoMarkOf : ℕ → PendingCall → Type 0
HasNoMarkOf attach s = note_of s.marks attach ≡ None

-- what the marks note for the entry is what they noted before and then the note of this turn
abbrev pub HasJoinedNote : Entry → Outcome → PendingCall → PendingCall → Type 0
HasJoinedNote entry outcome before after =
    past_of after.marks entry.attach ≡ past_after (noted_in outcome) (past_of before.marks entry.attach)

-- what the marks note for other engines is unchanged
abbrev pub AreOtherNotesKept : Entry → PendingCall → PendingCall → Type 0
AreOtherNotesKept entry before after =
    (attach : ℕ) → attach ≢ entry.attach → past_of after.marks attach ≡ past_of before.marks attach

-- only a turn in which the present policy allows the call leaves a new mark that a version of the policy allowed it
abbrev pub IsOnlyAllowance : Entry → Outcome → PendingCall → PendingCall → Type 0
IsOnlyAllowance entry outcome before after = (version : ℕ) → is_allowed before.marks entry.attach version ≡ false
    → is_allowed after.marks entry.attach version ≡ true → IsAllowance entry.policy outcome × (version ≡ entry.version)

-- marks that other engines allowed the call are unchanged, but a redaction removes them all
abbrev pub AreOtherAllowancesKept : Entry → Outcome → PendingCall → PendingCall → Type 0
AreOtherAllowancesKept entry outcome before after = (attach version : ℕ) → attach ≢ entry.attach
    → is_allowed after.marks attach version
    ≡ (if is_redacted_by outcome then false else is_allowed before.marks attach version)

-- a turn that neither notes anything nor allows the call adds no mark of the entry
abbrev pub HasNoNewOwnMark : Entry → Outcome → PendingCall → PendingCall → Type 0
HasNoNewOwnMark entry outcome before after = noted_in outcome ≡ Nothing → (IsAllowance entry.policy outcome → ⊥)
    → HasNoMarkOf entry.attach before → HasNoMarkOf entry.attach after

-- no turn adds a mark of another engine
abbrev pub HasNoNewOtherMark : Entry → PendingCall → PendingCall → Type 0
HasNoNewOtherMark entry before after =
    (attach : ℕ) → attach ≢ entry.attach → HasNoMarkOf attach before → HasNoMarkOf attach after

-- there are no more marks of other engines than before
abbrev pub HasNoMoreOtherMarks : Entry → PendingCall → PendingCall → Type 0
HasNoMoreOtherMarks entry before after =
    length (other_marks entry.attach after.marks) ≤ length (other_marks entry.attach before.marks)

-- marks that were true for an entry `e` are still true for it, unless `e` has the attachment number of `entry` without
-- being `entry`
abbrev pub AreMarksStillTrue : Entry → PendingCall → PendingCall → Type 0
AreMarksStillTrue entry before after =
    (e : Entry) → (e.attach ≡ entry.attach → e ≡ entry) → IsTrueFor e before → IsTrueFor e after

-- the effect of a turn of this entry's engine on the marks
pub record AreMarksAfterTurn (entry : Entry) (outcome : Outcome) (before after : PendingCall) : Type 0 where
  pub noted : IsSilent entry.policy (past_of before.marks entry.attach) → HasJoinedNote entry outcome before after
  pub others : AreOtherNotesKept entry before after
  -- a call that an access policy allowed has its mark, which no other turn leaves
  pub allowing : IsAccess entry.policy → outcome ≡ Passed Nothing → IsMarkedAllowed entry after
  pub allowing_alone : IsOnlyAllowance entry outcome before after
  pub others_allowing : AreOtherAllowancesKept entry outcome before after
  pub none : HasNoNewOwnMark entry outcome before after
  pub others_none : HasNoNewOtherMark entry before after
  pub room : HasNoMoreOtherMarks entry before after
  pub stays_true : AreMarksStillTrue entry before after

-- ---- the effect of an engine's turn on the tickets

-- The parameters below: `Knows` is true for the tenants that have tickets. `drawn_of` returns the tickets that were
-- drawn from a tenant's window. `Since` means that its second argument is a later state of the first.

-- a turn draws from one tenant's window at most: the drawn tickets of each other one are unchanged
abbrev pub AreOtherTicketsKept : {Q : Type 0} → (Q → ℕ → Type 0) → (Q → ℕ → ℕ → Option (List ℕ)) → Policy → Noted → Q
    → Q → Type 0
AreOtherTicketsKept Knows drawn_of policy noted before after = (tenant window : ℕ) → Knows before tenant
    → window < WINDOWS → IsElsewhere policy noted tenant window
    → drawn_of after tenant window ≡ drawn_of before tenant window

-- each known tenant is still known
abbrev pub AreTenantsKept : {Q : Type 0} → (Q → ℕ → Type 0) → Q → Q → Type 0
AreTenantsKept Knows before after = (tenant : ℕ) → Knows before tenant → Knows after tenant

-- a policy whose tenant was known, if it has one, still has a known one
abbrev pub ArePolicyTenantsKept : {Q : Type 0} → (Q → ℕ → Type 0) → Q → Q → Type 0
ArePolicyTenantsKept Knows before after =
    (policy : Policy) → KnowsTenantOf (Knows before) policy → KnowsTenantOf (Knows after) policy

-- if `before` is a later state of a first one, so is `after`
abbrev pub IsLaterState : {Q : Type 0} → (Q → Q → Type 0) → Q → Q → Type 0
IsLaterState {Q} Since before after = (first : Q) → Since first before → Since first after

-- the effect of a turn on the tickets: it draws one, which is new, or changes nothing
pub record AreTicketsAfterTurn {Q : Type 0} (Knows : Q → ℕ → Type 0) (drawn_of : Q → ℕ → ℕ → Option (List ℕ))
    (Since : Q → Q → Type 0) (policy : Policy) (noted : Noted) (before after : Q) : Type 0 where
  pub drawn : IsRecordedDraw (drawn_of before) (drawn_of after) policy noted
  pub elsewhere : AreOtherTicketsKept Knows drawn_of policy noted before after
  pub knows : AreTenantsKept Knows before after
  pub known : ArePolicyTenantsKept Knows before after
  pub undrawn : is_draw noted ≡ false → after ≡ before
  pub since : IsLaterState Since before after

-- the call has marks of these engines alone
abbrev pub HasOnlyMarksOf : List EngineParts → PendingCall → Type 0
HasOnlyMarksOf engines s = (attach : ℕ) → All (λ e. e.entry.attach ≢ attach) engines → HasNoMarkOf attach s

-- the call keeps its marks of these engines, loses all others, and gets no new ones
pub record HasKeptMarksOf (engines : List EngineParts) (before after : PendingCall) : Type 0 where
  pub call : after.call ≡ before.call
  pub kept : All (λ e. note_of after.marks e.entry.attach ≡ note_of before.marks e.entry.attach) engines
  pub gone : HasOnlyMarksOf engines after
  pub none : (attach : ℕ) → HasNoMarkOf attach before → HasNoMarkOf attach after

-- The engine at a position works on the call at an index of a row. The call keeps only its marks of the chain's
-- engines.
pub record HasWorked (engines : List EngineParts) (calls : List PendingCall) (position place moment : ℕ)
    (outcome : Outcome) (engines' : List EngineParts) (calls' : List PendingCall) : Type 0 where
  pub engine : EngineParts
  pub engine' : EngineParts
  pub is_engine : slice_get engines position ≡ Some engine
  pub others : engines' ≡ set engines position engine'
  pub call : PendingCall
  pub call' : PendingCall
  pub is_call : slice_get calls place ≡ Some call
  pub other_calls : calls' ≡ set calls place call'
  -- the call as the engine gets it
  pub met : PendingCall
  pub keeps : HasKeptMarksOf engines call met
  pub turn : IsTurn engine moment met outcome
  pub leaves_engine : IsEngineAfter outcome engine engine'
  pub leaves_call : IsCallAfter engine.entry.policy outcome call.call call'.call
  pub leaves_marks : AreMarksAfterTurn engine.entry outcome met call'
