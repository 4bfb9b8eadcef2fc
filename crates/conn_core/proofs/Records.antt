-- What an entry may still record of a call after its turn.
use Rattle.std.proofs.Common.{◌≡◌, ◌≢◌, ℕ, ◌-◌, ◌/◌, ◌≤◌, min, List, refl, ap, sym, ◌∙◌, subst, arith}
use Rattle.mrpc_table.specs.Node.{Node}
use Rattle.mrpc_table.specs.declared.call.Call.{Call}
use Rattle.policy_rate.specs.declared.rate.Rate.{Rate as RatePolicy}
use Rattle.policy_redact.specs.Redacting.{cleared, cleared_call}
use Rattle.policy_redact.specs.declared.redact.Clear.{Clear}
use Rattle.engine_core.specs.Answers.{IsEntryAnswer, Past, note, redact, nothing, charged, drawn, counted, past_after}
use Rattle.engine_core.specs.Answers.{allows, denies, was_charged, charges, holds, refuses, is_within, is_over, draws}
use Rattle.engine_core.specs.Answers.{was_counted, counts, is_clear, redacts}
use Rattle.engine_core.specs.Chains.{Entry}
use Rattle.engine_core.specs.Marks.{PendingCall, past_of}
use Rattle.engine_core.specs.Turns.{IsTurnOutcome, passes, is_noted_and_passes, is_held, is_refused, is_noted_and_refused, is_redacted, noted_in}
use Rattle.engine_core.specs.declared.outcome.Noted.{Noted}
use Rattle.engine_core.specs.declared.outcome.Noted.TheVariants as notes
use Rattle.engine_core.specs.declared.outcome.Outcome.{Outcome}
use Rattle.engine_core.specs.declared.outcome.Outcome.TheVariants as outcomes
use Rattle.engine_core.specs.declared.policy.Policy.{Policy}
use Rattle.engine_core.specs.declared.policy.Policy.TheVariants.{Rate, Quota, Count, Redact}
use Rattle.conn_core.specs.Invariant.{MayRecord, may_clear, may_note, records_of}

-- ---- notes

-- whether a note is due doesn't depend on the form of the call
note-of-any : (policy : Policy) (level moment : ℕ) (form other : Call) (past : Past) (n : Noted)
    → IsEntryAnswer policy level moment form past (note n) → IsEntryAnswer policy level moment other past (note n)
note-of-any policy level moment form other past n (allows p is allow answer) = absurd cc
note-of-any policy level moment form other past n (denies p is allow answer) = absurd cc
note-of-any policy level moment form other past n (was_charged r is some answer) = absurd cc
note-of-any policy level moment form other past n (charges r is none enough answer) = charges r is none enough answer
note-of-any policy level moment form other past n (holds r is none less mode answer) = absurd cc
note-of-any policy level moment form other past n (refuses r is none less mode answer) = absurd cc
note-of-any policy level moment form other past n (is_within tenant per cap ticket is some less answer) = absurd cc
note-of-any policy level moment form other past n (is_over tenant per cap ticket is some more answer) = absurd cc
note-of-any policy level moment form other past n (draws tenant per cap ticket is none answer) =
    draws tenant per cap ticket is none answer
note-of-any policy level moment form other past n (was_counted is some answer) = absurd cc
note-of-any policy level moment form other past n (counts is none answer) = counts is none answer
note-of-any policy level moment form other past n (is_clear clears is left answer) = absurd cc
note-of-any policy level moment form other past n (redacts clears is changed answer) = absurd cc

-- no further note is possible if one was made
abbrev IsSpent : Policy → Past → Type 0
IsSpent policy past = (level moment : ℕ) (form : Call) (n : Noted) → IsEntryAnswer policy level moment form past (note n) → ⊥

spent-rate : (policy : Policy) (r : RatePolicy) (past : Past) → policy ≡ Rate r → past ≢ nothing → IsSpent policy past
spent-rate policy r past is some level moment form n (allows p is' allow answer) = absurd cc
spent-rate policy r past is some level moment form n (denies p is' allow answer) = absurd cc
spent-rate policy r past is some level moment form n (was_charged r' is' some' answer) = absurd cc
spent-rate policy r past is some level moment form n (charges r' is' none enough answer) = some none
spent-rate policy r past is some level moment form n (holds r' is' none less mode answer) = absurd cc
spent-rate policy r past is some level moment form n (refuses r' is' none less mode answer) = absurd cc
spent-rate policy r past is some level moment form n (is_within tenant per cap ticket is' some' less answer) = absurd cc
spent-rate policy r past is some level moment form n (is_over tenant per cap ticket is' some' more answer) = absurd cc
spent-rate policy r past is some level moment form n (draws tenant per cap ticket is' none answer) = absurd cc
spent-rate policy r past is some level moment form n (was_counted is' some' answer) = absurd cc
spent-rate policy r past is some level moment form n (counts is' none answer) = absurd cc
spent-rate policy r past is some level moment form n (is_clear clears is' left answer) = absurd cc
spent-rate policy r past is some level moment form n (redacts clears is' changed answer) = absurd cc

spent-quota : (policy : Policy) (tenant per cap ticket : ℕ) → policy ≡ Quota tenant per cap
    → IsSpent policy (drawn ticket)
spent-quota policy tenant per cap ticket is level moment form n (allows p is' allow answer) = absurd cc
spent-quota policy tenant per cap ticket is level moment form n (denies p is' allow answer) = absurd cc
spent-quota policy tenant per cap ticket is level moment form n (was_charged r is' some answer) = absurd cc
spent-quota policy tenant per cap ticket is level moment form n (charges r is' none enough answer) = absurd cc
spent-quota policy tenant per cap ticket is level moment form n (holds r is' none less mode answer) = absurd cc
spent-quota policy tenant per cap ticket is level moment form n (refuses r is' none less mode answer) = absurd cc
spent-quota policy tenant per cap ticket is level moment form n
    (is_within tenant' per' cap' ticket' is' some less answer) = absurd cc
spent-quota policy tenant per cap ticket is level moment form n
    (is_over tenant' per' cap' ticket' is' some more answer) = absurd cc
spent-quota policy tenant per cap ticket is level moment form n (draws tenant' per' cap' ticket' is' none answer) =
    none ticket refl
spent-quota policy tenant per cap ticket is level moment form n (was_counted is' some answer) = absurd cc
spent-quota policy tenant per cap ticket is level moment form n (counts is' none answer) = absurd cc
spent-quota policy tenant per cap ticket is level moment form n (is_clear clears is' left answer) = absurd cc
spent-quota policy tenant per cap ticket is level moment form n (redacts clears is' changed answer) = absurd cc

spent-count : (policy : Policy) → policy ≡ Count → IsSpent policy counted
spent-count policy is level moment form n (allows p is' allow answer) = absurd cc
spent-count policy is level moment form n (denies p is' allow answer) = absurd cc
spent-count policy is level moment form n (was_charged r is' some answer) = absurd cc
spent-count policy is level moment form n (charges r is' none enough answer) = absurd cc
spent-count policy is level moment form n (holds r is' none less mode answer) = absurd cc
spent-count policy is level moment form n (refuses r is' none less mode answer) = absurd cc
spent-count policy is level moment form n (is_within tenant per cap ticket is' some less answer) = absurd cc
spent-count policy is level moment form n (is_over tenant per cap ticket is' some more answer) = absurd cc
spent-count policy is level moment form n (draws tenant per cap ticket is' none answer) = absurd cc
spent-count policy is level moment form n (was_counted is' some answer) = absurd cc
spent-count policy is level moment form n (counts is' none answer) = absurd cc
spent-count policy is level moment form n (is_clear clears is' left answer) = absurd cc
spent-count policy is level moment form n (redacts clears is' changed answer) = absurd cc

-- after a note none is due
spent : (policy : Policy) (level moment : ℕ) (form : Call) (past : Past) (n : Noted)
    → IsEntryAnswer policy level moment form past (note n) → IsSpent policy (past_after n past)
spent policy level moment form past n (allows p is allow answer) = absurd cc
spent policy level moment form past n (denies p is allow answer) = absurd cc
spent policy level moment form past n (was_charged r is some answer) = absurd cc
spent policy level moment form past n (charges r is none enough answer) =
    let n-is : n ≡ notes.Charged (level - r.per) = cc in
    subst (λ (m : Noted). IsSpent policy (past_after m past)) (sym n-is)
    (spent-rate policy r charged is (λ same. absurd cc))
spent policy level moment form past n (holds r is none less mode answer) = absurd cc
spent policy level moment form past n (refuses r is none less mode answer) = absurd cc
spent policy level moment form past n (is_within tenant per cap ticket is some less answer) = absurd cc
spent policy level moment form past n (is_over tenant per cap ticket is some more answer) = absurd cc
spent policy level moment form past n (draws tenant per cap ticket is none answer) =
    let n-is : n ≡ notes.Drawn (min (moment / per) 1023) ticket = cc in
    subst (λ (m : Noted). IsSpent policy (past_after m past)) (sym n-is) (spent-quota policy tenant per cap ticket is)
spent policy level moment form past n (was_counted is some answer) = absurd cc
spent policy level moment form past n (counts is none answer) =
    let n-is : n ≡ notes.Counted = cc in
    subst (λ (m : Noted). IsSpent policy (past_after m past)) (sym n-is) (spent-count policy is)
spent policy level moment form past n (is_clear clears is left answer) = absurd cc
spent policy level moment form past n (redacts clears is changed answer) = absurd cc

-- a redacting policy makes no note
redactor-notes-nothing : (policy : Policy) (level moment : ℕ) (form : Call) (past : Past) (n : Noted)
    (clears : List Clear) → policy ≡ Redact clears → IsEntryAnswer policy level moment form past (note n) → ⊥
redactor-notes-nothing policy level moment form past n clears is (allows p is' allow answer) = absurd cc
redactor-notes-nothing policy level moment form past n clears is (denies p is' allow answer) = absurd cc
redactor-notes-nothing policy level moment form past n clears is (was_charged r is' some answer) = absurd cc
redactor-notes-nothing policy level moment form past n clears is (charges r is' none enough answer) = absurd cc
redactor-notes-nothing policy level moment form past n clears is (holds r is' none less mode answer) = absurd cc
redactor-notes-nothing policy level moment form past n clears is (refuses r is' none less mode answer) = absurd cc
redactor-notes-nothing policy level moment form past n clears is
    (is_within tenant per cap ticket is' some less answer) = absurd cc
redactor-notes-nothing policy level moment form past n clears is (is_over tenant per cap ticket is' some more answer) =
    absurd cc
redactor-notes-nothing policy level moment form past n clears is (draws tenant per cap ticket is' none answer) =
    absurd cc
redactor-notes-nothing policy level moment form past n clears is (was_counted is' some answer) = absurd cc
redactor-notes-nothing policy level moment form past n clears is (counts is' none answer) = absurd cc
redactor-notes-nothing policy level moment form past n clears is (is_clear clears' is' left answer) = absurd cc
redactor-notes-nothing policy level moment form past n clears is (redacts clears' is' changed answer) = absurd cc

-- ---- redactions

-- the laws of clears, as hypotheses of the proofs here
pub record ClearLaws : Type 0 where
  pub again : (clears : List Clear) (call : Call) → cleared clears (cleared_call clears call) ≡ cleared clears call
  pub either : (a b : List Clear) (call : Call) → cleared b (cleared_call a call) ≡ cleared a (cleared_call b call)

-- what would be cleared after a redaction would have been cleared before it
cleared-before : ClearLaws → (a b : List Clear) (call : Call)
    → cleared b (cleared_call a call) ≢ (cleared_call a call).tree → cleared b call ≢ call.tree
cleared-before laws a b call changed left =
    let same : cleared_call b call ≡ call = ap (λ (t : Node). record call { tree = t }) left in
    changed (laws.either a b call ∙ ap (cleared a) same)

pub may-before : ClearLaws → (a : List Clear) (s s' : PendingCall) (e : Entry) → s'.call ≡ cleared_call a s.call
    → past_of s'.marks e.attach ≡ past_of s.marks e.attach → MayRecord s' e → MayRecord s e
may-before laws a s s' e call past (may_note level moment n answers some) =
    may_note level moment n (subst (λ (p : Past). IsEntryAnswer e.policy level moment s.call p (note n)) past
    (note-of-any e.policy level moment s'.call s.call (past_of s'.marks e.attach) n answers)) some
may-before laws a s s' e call past (may_clear clears is changed) =
    may_clear clears is (cleared-before laws a clears s.call
    (subst (λ (c : Call). cleared clears c ≢ c.tree) call changed))

-- a policy that cleared fields clears none again
pub none-again : ClearLaws → (a : List Clear) (s s' : PendingCall) (e : Entry) → s'.call ≡ cleared_call a s.call
    → e.policy ≡ Redact a → MayRecord s' e → ⊥
none-again laws a s s' e call policy (may_note level moment n answers some) =
    redactor-notes-nothing e.policy level moment s'.call (past_of s'.marks e.attach) n a policy answers
none-again laws a s s' e call policy (may_clear clears is changed) =
    let same : clears ≡ a = cc in
    changed (ap (cleared clears) call ∙ ap (λ (c : List Clear). cleared c (cleared_call a s.call)) same ∙ laws.again a
    s.call ∙ sym (ap (λ (c : Call). c.tree) call))

-- for an unchanged call, the notes decide
pub may-still : (s s' : PendingCall) (e : Entry) → s'.call ≡ s.call
    → past_of s'.marks e.attach ≡ past_of s.marks e.attach → MayRecord s' e → MayRecord s e
may-still s s' e call past (may_note level moment n answers some) =
    may_note level moment n (subst (λ (p : Past). IsEntryAnswer e.policy level moment s.call p (note n)) past
    (subst (λ (c : Call). IsEntryAnswer e.policy level moment c (past_of s'.marks e.attach) (note n)) call answers)) some
may-still s s' e call past (may_clear clears is changed) =
    may_clear clears is (subst (λ (c : Call). cleared clears c ≢ c.tree) call changed)

pub none-noted : (s s' : PendingCall) (e : Entry) (level moment : ℕ) (form : Call) (past : Past) (n : Noted)
    → IsEntryAnswer e.policy level moment form past (note n)
    → past_of s'.marks e.attach ≡ past_after n past → MayRecord s' e → ⊥
none-noted s s' e level moment form past n notes-it after (may_note l m n' answers some) =
    spent e.policy level moment form past n notes-it l m s'.call n'
    (subst (λ (p : Past). IsEntryAnswer e.policy l m s'.call p (note n')) after answers)
none-noted s s' e level moment form past n notes-it after (may_clear clears is changed) =
    redactor-notes-nothing e.policy level moment form past n clears is notes-it

-- ---- what a turn records was due

pub noted-of : (policy : Policy) (level moment : ℕ) (form : Call) (past : Past) (outcome : Outcome)
    → IsTurnOutcome policy level moment form past outcome → 1 ≤ records_of (noted_in outcome)
    → IsEntryAnswer policy level moment form past (note (noted_in outcome))
noted-of policy level moment form past outcome (passes answers is) some =
    absurd (omega (arith, some, ap (λ (o : Outcome). records_of (noted_in o)) is))
noted-of policy level moment form past outcome (is_noted_and_passes n calls after is) some =
    subst (λ (o : Outcome). IsEntryAnswer policy level moment form past (note (noted_in o))) (sym is) calls
noted-of policy level moment form past outcome (is_held l cost answers is) some =
    absurd (omega (arith, some, ap (λ (o : Outcome). records_of (noted_in o)) is))
noted-of policy level moment form past outcome (is_refused why answers is) some =
    absurd (omega (arith, some, ap (λ (o : Outcome). records_of (noted_in o)) is))
noted-of policy level moment form past outcome (is_noted_and_refused n why calls after is) some =
    subst (λ (o : Outcome). IsEntryAnswer policy level moment form past (note (noted_in o))) (sym is) calls
noted-of policy level moment form past outcome (is_redacted answers is) some =
    absurd (omega (arith, some, ap (λ (o : Outcome). records_of (noted_in o)) is))

-- the clears of a redacting policy
pub record Clearing (policy : Policy) (form : Call) : Type 0 where
  pub list : List Clear
  pub policy_is : policy ≡ Redact list
  pub changed : cleared list form ≢ form.tree

clears-of : (policy : Policy) (level moment : ℕ) (form : Call) (past : Past)
    → IsEntryAnswer policy level moment form past redact → Clearing policy form
clears-of policy level moment form past (allows p is allow answer) = absurd cc
clears-of policy level moment form past (denies p is allow answer) = absurd cc
clears-of policy level moment form past (was_charged r is some answer) = absurd cc
clears-of policy level moment form past (charges r is none enough answer) = absurd cc
clears-of policy level moment form past (holds r is none less mode answer) = absurd cc
clears-of policy level moment form past (refuses r is none less mode answer) = absurd cc
clears-of policy level moment form past (is_within tenant per cap ticket is some less answer) = absurd cc
clears-of policy level moment form past (is_over tenant per cap ticket is some more answer) = absurd cc
clears-of policy level moment form past (draws tenant per cap ticket is none answer) = absurd cc
clears-of policy level moment form past (was_counted is some answer) = absurd cc
clears-of policy level moment form past (counts is none answer) = absurd cc
clears-of policy level moment form past (is_clear clears is left answer) = absurd cc
clears-of policy level moment form past (redacts clears is changed answer) = record {
  list = clears;
  policy_is = is;
  changed = changed;
}

pub redacted-of : (policy : Policy) (level moment : ℕ) (form : Call) (past : Past)
    → IsTurnOutcome policy level moment form past outcomes.Redacted → Clearing policy form
redacted-of policy level moment form past (passes answers is) = absurd cc
redacted-of policy level moment form past (is_noted_and_passes n calls after is) = absurd cc
redacted-of policy level moment form past (is_held l cost answers is) = absurd cc
redacted-of policy level moment form past (is_refused why answers is) = absurd cc
redacted-of policy level moment form past (is_noted_and_refused n why calls after is) = absurd cc
redacted-of policy level moment form past (is_redacted answers is) = clears-of policy level moment form past answers
