-- The consequences of an engine's turn.
use Rattle.std.proofs.Common.{◌≡◌, ◌≢◌, ℕ, ◌<◌, ◌≤◌, ◌-◌, ◌/◌, min, ◌==◌, Bool, true, false, if◌then◌else◌, List, ◌∷◌}
use Rattle.std.proofs.Common.{length, None, Some, refl, ap, sym, ◌∙◌, subst, arith}
use Rattle.std.specs.Cmp.{nat_eq_equiv}
use Rattle.std.proofs.lemmas.Grind.{common_steps}
use Rattle.std.proofs.lemmas.Bool.Decides.{nat_tests}
use Rattle.mrpc_table.specs.Weight.{weight}
use Rattle.mrpc_table.specs.declared.table.Table.{Table}
use Rattle.mrpc_table.specs.Calls.{IsCallOf}
use Rattle.policy_access.specs.Verdict.{AccessPolicy, verdict}
use Rattle.policy_rate.specs.Level.{BucketEvent, charge, rate_after}
use Rattle.policy_rate.specs.Level as bucket
use Rattle.policy_rate.specs.declared.rate.Rate.{Rate as RatePolicy}
use Rattle.engine_core.specs.Policies.{IsAccess, KnowsTenantOf}
use Rattle.engine_core.specs.Chains.{Entry}
use Rattle.engine_core.specs.Engines.{EngineParts, IsHistoryOfBucket, past_after_note}
use Rattle.engine_core.specs.Working.{IsAllowance, IsTurn, IsCallAfter, IsEngineAfter, AreMarksAfterTurn}
use Rattle.engine_core.specs.Answers.{nothing, level_after_note, past_after}
use Rattle.engine_core.specs.Answers as answers
use Rattle.engine_core.specs.Marks.{PendingCall, IsAllowing, IsSilent, IsTrueFor, is_allowed, is_allowed_by, note_of, other_marks, past_by, past_of}
use Rattle.engine_core.specs.Turns.{IsTurnOutcome, form_after, is_redacted_by, noted_in}
use Rattle.engine_core.specs.Turns as turns
use Rattle.engine_core.specs.EngineSteps.{IsUnallowed, IsEngineStep, with_mark, was_allowed, allows, denies, was_charged, charges}
use Rattle.engine_core.specs.EngineSteps.{holds, refuses, is_within, is_over, draws_within, draws_over, was_counted, counts}
use Rattle.engine_core.specs.EngineSteps.{is_clear, redacts}
use Rattle.engine_core.specs.declared.policy.Policy.{Policy}
use Rattle.engine_core.specs.declared.policy.Policy.TheVariants.{Access, Rate, Quota, Count, Redact}
use Rattle.engine_core.specs.declared.outcome.Noted.{Noted}
use Rattle.engine_core.specs.declared.mark.MarkNote.{MarkNote}
use Rattle.engine_core.specs.declared.mark.MarkNote.TheVariants as marks
use Rattle.engine_core.specs.declared.outcome.Outcome.{Outcome}
use Rattle.engine_core.specs.declared.outcome.Outcome.TheVariants.{Passed, Refused, Redacted}
use Rattle.engine_core.specs.declared.outcome.Noted.TheVariants.{Nothing, Charged, Drawn, Counted}
use Rattle.engine_core.specs.declared.outcome.Why.TheVariants.{Denied, Short, Over}
use Rattle.engine_core.proofs.AnswerLaws.{deciding-within}
use Rattle.engine_core.proofs.MarkLemmas.{note_of-marked, note_of-marked-other, other_marks-marked}

-- the level of the bucket afterwards
pub level-step : (policy : Policy) (attach version level moment : ℕ) (old new : PendingCall) (left : ℕ) (outcome : Outcome)
    → IsEngineStep policy attach version level moment old new left outcome
    → left ≡ level_after_note (noted_in outcome) level
level-step policy attach version level moment old new left outcome (was_allowed p is marked out same l) = rw out l
level-step policy attach version level moment old new left outcome (allows p is unmarked allow out same l) = rw out l
level-step policy attach version level moment old new left outcome (denies p is unmarked deny out same l) = rw out l
level-step policy attach version level moment old new left outcome (was_charged r is past out same l) = rw out l
level-step policy attach version level moment old new left outcome (charges r is past enough out same l) = rw out l
level-step policy attach version level moment old new left outcome (holds r is past less mode out same l) = rw out l
level-step policy attach version level moment old new left outcome (refuses r is past less mode out same l) = rw out l
level-step policy attach version level moment old new left outcome (is_within t per cap ticket is past less out same l) = rw out l
level-step policy attach version level moment old new left outcome (is_over t per cap ticket is past more out same l) = rw out l
level-step policy attach version level moment old new left outcome (draws_within t per cap ticket is past less out same l) = rw out l
level-step policy attach version level moment old new left outcome (draws_over t per cap ticket is past more out same l) = rw out l
level-step policy attach version level moment old new left outcome (was_counted is past out same l) = rw out l
level-step policy attach version level moment old new left outcome (counts is past out same l) = rw out l
level-step policy attach version level moment old new left outcome (is_clear clears is same_tree out same l) = rw out l
level-step policy attach version level moment old new left outcome (redacts clears is other_tree out form less fits taken l) = rw out l

-- the form of the call
pub form-step : (policy : Policy) (attach version level moment : ℕ) (old new : PendingCall) (left : ℕ) (outcome : Outcome)
    → IsEngineStep policy attach version level moment old new left outcome
    → new.call ≡ form_after outcome policy old.call
form-step policy attach version level moment old new left outcome (was_allowed p is marked out same l) = rw (out, same) refl
form-step policy attach version level moment old new left outcome (allows p is unmarked allow out same l) = rw (out, same) refl
form-step policy attach version level moment old new left outcome (denies p is unmarked deny out same l) = rw (out, same) refl
form-step policy attach version level moment old new left outcome (was_charged r is past out same l) = rw (out, same) refl
form-step policy attach version level moment old new left outcome (charges r is past enough out same l) = rw (out, same) refl
form-step policy attach version level moment old new left outcome (holds r is past less mode out same l) = rw (out, same) refl
form-step policy attach version level moment old new left outcome (refuses r is past less mode out same l) = rw (out, same) refl
form-step policy attach version level moment old new left outcome (is_within t per cap ticket is past less out same l) = rw (out, same) refl
form-step policy attach version level moment old new left outcome (is_over t per cap ticket is past more out same l) = rw (out, same) refl
form-step policy attach version level moment old new left outcome (draws_within t per cap ticket is past less out same l) = rw (out, same) refl
form-step policy attach version level moment old new left outcome (draws_over t per cap ticket is past more out same l) = rw (out, same) refl
form-step policy attach version level moment old new left outcome (was_counted is past out same l) = rw (out, same) refl
form-step policy attach version level moment old new left outcome (counts is past out same l) = rw (out, same) refl
form-step policy attach version level moment old new left outcome (is_clear clears is same_tree out same l) = rw (out, same) refl
form-step policy attach version level moment old new left outcome (redacts clears is other_tree out form less fits taken l) = rw (out, is) form

-- the turn is one of the entry, if the policy allows a call with a mark that it did
pub comes-step : (policy : Policy) (attach version level moment : ℕ) (old new : PendingCall) (left : ℕ) (outcome : Outcome)
    → IsEngineStep policy attach version level moment old new left outcome
    → (is_allowed old.marks attach version ≡ true → IsAllowing policy old.call)
    → IsTurnOutcome policy level moment old.call (past_of old.marks attach) outcome
comes-step policy attach version level moment old new left outcome (was_allowed p is marked out same l) true_for = turns.passes (answers.allows p is (rw is at (true_for marked)) refl) out
comes-step policy attach version level moment old new left outcome (allows p is unmarked allow out same l) true_for = turns.passes (answers.allows p is allow refl) out
comes-step policy attach version level moment old new left outcome (denies p is unmarked deny out same l) true_for =
    turns.is_refused (Denied (verdict p old.call).rule) (answers.denies p is deny refl) out
comes-step policy attach version level moment old new left outcome (was_charged r is past out same l) true_for = turns.passes (answers.was_charged r is past refl) out
comes-step policy attach version level moment old new left outcome (charges r is past enough out same l) true_for =
    turns.is_noted_and_passes (Charged (level - r.per)) (answers.charges r is past enough refl)
    (answers.was_charged r is (λ none. cc) refl) out
comes-step policy attach version level moment old new left outcome (holds r is past less mode out same l) true_for = turns.is_held level r.per (answers.holds r is past less mode refl) out
comes-step policy attach version level moment old new left outcome (refuses r is past less mode out same l) true_for =
    turns.is_refused (Short level r.per) (answers.refuses r is past less mode refl) out
comes-step policy attach version level moment old new left outcome
    (is_within t per cap ticket is past less out same l) true_for =
    turns.passes (answers.is_within t per cap ticket is past less refl) out
comes-step policy attach version level moment old new left outcome (is_over t per cap ticket is past more out same l)
    true_for = turns.is_refused (Over ticket cap) (answers.is_over t per cap ticket is past more refl) out
comes-step policy attach version level moment old new left outcome
    (draws_within t per cap ticket is past less out same l) true_for =
    turns.is_noted_and_passes (Drawn (min (moment / per) 1023) ticket) (answers.draws t per cap ticket is past refl)
    (answers.is_within t per cap ticket is refl less refl) out
comes-step policy attach version level moment old new left outcome
    (draws_over t per cap ticket is past more out same l) true_for =
    turns.is_noted_and_refused (Drawn (min (moment / per) 1023) ticket) (Over ticket cap)
    (answers.draws t per cap ticket is past refl) (answers.is_over t per cap ticket is refl more refl) out
comes-step policy attach version level moment old new left outcome (was_counted is past out same l) true_for = turns.passes (answers.was_counted is past refl) out
comes-step policy attach version level moment old new left outcome (counts is past out same l) true_for =
    turns.is_noted_and_passes Counted (answers.counts is past refl) (answers.was_counted is (λ none. cc) refl) out
comes-step policy attach version level moment old new left outcome (is_clear clears is same_tree out same l) true_for = turns.passes (answers.is_clear clears is same_tree refl) out
comes-step policy attach version level moment old new left outcome
    (redacts clears is other_tree out form less fits taken l) true_for =
    turns.is_redacted (answers.redacts clears is other_tree refl) out

-- a call that the policy has allowed passes
pub allowed-step : (policy : Policy) (attach version level moment : ℕ) (old new : PendingCall) (left : ℕ) (outcome : Outcome)
    → IsEngineStep policy attach version level moment old new left outcome
    → is_allowed old.marks attach version ≡ true → IsAccess policy → outcome ≡ Passed Nothing
allowed-step policy attach version level moment old new left outcome (was_allowed p is marked out same l) has access = out
allowed-step policy attach version level moment old new left outcome (allows p is unmarked allow out same l) has access = absurd cc
allowed-step policy attach version level moment old new left outcome (denies p is unmarked deny out same l) has access = absurd cc
allowed-step policy attach version level moment old new left outcome (was_charged r is past out same l) has access = absurd (rw is at access)
allowed-step policy attach version level moment old new left outcome (charges r is past enough out same l) has access = absurd (rw is at access)
allowed-step policy attach version level moment old new left outcome (holds r is past less mode out same l) has access = absurd (rw is at access)
allowed-step policy attach version level moment old new left outcome (refuses r is past less mode out same l) has access = absurd (rw is at access)
allowed-step policy attach version level moment old new left outcome (is_within t per cap ticket is past less out same l) has access = absurd (rw is at access)
allowed-step policy attach version level moment old new left outcome (is_over t per cap ticket is past more out same l) has access = absurd (rw is at access)
allowed-step policy attach version level moment old new left outcome (draws_within t per cap ticket is past less out same l) has access = absurd (rw is at access)
allowed-step policy attach version level moment old new left outcome (draws_over t per cap ticket is past more out same l) has access = absurd (rw is at access)
allowed-step policy attach version level moment old new left outcome (was_counted is past out same l) has access = absurd (rw is at access)
allowed-step policy attach version level moment old new left outcome (counts is past out same l) has access = absurd (rw is at access)
allowed-step policy attach version level moment old new left outcome (is_clear clears is same_tree out same l) has access = absurd (rw is at access)
allowed-step policy attach version level moment old new left outcome (redacts clears is other_tree out form less fits taken l) has access = absurd (rw is at access)

-- a redaction makes the tree smaller
pub smaller-step : (policy : Policy) (attach version level moment : ℕ) (old new : PendingCall) (left : ℕ) (outcome : Outcome)
    → IsEngineStep policy attach version level moment old new left outcome
    → outcome ≡ Redacted → weight new.call.tree < weight old.call.tree
smaller-step policy attach version level moment old new left outcome (was_allowed p is marked out same l) redacted = absurd cc
smaller-step policy attach version level moment old new left outcome (allows p is unmarked allow out same l) redacted = absurd cc
smaller-step policy attach version level moment old new left outcome (denies p is unmarked deny out same l) redacted = absurd cc
smaller-step policy attach version level moment old new left outcome (was_charged r is past out same l) redacted = absurd cc
smaller-step policy attach version level moment old new left outcome (charges r is past enough out same l) redacted = absurd cc
smaller-step policy attach version level moment old new left outcome (holds r is past less mode out same l) redacted = absurd cc
smaller-step policy attach version level moment old new left outcome (refuses r is past less mode out same l) redacted = absurd cc
smaller-step policy attach version level moment old new left outcome (is_within t per cap ticket is past less out same l) redacted = absurd cc
smaller-step policy attach version level moment old new left outcome (is_over t per cap ticket is past more out same l) redacted = absurd cc
smaller-step policy attach version level moment old new left outcome (draws_within t per cap ticket is past less out same l) redacted = absurd cc
smaller-step policy attach version level moment old new left outcome (draws_over t per cap ticket is past more out same l) redacted = absurd cc
smaller-step policy attach version level moment old new left outcome (was_counted is past out same l) redacted = absurd cc
smaller-step policy attach version level moment old new left outcome (counts is past out same l) redacted = absurd cc
smaller-step policy attach version level moment old new left outcome (is_clear clears is same_tree out same l) redacted = absurd cc
smaller-step policy attach version level moment old new left outcome (redacts clears is other_tree out form less fits taken l) redacted = less

-- the call still fits its table
pub fits-step : (policy : Policy) (attach version level moment : ℕ) (old new : PendingCall) (left : ℕ) (outcome : Outcome)
    → IsEngineStep policy attach version level moment old new left outcome
    → (T : Table) → IsCallOf T old.call → IsCallOf T new.call
fits-step policy attach version level moment old new left outcome (was_allowed p is marked out same l) T h = rw same h
fits-step policy attach version level moment old new left outcome (allows p is unmarked allow out same l) T h = rw same h
fits-step policy attach version level moment old new left outcome (denies p is unmarked deny out same l) T h = rw same h
fits-step policy attach version level moment old new left outcome (was_charged r is past out same l) T h = rw same h
fits-step policy attach version level moment old new left outcome (charges r is past enough out same l) T h = rw same h
fits-step policy attach version level moment old new left outcome (holds r is past less mode out same l) T h = rw same h
fits-step policy attach version level moment old new left outcome (refuses r is past less mode out same l) T h = rw same h
fits-step policy attach version level moment old new left outcome (is_within t per cap ticket is past less out same l) T h = rw same h
fits-step policy attach version level moment old new left outcome (is_over t per cap ticket is past more out same l) T h = rw same h
fits-step policy attach version level moment old new left outcome (draws_within t per cap ticket is past less out same l) T h = rw same h
fits-step policy attach version level moment old new left outcome (draws_over t per cap ticket is past more out same l) T h = rw same h
fits-step policy attach version level moment old new left outcome (was_counted is past out same l) T h = rw same h
fits-step policy attach version level moment old new left outcome (counts is past out same l) T h = rw same h
fits-step policy attach version level moment old new left outcome (is_clear clears is same_tree out same l) T h = rw same h
fits-step policy attach version level moment old new left outcome (redacts clears is other_tree out form less fits taken l) T h = fits T h

-- the note of the turn is added to earlier ones
pub noted-step : (policy : Policy) (attach version level moment : ℕ) (old new : PendingCall) (left : ℕ) (outcome : Outcome)
    → IsEngineStep policy attach version level moment old new left outcome
    → IsSilent policy (past_of old.marks attach) → past_of new.marks attach ≡ past_after (noted_in outcome) (past_of old.marks attach)
noted-step policy attach version level moment old new left outcome (was_allowed p is marked out same l) silent = rw (out, same) refl
noted-step policy attach version level moment old new left outcome (allows p is unmarked allow out same l) silent =
    rw (out, same, note_of-marked attach (marks.Allowed version) old.marks) (sym (rw is at silent))
noted-step policy attach version level moment old new left outcome (denies p is unmarked deny out same l) silent = rw (out, same) refl
noted-step policy attach version level moment old new left outcome (was_charged r is past out same l) silent = rw (out, same) refl
noted-step policy attach version level moment old new left outcome (charges r is past enough out same l) silent = rw (out, same, note_of-marked attach marks.Charged old.marks) refl
noted-step policy attach version level moment old new left outcome (holds r is past less mode out same l) silent = rw (out, same) refl
noted-step policy attach version level moment old new left outcome (refuses r is past less mode out same l) silent = rw (out, same) refl
noted-step policy attach version level moment old new left outcome (is_within t per cap ticket is past less out same l) silent = rw (out, same) refl
noted-step policy attach version level moment old new left outcome (is_over t per cap ticket is past more out same l) silent = rw (out, same) refl
noted-step policy attach version level moment old new left outcome
    (draws_within t per cap ticket is past less out same l) silent =
    rw (out, same, note_of-marked attach (marks.Drawn ticket) old.marks) refl
noted-step policy attach version level moment old new left outcome
    (draws_over t per cap ticket is past more out same l) silent =
    rw (out, same, note_of-marked attach (marks.Drawn ticket) old.marks) refl
noted-step policy attach version level moment old new left outcome (was_counted is past out same l) silent = rw (out, same) refl
noted-step policy attach version level moment old new left outcome (counts is past out same l) silent = rw (out, same, note_of-marked attach marks.Counted old.marks) refl
noted-step policy attach version level moment old new left outcome (is_clear clears is same_tree out same l) silent = rw (out, same) refl
noted-step policy attach version level moment old new left outcome (redacts clears is other_tree out form less fits taken l) silent = rw out (taken.pasts attach)

-- what was noted for others is unchanged
pub others-step : (policy : Policy) (attach version level moment : ℕ) (old new : PendingCall) (left : ℕ) (outcome : Outcome)
    → IsEngineStep policy attach version level moment old new left outcome
    → (a : ℕ) → a ≢ attach → past_of new.marks a ≡ past_of old.marks a
others-step policy attach version level moment old new left outcome (was_allowed p is marked out same l) a other = rw same refl
others-step policy attach version level moment old new left outcome (allows p is unmarked allow out same l) a other =
    rw (same, note_of-marked-other attach a (marks.Allowed version) old.marks other) refl
others-step policy attach version level moment old new left outcome (denies p is unmarked deny out same l) a other = rw same refl
others-step policy attach version level moment old new left outcome (was_charged r is past out same l) a other = rw same refl
others-step policy attach version level moment old new left outcome (charges r is past enough out same l) a other =
    rw (same, note_of-marked-other attach a marks.Charged old.marks other) refl
others-step policy attach version level moment old new left outcome (holds r is past less mode out same l) a other = rw same refl
others-step policy attach version level moment old new left outcome (refuses r is past less mode out same l) a other = rw same refl
others-step policy attach version level moment old new left outcome (is_within t per cap ticket is past less out same l) a other = rw same refl
others-step policy attach version level moment old new left outcome (is_over t per cap ticket is past more out same l) a other = rw same refl
others-step policy attach version level moment old new left outcome
    (draws_within t per cap ticket is past less out same l) a other =
    rw (same, note_of-marked-other attach a (marks.Drawn ticket) old.marks other) refl
others-step policy attach version level moment old new left outcome
    (draws_over t per cap ticket is past more out same l) a other =
    rw (same, note_of-marked-other attach a (marks.Drawn ticket) old.marks other) refl
others-step policy attach version level moment old new left outcome (was_counted is past out same l) a other = rw same refl
others-step policy attach version level moment old new left outcome (counts is past out same l) a other = rw (same, note_of-marked-other attach a marks.Counted old.marks other) refl
others-step policy attach version level moment old new left outcome (is_clear clears is same_tree out same l) a other = rw same refl
others-step policy attach version level moment old new left outcome (redacts clears is other_tree out form less fits taken l) a other = taken.pasts a

-- an access engine sets a mark
pub allowing-step : (policy : Policy) (attach version level moment : ℕ) (old new : PendingCall) (left : ℕ) (outcome : Outcome)
    → IsEngineStep policy attach version level moment old new left outcome
    → IsAccess policy → outcome ≡ Passed Nothing → is_allowed new.marks attach version ≡ true
allowing-step policy attach version level moment old new left outcome (was_allowed p is marked out same l) access passed = rw same marked
allowing-step policy attach version level moment old new left outcome (allows p is unmarked allow out same l) access
    passed = rw (same, note_of-marked attach (marks.Allowed version) old.marks) (nat_eq_equiv.refl version)
allowing-step policy attach version level moment old new left outcome (denies p is unmarked deny out same l) access passed = absurd cc
allowing-step policy attach version level moment old new left outcome (was_charged r is past out same l) access passed = absurd (rw is at access)
allowing-step policy attach version level moment old new left outcome (charges r is past enough out same l) access passed = absurd (rw is at access)
allowing-step policy attach version level moment old new left outcome (holds r is past less mode out same l) access passed = absurd (rw is at access)
allowing-step policy attach version level moment old new left outcome (refuses r is past less mode out same l) access passed = absurd (rw is at access)
allowing-step policy attach version level moment old new left outcome (is_within t per cap ticket is past less out same l) access passed = absurd (rw is at access)
allowing-step policy attach version level moment old new left outcome (is_over t per cap ticket is past more out same l) access passed = absurd (rw is at access)
allowing-step policy attach version level moment old new left outcome (draws_within t per cap ticket is past less out same l) access passed = absurd (rw is at access)
allowing-step policy attach version level moment old new left outcome (draws_over t per cap ticket is past more out same l) access passed = absurd (rw is at access)
allowing-step policy attach version level moment old new left outcome (was_counted is past out same l) access passed = absurd (rw is at access)
allowing-step policy attach version level moment old new left outcome (counts is past out same l) access passed = absurd (rw is at access)
allowing-step policy attach version level moment old new left outcome (is_clear clears is same_tree out same l) access passed = absurd (rw is at access)
allowing-step policy attach version level moment old new left outcome (redacts clears is other_tree out form less fits taken l) access passed = absurd (rw is at access)

-- the marks of other access engines are kept, except by a redaction
pub others_allowing-step : (policy : Policy) (attach version level moment : ℕ) (old new : PendingCall) (left : ℕ) (outcome : Outcome)
    → IsEngineStep policy attach version level moment old new left outcome
    → (a v : ℕ) → a ≢ attach → is_allowed new.marks a v ≡ (if is_redacted_by outcome then false else is_allowed old.marks a v)
others_allowing-step policy attach version level moment old new left outcome (was_allowed p is marked out same l) a v other = rw (out, same) refl
others_allowing-step policy attach version level moment old new left outcome (allows p is unmarked allow out same l) a
    v other = rw (out, same, note_of-marked-other attach a (marks.Allowed version) old.marks other) refl
others_allowing-step policy attach version level moment old new left outcome (denies p is unmarked deny out same l) a v other = rw (out, same) refl
others_allowing-step policy attach version level moment old new left outcome (was_charged r is past out same l) a v other = rw (out, same) refl
others_allowing-step policy attach version level moment old new left outcome (charges r is past enough out same l) a v
    other = rw (out, same, note_of-marked-other attach a marks.Charged old.marks other) refl
others_allowing-step policy attach version level moment old new left outcome (holds r is past less mode out same l) a v other = rw (out, same) refl
others_allowing-step policy attach version level moment old new left outcome (refuses r is past less mode out same l) a v other = rw (out, same) refl
others_allowing-step policy attach version level moment old new left outcome (is_within t per cap ticket is past less out same l) a v other = rw (out, same) refl
others_allowing-step policy attach version level moment old new left outcome (is_over t per cap ticket is past more out same l) a v other = rw (out, same) refl
others_allowing-step policy attach version level moment old new left outcome
    (draws_within t per cap ticket is past less out same l) a v other =
    rw (out, same, note_of-marked-other attach a (marks.Drawn ticket) old.marks other) refl
others_allowing-step policy attach version level moment old new left outcome
    (draws_over t per cap ticket is past more out same l) a v other =
    rw (out, same, note_of-marked-other attach a (marks.Drawn ticket) old.marks other) refl
others_allowing-step policy attach version level moment old new left outcome (was_counted is past out same l) a v other = rw (out, same) refl
others_allowing-step policy attach version level moment old new left outcome (counts is past out same l) a v other =
    rw (out, same, note_of-marked-other attach a marks.Counted old.marks other) refl
others_allowing-step policy attach version level moment old new left outcome (is_clear clears is same_tree out same l) a v other = rw (out, same) refl
others_allowing-step policy attach version level moment old new left outcome (redacts clears is other_tree out form less fits taken l) a v other = rw out (taken.none a v)

-- the number of marks of others doesn't grow
pub room-step : (policy : Policy) (attach version level moment : ℕ) (old new : PendingCall) (left : ℕ) (outcome : Outcome)
    → IsEngineStep policy attach version level moment old new left outcome
    → length (other_marks attach new.marks) ≤ length (other_marks attach old.marks)
room-step policy attach version level moment old new left outcome (was_allowed p is marked out same l) = rw same (omega arith)
room-step policy attach version level moment old new left outcome (allows p is unmarked allow out same l) = rw same (other_marks-marked attach (marks.Allowed version) old.marks)
room-step policy attach version level moment old new left outcome (denies p is unmarked denied out same l) = rw same (omega arith)
room-step policy attach version level moment old new left outcome (was_charged r is past out same l) = rw same (omega arith)
room-step policy attach version level moment old new left outcome (charges r is past enough out same l) = rw same (other_marks-marked attach marks.Charged old.marks)
room-step policy attach version level moment old new left outcome (holds r is past less mode out same l) = rw same (omega arith)
room-step policy attach version level moment old new left outcome (refuses r is past less mode out same l) = rw same (omega arith)
room-step policy attach version level moment old new left outcome (is_within t per cap ticket is past less out same l) = rw same (omega arith)
room-step policy attach version level moment old new left outcome (is_over t per cap ticket is past more out same l) = rw same (omega arith)
room-step policy attach version level moment old new left outcome (draws_within t per cap ticket is past less out same l) = rw same (other_marks-marked attach (marks.Drawn ticket) old.marks)
room-step policy attach version level moment old new left outcome (draws_over t per cap ticket is past more out same l) = rw same (other_marks-marked attach (marks.Drawn ticket) old.marks)
room-step policy attach version level moment old new left outcome (was_counted is past out same l) = rw same (omega arith)
room-step policy attach version level moment old new left outcome (counts is past out same l) = rw same (other_marks-marked attach marks.Counted old.marks)
room-step policy attach version level moment old new left outcome (is_clear clears is same_tree out same l) = rw same (omega arith)
room-step policy attach version level moment old new left outcome (redacts clears is other_tree out form less fits taken l) = taken.no_more attach

-- ---- the marks remain true

no_allowed : {b : Bool} {X : Type 0} → b ≡ false → b ≡ true → X
no_allowed none some = absurd cc

-- a note is true for its entry
own-noted : (e : Entry) (n : MarkNote) (s : PendingCall) → ((v : ℕ) → is_allowed_by v (Some n) ≡ false) → IsSilent e.policy (past_by (Some n)) → IsTrueFor e (with_mark e.attach n s)
own-noted e n s none silent = record {
  silent = rw (note_of-marked e.attach n s.marks) silent;
  present = λ v is. no_allowed (none v) (rw (note_of-marked e.attach n s.marks) at is);
  allowing = λ is. no_allowed (none e.version) (rw (note_of-marked e.attach n s.marks) at is);
}

at_most : (a b : ℕ) → (a == b) ≡ true → b ≤ a
at_most a b same = grind (arith, nat_tests, common_steps)

-- so is the mark of an access policy that allows the call
own-allowed : (e : Entry) (s : PendingCall) → IsSilent e.policy nothing → IsAllowing e.policy s.call → IsTrueFor e (with_mark e.attach (marks.Allowed e.version) s)
own-allowed e s silent allowing = record {
  silent = rw (note_of-marked e.attach (marks.Allowed e.version) s.marks) silent;
  present = λ v is. at_most e.version v (rw (note_of-marked e.attach (marks.Allowed e.version) s.marks) at is);
  allowing = λ is. allowing;
}

-- a mark has no meaning for other entries
other-true : (e : Entry) (a : ℕ) (n : MarkNote) (s : PendingCall) → e.attach ≢ a → IsTrueFor e s → IsTrueFor e (with_mark a n s)
other-true e a n s other h = record {
  silent = rw (note_of-marked-other a e.attach n s.marks other) h.silent;
  present = λ v is. h.present v (rw (note_of-marked-other a e.attach n s.marks other) at is);
  allowing = λ is. h.allowing (rw (note_of-marked-other a e.attach n s.marks other) at is);
}

marked-true-by : (entry e : Entry) (n : MarkNote) (s : PendingCall) (b : Bool) → (e.attach == entry.attach) ≡ b → (e.attach ≡ entry.attach → e ≡ entry)
    → IsTrueFor entry (with_mark entry.attach n s) → IsTrueFor e s → IsTrueFor e (with_mark entry.attach n s)
marked-true-by entry e n s true is one own h = rw (one (grind (arith, nat_tests, common_steps))) own
marked-true-by entry e n s false is one own h = other-true e entry.attach n s (λ same. grind (arith, nat_tests, common_steps)) h

marked-true : (entry e : Entry) (n : MarkNote) (old new : PendingCall) → new ≡ with_mark entry.attach n old → (e.attach ≡ entry.attach → e ≡ entry)
    → IsTrueFor entry (with_mark entry.attach n old) → IsTrueFor e old → IsTrueFor e new
marked-true entry e n old new is one own h = rw is (marked-true-by entry e n old (e.attach == entry.attach) refl one own h)

same-true : (e : Entry) (old new : PendingCall) → new ≡ old → IsTrueFor e old → IsTrueFor e new
same-true e old new same h = rw same h

-- a redaction keeps no mark that could be untrue
redacted-true : (e : Entry) (old new : PendingCall) → IsUnallowed old.marks new.marks → IsTrueFor e old → IsTrueFor e new
redacted-true e old new taken h = record {
  silent = rw (taken.pasts e.attach) h.silent;
  present = λ v is. no_allowed (taken.none e.attach v) is;
  allowing = λ is. no_allowed (taken.none e.attach e.version) is;
}

-- the marks of a call remain true for every entry
pub stays_true-step : (entry : Entry) (level moment : ℕ) (old new : PendingCall) (left : ℕ) (outcome : Outcome)
    → IsEngineStep entry.policy entry.attach entry.version level moment old new left outcome
    → (e : Entry) → (e.attach ≡ entry.attach → e ≡ entry) → IsTrueFor e old → IsTrueFor e new
stays_true-step entry level moment old new left outcome (was_allowed p is marked out same l) e one h = same-true e old new same h
stays_true-step entry level moment old new left outcome (allows p is unmarked allow out same l) e one h =
    marked-true entry e (marks.Allowed entry.version) old new same one
    (own-allowed entry old (rw is refl) (rw is allow)) h
stays_true-step entry level moment old new left outcome (denies p is unmarked deny out same l) e one h = same-true e old new same h
stays_true-step entry level moment old new left outcome (was_charged r is past out same l) e one h = same-true e old new same h
stays_true-step entry level moment old new left outcome (charges r is past enough out same l) e one h =
    marked-true entry e marks.Charged old new same one (own-noted entry marks.Charged old (λ v. refl) (rw is tt)) h
stays_true-step entry level moment old new left outcome (holds r is past less mode out same l) e one h = same-true e old new same h
stays_true-step entry level moment old new left outcome (refuses r is past less mode out same l) e one h = same-true e old new same h
stays_true-step entry level moment old new left outcome (is_within t per cap ticket is past less out same l) e one h = same-true e old new same h
stays_true-step entry level moment old new left outcome (is_over t per cap ticket is past more out same l) e one h = same-true e old new same h
stays_true-step entry level moment old new left outcome (draws_within t per cap ticket is past less out same l) e one
    h = marked-true entry e (marks.Drawn ticket) old new same one
    (own-noted entry (marks.Drawn ticket) old (λ v. refl) (rw is tt)) h
stays_true-step entry level moment old new left outcome (draws_over t per cap ticket is past more out same l) e one
    h = marked-true entry e (marks.Drawn ticket) old new same one
    (own-noted entry (marks.Drawn ticket) old (λ v. refl) (rw is tt)) h
stays_true-step entry level moment old new left outcome (was_counted is past out same l) e one h = same-true e old new same h
stays_true-step entry level moment old new left outcome (counts is past out same l) e one h =
    marked-true entry e marks.Counted old new same one (own-noted entry marks.Counted old (λ v. refl) (rw is tt)) h
stays_true-step entry level moment old new left outcome (is_clear clears is same_tree out same l) e one h = same-true e old new same h
stays_true-step entry level moment old new left outcome (redacts clears is other_tree out form less fits taken l) e one h = redacted-true e old new taken h

-- ---- how the marks change

-- Either they are unchanged; or the engine's own is set, by a note or since its access policy allows the call; or a
-- redaction removes those of access engines.
data Became (policy : Policy) (attach version : ℕ) (old new : PendingCall) (outcome : Outcome) : Type 0 where
  stays : new ≡ old → Became policy attach version old new outcome
  noted : (n : MarkNote) → new ≡ with_mark attach n old → ((v : ℕ) → is_allowed_by v (Some n) ≡ false)
      → noted_in outcome ≢ Nothing → Became policy attach version old new outcome
  allowed : new ≡ with_mark attach (marks.Allowed version) old → IsAccess policy → outcome ≡ Passed Nothing → Became policy attach version old new outcome
  unallowed : IsUnallowed old.marks new.marks → Became policy attach version old new outcome

became-step : (policy : Policy) (attach version level moment : ℕ) (old new : PendingCall) (left : ℕ) (outcome : Outcome)
    → IsEngineStep policy attach version level moment old new left outcome
    → Became policy attach version old new outcome
became-step policy attach version level moment old new left outcome (was_allowed p is marked out same l) = stays same
became-step policy attach version level moment old new left outcome (allows p is unmarked allow out same l) = allowed same (rw is tt) out
became-step policy attach version level moment old new left outcome (denies p is unmarked deny out same l) = stays same
became-step policy attach version level moment old new left outcome (was_charged r is past out same l) = stays same
became-step policy attach version level moment old new left outcome (charges r is past enough out same l) = noted marks.Charged same (λ v. refl) (rw out (λ none. cc))
became-step policy attach version level moment old new left outcome (holds r is past less mode out same l) = stays same
became-step policy attach version level moment old new left outcome (refuses r is past less mode out same l) = stays same
became-step policy attach version level moment old new left outcome (is_within t per cap ticket is past less out same l) = stays same
became-step policy attach version level moment old new left outcome (is_over t per cap ticket is past more out same l) = stays same
became-step policy attach version level moment old new left outcome
    (draws_within t per cap ticket is past less out same l) =
    noted (marks.Drawn ticket) same (λ v. refl) (rw out (λ none. cc))
became-step policy attach version level moment old new left outcome
    (draws_over t per cap ticket is past more out same l) =
    noted (marks.Drawn ticket) same (λ v. refl) (rw out (λ none. cc))
became-step policy attach version level moment old new left outcome (was_counted is past out same l) = stays same
became-step policy attach version level moment old new left outcome (counts is past out same l) = noted marks.Counted same (λ v. refl) (rw out (λ none. cc))
became-step policy attach version level moment old new left outcome (is_clear clears is same_tree out same l) = stays same
became-step policy attach version level moment old new left outcome (redacts clears is other_tree out form less fits taken l) = unallowed taken

equal : (a b : ℕ) → (a == b) ≡ true → b ≡ a
equal a b same = grind (arith, nat_tests, common_steps)

apart : {b : Bool} {X : Type 0} → b ≡ false → b ≡ true → X
apart none some = absurd cc

allowing_alone-became : (policy : Policy) (attach version : ℕ) (old new : PendingCall) (outcome : Outcome) → Became policy attach version old new outcome
    → (v : ℕ) → is_allowed old.marks attach v ≡ false → is_allowed new.marks attach v ≡ true → IsAllowance policy outcome × (v ≡ version)
allowing_alone-became policy attach version old new outcome (stays same) v before after = apart before (rw same at after)
allowing_alone-became policy attach version old new outcome (noted n same none some) v before after = apart (none v) (rw (same, note_of-marked attach n old.marks) at after)
allowing_alone-became policy attach version old new outcome (allowed same access passed) v before after =
    ((access, passed), equal version v (rw (same, note_of-marked attach (marks.Allowed version) old.marks) at after))
allowing_alone-became policy attach version old new outcome (unallowed taken) v before after = apart (taken.none attach v) after

none-became : (policy : Policy) (attach version : ℕ) (old new : PendingCall) (outcome : Outcome) → Became policy attach version old new outcome
    → noted_in outcome ≡ Nothing → (IsAllowance policy outcome → ⊥) → note_of old.marks attach ≡ None → note_of new.marks attach ≡ None
none-became policy attach version old new outcome (stays same) nothing_noted other none = rw same none
none-became policy attach version old new outcome (noted n same by some) nothing_noted other none = absurd (some nothing_noted)
none-became policy attach version old new outcome (allowed same access passed) nothing_noted other none = absurd (other (access, passed))
none-became policy attach version old new outcome (unallowed taken) nothing_noted other none = taken.unmarked attach none

others_none-became : (policy : Policy) (attach version : ℕ) (old new : PendingCall) (outcome : Outcome) → Became policy attach version old new outcome
    → (a : ℕ) → a ≢ attach → note_of old.marks a ≡ None → note_of new.marks a ≡ None
others_none-became policy attach version old new outcome (stays same) a other none = rw same none
others_none-became policy attach version old new outcome (noted n same by some) a other none = rw (same, note_of-marked-other attach a n old.marks other) none
others_none-became policy attach version old new outcome (allowed same access passed) a other none = rw (same, note_of-marked-other attach a (marks.Allowed version) old.marks other) none
others_none-became policy attach version old new outcome (unallowed taken) a other none = taken.unmarked a none

-- ---- the rule of a denial

rule-step : (policy : Policy) (attach version level moment : ℕ) (old new : PendingCall) (left : ℕ) (outcome : Outcome)
    → IsEngineStep policy attach version level moment old new left outcome
    → (p : AccessPolicy) (n : Noted) (rule : ℕ) → policy ≡ Access p → outcome ≡ Refused n (Denied rule) → rule ≤ length p.rules
rule-step policy attach version level moment old new left outcome (was_allowed q is marked out same l) p n rule access refused = absurd cc
rule-step policy attach version level moment old new left outcome (allows q is unmarked allow out same l) p n rule access refused = absurd cc
rule-step policy attach version level moment old new left outcome (denies q is unmarked deny out same l) p n rule access refused =
    let policies : q ≡ p = cc in
    let rules : (verdict q old.call).rule ≡ rule = cc in
    subst (λ (r : AccessPolicy). rule ≤ length r.rules) policies (rw (← rules) (deciding-within q old.call))
rule-step policy attach version level moment old new left outcome (was_charged r is past out same l) p n rule access refused = absurd cc
rule-step policy attach version level moment old new left outcome (charges r is past enough out same l) p n rule access refused = absurd cc
rule-step policy attach version level moment old new left outcome (holds r is past less mode out same l) p n rule access refused = absurd cc
rule-step policy attach version level moment old new left outcome (refuses r is past less mode out same l) p n rule access refused = absurd cc
rule-step policy attach version level moment old new left outcome (is_within t per cap ticket is past less out same l) p n rule access refused = absurd cc
rule-step policy attach version level moment old new left outcome (is_over t per cap ticket is past more out same l) p n rule access refused = absurd cc
rule-step policy attach version level moment old new left outcome (draws_within t per cap ticket is past less out same l) p n rule access refused = absurd cc
rule-step policy attach version level moment old new left outcome (draws_over t per cap ticket is past more out same l) p n rule access refused = absurd cc
rule-step policy attach version level moment old new left outcome (was_counted is past out same l) p n rule access refused = absurd cc
rule-step policy attach version level moment old new left outcome (counts is past out same l) p n rule access refused = absurd cc
rule-step policy attach version level moment old new left outcome (is_clear clears is same_tree out same l) p n rule access refused = absurd cc
rule-step policy attach version level moment old new left outcome (redacts clears is other_tree out form less fits taken l) p n rule access refused = absurd cc

-- ---- the past of a bucket

kept-past : (before after : EngineParts) (outcome : Outcome) (first : RatePolicy) (start : ℕ) (past : List BucketEvent) → IsHistoryOfBucket before first start past
    → after.level ≡ before.level → after.last ≡ before.last → after.entry ≡ before.entry → past_after_note (noted_in outcome) past ≡ past
    → IsHistoryOfBucket after first start (past_after_note (noted_in outcome) past)
kept-past before after outcome first start past h level last entry same = rw same (record {
  policy = ap (λ (e : Entry). e.policy) entry ∙ h.policy;
  level = level ∙ h.level;
  last = last ∙ h.last;
  paid = h.paid;
})

charged-past : (before after : EngineParts) (r : RatePolicy) (first : RatePolicy) (start : ℕ) (past : List BucketEvent) → IsHistoryOfBucket before first start past
    → before.entry.policy ≡ Rate r → r.per ≤ before.level
    → after.level ≡ before.level - r.per → after.last ≡ before.last → after.entry ≡ before.entry
    → IsHistoryOfBucket after first start (charge ∷ past)
charged-past before after r first start past h is enough level last entry =
    let rate : r ≡ rate_after first past = same_rate (sym is ∙ h.policy) in
    record {
      policy = ap (λ (e : Entry). e.policy) entry ∙ h.policy;
      level = level ∙ (ap (λ (l : ℕ). l - r.per) h.level ∙ ap (λ (s : RatePolicy). bucket.level_of_past first start past - s.per) rate);
      last = last ∙ h.last;
      paid = (subst (λ (s : RatePolicy). s.per ≤ bucket.level_of_past first start past) rate (rw h.level at enough), h.paid);
    }
  where
    same_rate : {a b : RatePolicy} → Rate a ≡ Rate b → a ≡ b
    same_rate same = cc

past-step : (before after : EngineParts) (moment : ℕ) (old new : PendingCall) (outcome : Outcome)
    → IsEngineStep before.entry.policy before.entry.attach before.entry.version before.level moment old new after.level outcome
    → after.last ≡ before.last → after.entry ≡ before.entry
    → (first : RatePolicy) (start : ℕ) (past : List BucketEvent) → IsHistoryOfBucket before first start past → IsHistoryOfBucket after first start (past_after_note (noted_in outcome) past)
past-step before after moment old new outcome (was_allowed p is marked out same l) last entry first start past h =
    kept-past before after outcome first start past h l last entry (rw out refl)
past-step before after moment old new outcome (allows p is unmarked allow out same l) last entry first start past h =
    kept-past before after outcome first start past h l last entry (rw out refl)
past-step before after moment old new outcome (denies p is unmarked deny out same l) last entry first start past h =
    kept-past before after outcome first start past h l last entry (rw out refl)
past-step before after moment old new outcome (was_charged r is noted_before out same l) last entry first start past
    h = kept-past before after outcome first start past h l last entry (rw out refl)
past-step before after moment old new outcome (charges r is none enough out same l) last entry first start past h =
    rw out (charged-past before after r first start past h is enough l last entry)
past-step before after moment old new outcome (holds r is noted_before less mode out same l) last entry first start
    past h = kept-past before after outcome first start past h l last entry (rw out refl)
past-step before after moment old new outcome (refuses r is noted_before less mode out same l) last entry first start
    past h = kept-past before after outcome first start past h l last entry (rw out refl)
past-step before after moment old new outcome (is_within t per cap ticket is noted_before less out same l) last entry
    first start past h = kept-past before after outcome first start past h l last entry (rw out refl)
past-step before after moment old new outcome (is_over t per cap ticket is noted_before more out same l) last entry
    first start past h = kept-past before after outcome first start past h l last entry (rw out refl)
past-step before after moment old new outcome (draws_within t per cap ticket is noted_before less out same l) last
    entry first start past h = kept-past before after outcome first start past h l last entry (rw out refl)
past-step before after moment old new outcome (draws_over t per cap ticket is noted_before more out same l) last entry
    first start past h = kept-past before after outcome first start past h l last entry (rw out refl)
past-step before after moment old new outcome (was_counted is noted_before out same l) last entry first start past h =
    kept-past before after outcome first start past h l last entry (rw out refl)
past-step before after moment old new outcome (counts is noted_before out same l) last entry first start past h = kept-past before after outcome first start past h l last entry (rw out refl)
past-step before after moment old new outcome (is_clear clears is same_tree out same l) last entry first start past
    h = kept-past before after outcome first start past h l last entry (rw out refl)
past-step before after moment old new outcome (redacts clears is other_tree out form less fits taken l) last entry
    first start past h = kept-past before after outcome first start past h l last entry (rw out refl)

-- ---- together

pub turn-step : (e : EngineParts) (moment : ℕ) (old new : PendingCall) (left : ℕ) (outcome : Outcome)
    → IsEngineStep e.entry.policy e.entry.attach e.entry.version e.level moment old new left outcome → IsTurn e moment old outcome
turn-step e moment old new left outcome step = record {
  comes = comes-step _ _ _ _ _ _ _ _ _ step;
  allowed = allowed-step _ _ _ _ _ _ _ _ _ step;
  rule = rule-step _ _ _ _ _ _ _ _ _ step;
}

pub engine-step : (before after : EngineParts) (moment : ℕ) (old new : PendingCall) (outcome : Outcome)
    → IsEngineStep before.entry.policy before.entry.attach before.entry.version before.level moment old new after.level outcome
    → after.last ≡ before.last → after.entry ≡ before.entry → IsEngineAfter outcome before after
engine-step before after moment old new outcome step last entry = record {
  level = level-step _ _ _ _ _ _ _ _ _ step;
  last = last;
  entry = entry;
  past = past-step before after moment old new outcome step last entry;
}

pub call-step : (policy : Policy) (attach version level moment : ℕ) (old new : PendingCall) (left : ℕ) (outcome : Outcome)
    → IsEngineStep policy attach version level moment old new left outcome
    → IsCallAfter policy outcome old.call new.call
call-step policy attach version level moment old new left outcome step = record {
  form = form-step _ _ _ _ _ _ _ _ _ step;
  smaller = smaller-step _ _ _ _ _ _ _ _ _ step;
  fits = fits-step _ _ _ _ _ _ _ _ _ step;
}

pub marks-step : (entry : Entry) (level moment : ℕ) (old new : PendingCall) (left : ℕ) (outcome : Outcome)
    → IsEngineStep entry.policy entry.attach entry.version level moment old new left outcome → AreMarksAfterTurn entry outcome old new
marks-step entry level moment old new left outcome step =
    let became = became-step _ _ _ _ _ _ _ _ _ step in
    record {
      noted = noted-step _ _ _ _ _ _ _ _ _ step;
      others = others-step _ _ _ _ _ _ _ _ _ step;
      allowing = allowing-step _ _ _ _ _ _ _ _ _ step;
      allowing_alone = allowing_alone-became _ _ _ _ _ _ became;
      others_allowing = others_allowing-step _ _ _ _ _ _ _ _ _ step;
      none = none-became _ _ _ _ _ _ became;
      others_none = others_none-became _ _ _ _ _ _ became;
      room = room-step _ _ _ _ _ _ _ _ _ step;
      stays_true = stays_true-step entry _ _ _ _ _ _ step;
    }

-- if the tenant of a policy is known before a turn, it is known after it
pub known-after : {Before After : ℕ → Type 0} (p : Policy) → ((t : ℕ) → Before t → After t) → KnowsTenantOf Before p → KnowsTenantOf After p
known-after (Access p) more known = tt
known-after (Rate r) more known = tt
known-after (Quota tenant per cap) more known = more tenant known
known-after Count more known = tt
known-after (Redact clears) more known = tt
