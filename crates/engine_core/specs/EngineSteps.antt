-- The code's own: an engine's turn, case by case.
use Rattle.std.specs.Prelude.{◌≡◌, ◌≢◌, ℕ, ◌-◌, ◌/◌, ◌<◌, ◌≤◌, ◌==◌, min, true, false, if◌then◌else◌, List, [], ◌∷◌, length, None}
use Rattle.mrpc_table.specs.Weight.{weight}
use Rattle.mrpc_table.specs.declared.table.Table.{Table}
use Rattle.mrpc_table.specs.Calls.{IsCallOf}
use Rattle.policy_access.specs.Verdict.{AccessPolicy, verdict}
use Rattle.policy_rate.specs.declared.rate.Rate.{Rate as RatePolicy}
use Rattle.policy_redact.specs.Redacting.{cleared, cleared_call}
use Rattle.policy_redact.specs.declared.redact.Clear.{Clear}
use Rattle.engine_core.specs.Answers.{nothing, drawn}
use Rattle.engine_core.specs.Marks.{PendingCall, note_of, past_of, is_allowed, other_marks}
use Rattle.engine_core.specs.declared.policy.Policy.{Policy}
use Rattle.engine_core.specs.declared.policy.Policy.TheVariants.{Access, Rate, Quota, Count, Redact}
use Rattle.engine_core.specs.declared.mark.Mark.{Mark}
use Rattle.engine_core.specs.declared.mark.MarkNote.{MarkNote}
use Rattle.engine_core.specs.declared.mark.MarkNote.TheVariants as marks
use Rattle.engine_core.specs.declared.outcome.Noted.TheVariants.{Nothing, Charged, Drawn, Counted}
use Rattle.engine_core.specs.declared.outcome.Why.TheVariants.{Denied, Short, Over}
use Rattle.engine_core.specs.declared.outcome.Outcome.{Outcome}
use Rattle.engine_core.specs.declared.outcome.Outcome.TheVariants.{Passed, Held, Refused, Redacted}

-- the marks after setting one for an attachment: it replaces an earlier one, or is appended
abbrev pub marks_with : ℕ → MarkNote → List Mark → List Mark
marks_with attach note [] = record { attach = attach; note = note } ∷ []
marks_with attach note (m ∷ ms) =
    if m.attach == attach then record { attach = attach; note = note } ∷ ms else m ∷ marks_with attach note ms

abbrev pub with_mark : ℕ → MarkNote → PendingCall → PendingCall
with_mark attach note s = record { call = s.call; marks = marks_with attach note s.marks }

-- The marks after a redaction: no access policy has allowed the new tree, and the notes are unchanged.
pub record IsUnallowed (before after : List Mark) : Type 0 where
  pub pasts : (attach : ℕ) → past_of after attach ≡ past_of before attach
  pub none : (attach version : ℕ) → is_allowed after attach version ≡ false
  pub unmarked : (attach : ℕ) → note_of before attach ≡ None → note_of after attach ≡ None
  pub no_more : (attach : ℕ) → length (other_marks attach after) ≤ length (other_marks attach before)

pub data IsEngineStep (policy : Policy) (attach version level moment : ℕ) (old new : PendingCall) (left : ℕ)
    (outcome : Outcome) : Type 0 where
  was_allowed : (p : AccessPolicy) → policy ≡ Access p → is_allowed old.marks attach version ≡ true
      → outcome ≡ Passed Nothing → new ≡ old → left ≡ level
      → IsEngineStep policy attach version level moment old new left outcome
  allows : (p : AccessPolicy) → policy ≡ Access p → is_allowed old.marks attach version ≡ false
      → (verdict p old.call).allow ≡ true
      → outcome ≡ Passed Nothing → new ≡ with_mark attach (marks.Allowed version) old → left ≡ level
      → IsEngineStep policy attach version level moment old new left outcome
  denies : (p : AccessPolicy) → policy ≡ Access p → is_allowed old.marks attach version ≡ false
      → (verdict p old.call).allow ≡ false
      → outcome ≡ Refused Nothing (Denied (verdict p old.call).rule) → new ≡ old → left ≡ level
      → IsEngineStep policy attach version level moment old new left outcome
  was_charged : (r : RatePolicy) → policy ≡ Rate r → past_of old.marks attach ≢ nothing
      → outcome ≡ Passed Nothing → new ≡ old → left ≡ level
      → IsEngineStep policy attach version level moment old new left outcome
  charges : (r : RatePolicy) → policy ≡ Rate r → past_of old.marks attach ≡ nothing → r.per ≤ level
      → outcome ≡ Passed (Charged (level - r.per)) → new ≡ with_mark attach marks.Charged old → left ≡ level - r.per
      → IsEngineStep policy attach version level moment old new left outcome
  holds : (r : RatePolicy) → policy ≡ Rate r → past_of old.marks attach ≡ nothing → level < r.per → r.hold ≡ true
      → outcome ≡ Held level r.per → new ≡ old → left ≡ level
      → IsEngineStep policy attach version level moment old new left outcome
  refuses : (r : RatePolicy) → policy ≡ Rate r → past_of old.marks attach ≡ nothing → level < r.per → r.hold ≡ false
      → outcome ≡ Refused Nothing (Short level r.per) → new ≡ old → left ≡ level
      → IsEngineStep policy attach version level moment old new left outcome
  is_within : (tenant per cap ticket : ℕ) → policy ≡ Quota tenant per cap → past_of old.marks attach ≡ drawn ticket
      → ticket < cap
      → outcome ≡ Passed Nothing → new ≡ old → left ≡ level
      → IsEngineStep policy attach version level moment old new left outcome
  is_over : (tenant per cap ticket : ℕ) → policy ≡ Quota tenant per cap → past_of old.marks attach ≡ drawn ticket
      → cap ≤ ticket
      → outcome ≡ Refused Nothing (Over ticket cap) → new ≡ old → left ≡ level
      → IsEngineStep policy attach version level moment old new left outcome
  draws_within : (tenant per cap ticket : ℕ) → policy ≡ Quota tenant per cap
      → ((t : ℕ) → past_of old.marks attach ≢ drawn t) → ticket < cap
      → outcome ≡ Passed (Drawn (min (moment / per) 1023) ticket) → new ≡ with_mark attach (marks.Drawn ticket) old
      → left ≡ level
      → IsEngineStep policy attach version level moment old new left outcome
  draws_over : (tenant per cap ticket : ℕ) → policy ≡ Quota tenant per cap
      → ((t : ℕ) → past_of old.marks attach ≢ drawn t) → cap ≤ ticket
      → outcome ≡ Refused (Drawn (min (moment / per) 1023) ticket) (Over ticket cap)
      → new ≡ with_mark attach (marks.Drawn ticket) old → left ≡ level
      → IsEngineStep policy attach version level moment old new left outcome
  was_counted : policy ≡ Count → past_of old.marks attach ≢ nothing
      → outcome ≡ Passed Nothing → new ≡ old → left ≡ level
      → IsEngineStep policy attach version level moment old new left outcome
  counts : policy ≡ Count → past_of old.marks attach ≡ nothing
      → outcome ≡ Passed Counted → new ≡ with_mark attach marks.Counted old → left ≡ level
      → IsEngineStep policy attach version level moment old new left outcome
  is_clear : (clears : List Clear) → policy ≡ Redact clears → cleared clears old.call ≡ old.call.tree
      → outcome ≡ Passed Nothing → new ≡ old → left ≡ level
      → IsEngineStep policy attach version level moment old new left outcome
  redacts : (clears : List Clear) → policy ≡ Redact clears → cleared clears old.call ≢ old.call.tree
      → outcome ≡ Redacted → new.call ≡ cleared_call clears old.call → weight new.call.tree < weight old.call.tree
      → ((T : Table) → IsCallOf T old.call → IsCallOf T new.call) → IsUnallowed old.marks new.marks → left ≡ level
      → IsEngineStep policy attach version level moment old new left outcome
