-- The outcome of an entry's turn for a pending call.
use Rattle.std.specs.Prelude.{◌≡◌, ◌≢◌, ℕ, Bool, true, false, ◌⊎◌, List, [], ◌∷◌, ◌++◌, Option, IfSome, IsSomeAnd}
use Rattle.mrpc_table.specs.declared.call.Call.{Call}
use Rattle.policy_redact.specs.Redacting.{cleared_call}
use Rattle.engine_core.specs.Answers.{Past, Answer, pass, deny, hold, refuse, over, note, redact, IsEntryAnswer, past_after, level_after_note}
use Rattle.engine_core.specs.declared.policy.Policy.{Policy}
use Rattle.engine_core.specs.declared.policy.Policy.TheVariants.{Quota, Redact}
use Rattle.engine_core.specs.declared.outcome.Noted.{Noted}
use Rattle.engine_core.specs.declared.outcome.Noted.TheVariants.{Nothing, Drawn}
use Rattle.engine_core.specs.declared.outcome.Why.{Why}
use Rattle.engine_core.specs.declared.outcome.Why.TheVariants.{Denied, Short, Over}
use Rattle.engine_core.specs.declared.outcome.Outcome.{Outcome}
use Rattle.engine_core.specs.declared.outcome.Outcome.TheVariants.{Passed, Held, Refused, Redacted}

-- the answer for a reason to refuse
abbrev pub refusal : Why → Answer
refusal (Denied rule) = deny rule
refusal (Short level cost) = refuse level cost
refusal (Over ticket cap) = over ticket cap

-- a turn: first it notes what must be noted; then the call passes, is held or is refused, or fields are cleared,
-- which ends the turn
pub data IsTurnOutcome (policy : Policy) (level moment : ℕ) (form : Call) (past : Past) (outcome : Outcome) : Type 0 where
  passes : IsEntryAnswer policy level moment form past pass → outcome ≡ Passed Nothing
      → IsTurnOutcome policy level moment form past outcome
  is_noted_and_passes : (n : Noted) → IsEntryAnswer policy level moment form past (note n)
      → IsEntryAnswer policy (level_after_note n level) moment form (past_after n past) pass
      → outcome ≡ Passed n → IsTurnOutcome policy level moment form past outcome
  is_held : (l cost : ℕ) → IsEntryAnswer policy level moment form past (hold l cost) → outcome ≡ Held l cost
      → IsTurnOutcome policy level moment form past outcome
  is_refused : (why : Why) → IsEntryAnswer policy level moment form past (refusal why) → outcome ≡ Refused Nothing why
      → IsTurnOutcome policy level moment form past outcome
  is_noted_and_refused : (n : Noted) (why : Why) → IsEntryAnswer policy level moment form past (note n)
      → IsEntryAnswer policy (level_after_note n level) moment form (past_after n past) (refusal why)
      → outcome ≡ Refused n why → IsTurnOutcome policy level moment form past outcome
  is_redacted : IsEntryAnswer policy level moment form past redact → outcome ≡ Redacted
      → IsTurnOutcome policy level moment form past outcome

-- what a turn noted
abbrev pub noted_in : Outcome → Noted
noted_in (Passed n) = n
noted_in (Held level cost) = Nothing
noted_in (Refused n why) = n
noted_in Redacted = Nothing

-- fields were cleared
abbrev pub is_redacted_by : Outcome → Bool
is_redacted_by Redacted = true
is_redacted_by _ = false

-- the form of a call after a turn
abbrev pub form_after : Outcome → Policy → Call → Call
form_after Redacted (Redact clears) form = cleared_call clears form
form_after _ _ form = form

-- a ticket was drawn
abbrev pub is_draw : Noted → Bool
is_draw (Drawn window ticket) = true
is_draw _ = false

-- if the tickets of a window are known afterwards, they are the earlier ones followed by this one
abbrev pub IsNextTicket : Option (List ℕ) → Option (List ℕ) → ℕ → Type 0
IsNextTicket before after ticket =
    IfSome after (λ tickets. IsSomeAnd before (λ earlier. tickets ≡ earlier ++ ticket ∷ []))

-- a draw was for the policy's tenant, in the window of the note; `before` and `after` are the tickets of each tenant
-- and window
abbrev pub IsRecordedDraw : (ℕ → ℕ → Option (List ℕ)) → (ℕ → ℕ → Option (List ℕ)) → Policy → Noted → Type 0
IsRecordedDraw before after (Quota tenant per cap) (Drawn window ticket) =
    IsNextTicket (before tenant window) (after tenant window) ticket
IsRecordedDraw before after _ _ = Unit {0}

-- no ticket of this tenant and window was drawn
abbrev pub IsElsewhere : Policy → Noted → ℕ → ℕ → Type 0
IsElsewhere (Quota tenant per cap) (Drawn window ticket) t w = (t ≢ tenant) ⊎ (w ≢ window)
IsElsewhere _ _ t w = Unit {0}
