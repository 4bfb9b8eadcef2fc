-- Answers and chains that were worked out by hand.
use Rattle.std.proofs.Common.{true, false, [], ◌∷◌, refl, arith, codes}
use Rattle.mrpc_table.specs.Node.{no_fields, field, one, number}
use Rattle.mrpc_table.specs.declared.table.Kind.TheVariants.{Uint64}
use Rattle.mrpc_table.specs.declared.table.Label.TheVariants.{Plain}
use Rattle.mrpc_table.specs.declared.call.Call.{Call}
use Rattle.mrpc_table.specs.declared.call.CallKind.TheVariants.{Request}
use Rattle.policy_rate.specs.declared.rate.Rate.{Rate as RatePolicy}
use Rattle.policy_redact.specs.declared.redact.Clear.{Clear}
use Rattle.engine_core.specs.Answers.{nothing, charged, drawn, hold, over, note, IsEntryAnswer, IsAllowedBy}
use Rattle.engine_core.specs.Answers as answers
use Rattle.engine_core.specs.Chains.{Chain, IsReasonToReject, IsChangeOf, new_entry, no_place, other_kind}
use Rattle.engine_core.specs.Chains as chains
use Rattle.engine_core.specs.Turns.{IsTurnOutcome}
use Rattle.engine_core.specs.Turns as turns
use Rattle.engine_core.specs.declared.policy.Policy.{Policy}
use Rattle.engine_core.specs.declared.policy.Policy.TheVariants.{Access, Rate, Quota, Count, Redact}
use Rattle.engine_core.specs.declared.outcome.Noted.TheVariants.{Nothing, Charged, Drawn, Counted}
use Rattle.engine_core.specs.declared.outcome.Why.TheVariants.{Denied, Short, Over}
use Rattle.engine_core.specs.declared.outcome.Outcome.TheVariants.{Passed, Refused, Redacted}
use Rattle.engine_core.specs.declared.op.Op.TheVariants.{Attach, Detach, Upgrade}

-- a request with the field 1 at 150
abbrev request : Call
request = record { conn = 1; seq = 1; method = 0; number = 0; tree = field 1 (one (number 150)) no_fields }

-- one call per second, two at once
abbrev holding : RatePolicy
holding = record { amount = 1; per = 1000; burst = 2; hold = true }

abbrev denying : RatePolicy
denying = record { amount = 1; per = 1000; burst = 2; hold = false }

first_charge : IsEntryAnswer (Rate holding) 2000 0 request nothing (note (Charged 1000))
first_charge = answers.charges holding refl refl (omega arith) refl

-- a charged call passes, even with an empty bucket
charged_once : IsAllowedBy (Rate holding) 0 0 request charged
charged_once = answers.was_charged holding refl (λ none. cc) refl

empty_bucket : IsEntryAnswer (Rate holding) 0 0 request nothing (hold 0 1000)
empty_bucket = answers.holds holding refl refl (omega arith) refl refl

empty_bucket_that_denies : IsTurnOutcome (Rate denying) 999 0 request nothing (Refused Nothing (Short 999 1000))
empty_bucket_that_denies = turns.is_refused (Short 999 1000) (answers.refuses denying refl refl (omega arith) refl refl) refl

-- a quota with the cap 0 draws a ticket, and refuses the call
cap_of_none : IsTurnOutcome (Quota 0 1000 0) 0 0 request nothing (Refused (Drawn 0 0) (Over 0 0))
cap_of_none = turns.is_noted_and_refused (Drawn 0 0) (Over 0 0) (answers.draws 0 1000 0 0 refl (λ t none. cc) refl)
    (answers.is_over 0 1000 0 0 refl refl (omega arith) refl) refl

-- the cap is that at the time of the turn, not that of the draw
ticket_under_another_cap : IsEntryAnswer (Quota 0 1000 1) 0 0 request (drawn 1) (over 1 1)
ticket_under_another_cap = answers.is_over 0 1000 1 1 refl refl (omega arith) refl

ticket_under_a_raised_cap : IsAllowedBy (Quota 0 1000 2) 0 0 request (drawn 1)
ticket_under_a_raised_cap = answers.is_within 0 1000 2 1 refl refl (omega arith) refl

later_window : IsEntryAnswer (Quota 0 1000 1) 0 1999 request nothing (note (Drawn 1 7))
later_window = answers.draws 0 1000 1 7 refl (λ t none. cc) refl

last_window : IsEntryAnswer (Quota 0 1 1) 0 9007199254740992 request nothing (note (Drawn 1023 7))
last_window = answers.draws 0 1 1 7 refl (λ t none. cc) refl

first_count : IsTurnOutcome Count 0 0 request nothing (Passed Counted)
first_count = turns.is_noted_and_passes Counted (answers.counts refl refl refl) (answers.was_counted refl (λ none. cc) refl) refl

denied_by_default : IsTurnOutcome (Access (record { rules = []; allow = false })) 0 0 request nothing (Refused Nothing (Denied 0))
denied_by_default = turns.is_refused (Denied 0) (answers.denies (record { rules = []; allow = false }) refl refl refl) refl

nothing_to_clear : IsAllowedBy (Redact []) 0 0 request nothing
nothing_to_clear = answers.is_clear [] refl refl refl

-- the field 1 of requests of the first method
abbrev clear_first : Clear
clear_first = record { method = 0; sort = Request; path = record { way = []; number = 1; kind = Uint64; label = Plain } }

first_redaction : IsTurnOutcome (Redact (clear_first ∷ [])) 0 0 request nothing Redacted
first_redaction = turns.is_redacted (answers.redacts (clear_first ∷ []) refl (λ same. cc) refl) refl

-- nothing more is cleared from a cleared tree, nor from a reply
nothing_left_to_clear : IsAllowedBy (Redact (clear_first ∷ [])) 0 0 (record request { tree = no_fields }) nothing
nothing_left_to_clear = answers.is_clear (clear_first ∷ []) refl refl refl

reply_is_not_cleared : IsAllowedBy (Redact (clear_first ∷ [])) 0 0 (record request { number = 3 }) nothing
reply_is_not_cleared = answers.is_clear (clear_first ∷ []) refl refl refl

-- ---- chains

abbrev opening : Policy
opening = Access (record { rules = []; allow = true })

abbrev closing : Policy
closing = Access (record { rules = []; allow = false })

abbrev none : Chain
none = record { entries = []; attached = 0 }

abbrev one_entry : Chain
one_entry = record { entries = new_entry (codes "acl") 1 opening ∷ []; attached = 1 }

abbrev two_entries : Chain
two_entries = record { entries = new_entry (codes "acl") 1 opening ∷ new_entry (codes "rl") 2 (Rate holding) ∷ []; attached = 2 }

attached_first : IsChangeOf none (Attach 0 (codes "acl") (codes "p1") opening) one_entry
attached_first = chains.attaches 0 (codes "acl") (codes "p1") opening [] [] refl refl refl refl

attached_behind : IsChangeOf one_entry (Attach 1 (codes "rl") (codes "rl") (Rate holding)) two_entries
attached_behind = chains.attaches 1 (codes "rl") (codes "rl") (Rate holding) (new_entry (codes "acl") 1 opening ∷ []) [] refl refl refl refl

-- an upgrade keeps the attachment, and has the next version
upgraded_first : IsChangeOf two_entries (Upgrade (codes "acl") (codes "p2") closing)
    (record { entries = record { name = codes "acl"; attach = 1; version = 2; policy = closing } ∷ new_entry (codes "rl") 2 (Rate holding) ∷ []; attached = 2 })
upgraded_first = chains.upgrades (codes "acl") (codes "p2") closing (new_entry (codes "acl") 1 opening) [] (new_entry (codes "rl") 2 (Rate holding) ∷ []) refl refl refl refl

-- an attachment after a detachment has a new number
detached_and_attached : IsChangeOf (record { entries = []; attached = 1 }) (Attach 0 (codes "acl") (codes "p1") opening)
    (record { entries = new_entry (codes "acl") 2 opening ∷ []; attached = 2 })
detached_and_attached = chains.attaches 0 (codes "acl") (codes "p1") opening [] [] refl refl refl refl

detached : IsChangeOf one_entry (Detach (codes "acl")) (record { entries = []; attached = 1 })
detached = chains.detaches (codes "acl") (new_entry (codes "acl") 1 opening) [] [] refl refl refl refl

past_the_end : IsReasonToReject none.entries (Attach 3 (codes "x") (codes "c") Count) (no_place 3)
past_the_end = chains.is_past 3 (codes "x") (codes "c") Count refl (omega arith) refl

other_tenant : IsReasonToReject (new_entry (codes "q") 1 (Quota 0 5 5) ∷ []) (Upgrade (codes "q") (codes "q") (Quota 1 5 5)) (other_kind (codes "q"))
other_tenant = chains.is_other (codes "q") (codes "q") (Quota 1 5 5) (new_entry (codes "q") 1 (Quota 0 5 5)) refl (0, omega arith, refl) refl refl refl
