-- A turn has one outcome.
use Rattle.std.proofs.Common.{◌≡◌, ℕ, None, refl, ap, sym, ◌∙◌, subst}
use Rattle.mrpc_table.specs.declared.call.Call.{Call}
use Rattle.engine_core.specs.Answers.{Past, Answer, pass, deny, hold, refuse, over, note, redact, ticket_in, IsEntryAnswer, level_after_note, past_after}
use Rattle.engine_core.specs.Turns.{IsTurnOutcome, passes, is_noted_and_passes, is_held, is_refused, is_noted_and_refused, is_redacted, noted_in}
use Rattle.engine_core.specs.declared.policy.Policy.{Policy}
use Rattle.engine_core.specs.declared.outcome.Noted.{Noted}
use Rattle.engine_core.specs.declared.outcome.Noted.TheVariants.{Nothing}
use Rattle.engine_core.specs.declared.outcome.Why.TheVariants.{Denied, Short, Over}
use Rattle.engine_core.specs.declared.outcome.Outcome.{Outcome}
use Rattle.engine_core.specs.declared.outcome.Outcome.TheVariants.{Passed, Held, Refused, Redacted}
use Rattle.engine_core.proofs.AnswerLaws.{allows_at_any_time, one_answer}

-- the level and the note after an answer
abbrev level_by : Answer → ℕ → ℕ
level_by (note n) level = level_after_note n level
level_by _ level = level

abbrev past_by : Answer → Past → Past
past_by (note n) past = past_after n past
past_by _ past = past

-- the outcome, by the first answer and by the last
abbrev behind : Noted → Answer → Outcome
behind n (deny rule) = Refused n (Denied rule)
behind n (refuse level cost) = Refused n (Short level cost)
behind n (over ticket cap) = Refused n (Over ticket cap)
behind n _ = Passed n

abbrev outcome_by : Answer → Answer → Outcome
outcome_by pass last = Passed Nothing
outcome_by (deny rule) last = Refused Nothing (Denied rule)
outcome_by (hold level cost) last = Held level cost
outcome_by (refuse level cost) last = Refused Nothing (Short level cost)
outcome_by (over ticket cap) last = Refused Nothing (Over ticket cap)
outcome_by (note n) last = behind n last
outcome_by redact last = Redacted

record Parts (policy : Policy) (level moment : ℕ) (form : Call) (past : Past) (outcome : Outcome) : Type 0 where
  first : Answer
  last : Answer
  answers : IsEntryAnswer policy level moment form past first
  then : IsEntryAnswer policy (level_by first level) moment form (past_by first past) last
  no_draw : ticket_in last ≡ None
  is : outcome ≡ outcome_by first last

alone : {policy : Policy} {level moment : ℕ} {form : Call} {past : Past} {outcome : Outcome} (a : Answer) → IsEntryAnswer policy level moment form past a
    → IsEntryAnswer policy (level_by a level) moment form (past_by a past) a → ticket_in a ≡ None → outcome ≡ outcome_by a a → Parts policy level moment form past outcome
alone a answers then no_draw is = record { first = a; last = a; answers = answers; then = then; no_draw = no_draw; is = is }

parts : (policy : Policy) (level moment : ℕ) (form : Call) (past : Past) (a : Outcome) → IsTurnOutcome policy level moment form past a → Parts policy level moment form past a
parts policy level moment form past a (passes first out) = alone pass first first refl out
parts policy level moment form past a (is_noted_and_passes n first last out) = record { first = note n; last = pass; answers = first; then = last; no_draw = refl; is = out }
parts policy level moment form past a (is_held l cost first out) = alone (hold l cost) first first refl out
parts policy level moment form past a (is_refused (Denied rule) first out) = alone (deny rule) first first refl out
parts policy level moment form past a (is_refused (Short l cost) first out) = alone (refuse l cost) first first refl out
parts policy level moment form past a (is_refused (Over ticket cap) first out) = alone (over ticket cap) first first refl out
parts policy level moment form past a (is_noted_and_refused n (Denied rule) first last out) =
    record { first = note n; last = deny rule; answers = first; then = last; no_draw = refl; is = out }
parts policy level moment form past a (is_noted_and_refused n (Short l cost) first last out) =
    record { first = note n; last = refuse l cost; answers = first; then = last; no_draw = refl; is = out }
parts policy level moment form past a (is_noted_and_refused n (Over ticket cap) first last out) =
    record { first = note n; last = over ticket cap; answers = first; then = last; no_draw = refl; is = out }
parts policy level moment form past a (is_redacted first out) = alone redact first first refl out

-- the ticket of the first answer
ticket-behind : (n : Noted) (last : Answer) → noted_in (behind n last) ≡ n
ticket-behind n pass = refl
ticket-behind n (deny rule) = refl
ticket-behind n (hold level cost) = refl
ticket-behind n (refuse level cost) = refl
ticket-behind n (over ticket cap) = refl
ticket-behind n (note m) = refl
ticket-behind n redact = refl

ticket-first : (first last : Answer) → ticket_in (note (noted_in (outcome_by first last))) ≡ ticket_in first
ticket-first pass last = refl
ticket-first (deny rule) last = refl
ticket-first (hold level cost) last = refl
ticket-first (refuse level cost) last = refl
ticket-first (over ticket cap) last = refl
ticket-first (note n) last = ap (λ (m : Noted). ticket_in (note m)) (ticket-behind n last)
ticket-first redact last = refl

pub one_outcome : (policy : Policy) (level moment : ℕ) (form : Call) (past : Past) (a b : Outcome) → IsTurnOutcome policy level moment form past a → IsTurnOutcome policy level moment form past b
    → ticket_in (note (noted_in a)) ≡ ticket_in (note (noted_in b)) → a ≡ b
one_outcome policy level moment form past a b left right same =
    let p = parts policy level moment form past a left in
    let q = parts policy level moment form past b right in
    let tickets : ticket_in p.first ≡ ticket_in q.first = sym (ticket-first p.first p.last)
    ∙ (ap (λ (o : Outcome). ticket_in (note (noted_in o))) (sym p.is)
    ∙ (same ∙ (ap (λ (o : Outcome). ticket_in (note (noted_in o))) q.is ∙ ticket-first q.first q.last))) in
    let firsts : p.first ≡ q.first = one_answer policy level moment form past p.first q.first p.answers q.answers tickets in
    let lasts : p.last ≡ q.last = one_answer policy (level_by q.first level) moment form (past_by q.first past) p.last q.last
    (subst (λ (x : Answer). IsEntryAnswer policy (level_by x level) moment form (past_by x past) p.last) firsts p.then) q.then (p.no_draw ∙ sym q.no_draw) in
    p.is ∙ (ap (λ (x : Answer). outcome_by x p.last) firsts ∙ (ap (λ (x : Answer). outcome_by q.first x) lasts ∙ sym q.is))

-- what passed is allowed
pub passed_is_allowed : (policy : Policy) (level moment other later : ℕ) (form : Call) (past : Past) (n : Noted) → IsTurnOutcome policy level moment form past (Passed n)
    → IsEntryAnswer policy other later form (past_after n past) pass
passed_is_allowed policy level moment other later form past n (passes first out) =
    let none : n ≡ Nothing = cc in
    rw none (allows_at_any_time policy level moment other later form past first)
passed_is_allowed policy level moment other later form past n (is_noted_and_passes m first last out) =
    let same : n ≡ m = cc in
    rw same (allows_at_any_time policy (level_after_note m level) moment other later form (past_after m past) last)
passed_is_allowed policy level moment other later form past n (is_held l cost first out) = absurd cc
passed_is_allowed policy level moment other later form past n (is_refused why first out) = absurd cc
passed_is_allowed policy level moment other later form past n (is_noted_and_refused m why first last out) = absurd cc
passed_is_allowed policy level moment other later form past n (is_redacted first out) = absurd cc
