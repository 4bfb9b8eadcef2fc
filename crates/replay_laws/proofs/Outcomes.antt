-- A turn of an entry has an outcome, whichever ticket comes next.
use Rattle.std.proofs.Common.{◌≡◌, ◌≢◌, inl, inr, ℕ, ◌-◌, ◌/◌, min, refl, sym, subst}
use Rattle.std.specs.Prelude.{List}
use Rattle.std.proofs.lemmas.Bool.{cases_lt}
use Rattle.mrpc_table.specs.declared.call.Call.{Call}
use Rattle.policy_access.specs.Verdict.{verdict}
use Rattle.policy_redact.specs.Redacting.{cleared}
use Rattle.policy_redact.specs.declared.redact.Clear.{Clear}
use Rattle.engine_core.specs.Answers.{Answer, IsEntryAnswer, Past, drawn, redact, allows, denies, was_charged, charges}
use Rattle.engine_core.specs.Answers.{holds, refuses, is_within, is_over, draws, was_counted, counts, is_clear}
use Rattle.engine_core.specs.Answers.{redacts}
use Rattle.engine_core.specs.Turns.{IsTurnOutcome, passes, is_noted_and_passes, is_held, is_refused, is_noted_and_refused, is_redacted, noted_in}
use Rattle.engine_core.specs.declared.outcome.Noted.{Noted}
use Rattle.engine_core.specs.declared.outcome.Noted.TheVariants.{Nothing, Charged, Drawn, Counted}
use Rattle.engine_core.specs.declared.outcome.Why.TheVariants.{Denied, Short, Over}
use Rattle.engine_core.specs.declared.outcome.Outcome.{Outcome}
use Rattle.engine_core.specs.declared.outcome.Outcome.TheVariants.{Passed, Held, Refused, Redacted}
use Rattle.engine_core.specs.declared.policy.Policy.{Policy}
use Rattle.engine_core.specs.declared.policy.Policy.TheVariants.{Quota, Redact}

-- a ticket that was drawn is the next one of its tenant and window
abbrev pub IsNext : (ℕ → ℕ → ℕ) → Noted → Policy → Type 0
IsNext next (Drawn window ticket) (Quota tenant per cap) = ticket ≡ next tenant window
IsNext next n policy = Unit {0}

pub record Out (next : ℕ → ℕ → ℕ) (policy : Policy) (level moment : ℕ) (form : Call) (past : Past) : Type 0 where
  pub outcome : Outcome
  pub comes : IsTurnOutcome policy level moment form past outcome
  pub in_turn : IsNext next (noted_in outcome) policy

abbrev pub AnswerLaw : Type 0
AnswerLaw = (policy : Policy) (level moment : ℕ) (form : Call) (past : Past)
    → (answer : Answer) × IsEntryAnswer policy level moment form past answer

module _ (next : ℕ → ℕ → ℕ) (policy : Policy) (level moment : ℕ) (form : Call) (past : Past) where
  draw-out : (tenant per cap : ℕ) → policy ≡ Quota tenant per cap → ((t : ℕ) → past ≢ drawn t)
      → Out next policy level moment form past
  draw-out tenant per cap is was =
      let window : ℕ = min (moment / per) 1023 in
      let ticket : ℕ = next tenant window in
      let turn : IsNext next (Drawn window ticket) policy =
      subst (λ (p : Policy). IsNext next (Drawn window ticket) p) (sym is) refl in
      elim (cases_lt ticket cap) [
        | inl low ↦ record {
          outcome = Passed (Drawn window ticket);
          comes = is_noted_and_passes (Drawn window ticket) (draws tenant per cap ticket is was refl) (is_within tenant per cap ticket is refl low refl) refl;
          in_turn = turn;
        }
        | inr high ↦ record {
          outcome = Refused (Drawn window ticket) (Over ticket cap);
          comes = is_noted_and_refused (Drawn window ticket) (Over ticket cap) (draws tenant per cap ticket is was refl) (is_over tenant per cap ticket is refl high refl) refl;
          in_turn = turn;
        }
      ]

  by-answer : (answer : Answer) → IsEntryAnswer policy level moment form past answer → Out next policy level moment form past
  by-answer answer (allows p is allow same) =
      record { outcome = Passed Nothing; comes = passes (allows p is allow refl) refl; in_turn = tt }
  by-answer answer (denies p is allow same) =
      record { outcome = Refused Nothing (Denied (verdict p form).rule); comes = is_refused (Denied (verdict p form).rule) (denies p is allow refl) refl; in_turn = tt }
  by-answer answer (was_charged r is was same) =
      record { outcome = Passed Nothing; comes = passes (was_charged r is was refl) refl; in_turn = tt }
  by-answer answer (charges r is was enough same) = record {
    outcome = Passed (Charged (level - r.per));
    comes = is_noted_and_passes (Charged (level - r.per)) (charges r is was enough refl) (was_charged r is (λ e. cc) refl) refl;
    in_turn = tt;
  }
  by-answer answer (holds r is was short mode same) =
      record { outcome = Held level r.per; comes = is_held level r.per (holds r is was short mode refl) refl; in_turn = tt }
  by-answer answer (refuses r is was short mode same) =
      record { outcome = Refused Nothing (Short level r.per); comes = is_refused (Short level r.per) (refuses r is was short mode refl) refl; in_turn = tt }
  by-answer answer (is_within tenant per cap ticket is was low same) =
      record { outcome = Passed Nothing; comes = passes (is_within tenant per cap ticket is was low refl) refl; in_turn = tt }
  by-answer answer (is_over tenant per cap ticket is was high same) =
      record { outcome = Refused Nothing (Over ticket cap); comes = is_refused (Over ticket cap) (is_over tenant per cap ticket is was high refl) refl; in_turn = tt }
  by-answer answer (draws tenant per cap ticket is was same) = draw-out tenant per cap is was
  by-answer answer (was_counted is was same) =
      record { outcome = Passed Nothing; comes = passes (was_counted is was refl) refl; in_turn = tt }
  by-answer answer (counts is was same) = record {
    outcome = Passed Counted;
    comes = is_noted_and_passes Counted (counts is was refl) (was_counted is (λ e. cc) refl) refl;
    in_turn = tt;
  }
  by-answer answer (is_clear clears is left same) =
      record { outcome = Passed Nothing; comes = passes (is_clear clears is left refl) refl; in_turn = tt }
  by-answer answer (redacts clears is left same) =
      record { outcome = Redacted; comes = is_redacted (redacts clears is left refl) refl; in_turn = tt }

  pub comes-out : AnswerLaw → Out next policy level moment form past
  comes-out law = let some = law policy level moment form past in by-answer some.0 some.1

-- ---- redactions

module _ (policy : Policy) (level moment : ℕ) (form : Call) (past : Past) where
  abbrev Clears : Type 0
  Clears = (clears : List Clear) × (policy ≡ Redact clears) × (cleared clears form ≢ form.tree)

  answer-clears : (answer : Answer) → IsEntryAnswer policy level moment form past answer → answer ≡ redact → Clears
  answer-clears answer (allows p is allow same) e = absurd cc
  answer-clears answer (denies p is allow same) e = absurd cc
  answer-clears answer (was_charged r is was same) e = absurd cc
  answer-clears answer (charges r is was enough same) e = absurd cc
  answer-clears answer (holds r is was short mode same) e = absurd cc
  answer-clears answer (refuses r is was short mode same) e = absurd cc
  answer-clears answer (is_within tenant per cap ticket is was low same) e = absurd cc
  answer-clears answer (is_over tenant per cap ticket is was high same) e = absurd cc
  answer-clears answer (draws tenant per cap ticket is was same) e = absurd cc
  answer-clears answer (was_counted is was same) e = absurd cc
  answer-clears answer (counts is was same) e = absurd cc
  answer-clears answer (is_clear clears is left same) e = absurd cc
  answer-clears answer (redacts clears is left same) e = (clears, is, left)

  pub redaction-clears : IsTurnOutcome policy level moment form past Redacted → Clears
  redaction-clears (passes answers is) = absurd cc
  redaction-clears (is_noted_and_passes n first then is) = absurd cc
  redaction-clears (is_held l cost answers is) = absurd cc
  redaction-clears (is_refused why answers is) = absurd cc
  redaction-clears (is_noted_and_refused n why first then is) = absurd cc
  redaction-clears (is_redacted answers is) = answer-clears redact answers refl
