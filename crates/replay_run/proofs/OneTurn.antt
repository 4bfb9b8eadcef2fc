-- Turns from one state have the same outcome, if the tickets that they draw are the next of their windows.
use Rattle.std.proofs.Common.{◌≡◌, ◌≢◌, ℕ, min, ◌/◌, refl, sym, ap, ◌∙◌, subst}
use Rattle.mrpc_table.specs.declared.call.Call.{Call}
use Rattle.std.specs.Prelude.{None, Some}
use Rattle.engine_core.specs.Answers.{Answer, IsEntryAnswer, Past, allows, charges, counts, denies, drawn, draws, holds}
use Rattle.engine_core.specs.Answers.{is_clear, is_over, is_within, note, redacts, refuses, ticket_in, was_charged}
use Rattle.engine_core.specs.Answers.{was_counted}
use Rattle.engine_core.specs.Turns.{IsTurnOutcome, is_held, is_noted_and_passes, is_noted_and_refused, is_redacted, is_refused, noted_in, passes, refusal}
use Rattle.engine_core.specs.declared.outcome.Noted.{Noted}
use Rattle.engine_core.specs.declared.outcome.Noted.TheVariants as notes
use Rattle.engine_core.specs.declared.outcome.Outcome.{Outcome}
use Rattle.engine_core.specs.declared.outcome.Why.{Why}
use Rattle.engine_core.specs.declared.outcome.Why.TheVariants.{Denied, Short, Over}
use Rattle.engine_core.specs.declared.policy.Policy.{Policy}
use Rattle.engine_core.specs.declared.policy.Policy.TheVariants.{Quota}

-- ---- a quota that draws

-- a call for which a quota has drawn nothing
pub record IsUndrawn (policy : Policy) (at window : ℕ) (past : Past) : Type 0 where
  pub tenant : ℕ
  pub per : ℕ
  pub cap : ℕ
  pub quota : policy ≡ Quota tenant per cap
  pub none : (t : ℕ) → past ≢ drawn t
  pub window_is : window ≡ min (at / per) 1023

draws-only : (policy : Policy) (left at : ℕ) (form : Call) (past : Past) (window ticket : ℕ)
    → IsEntryAnswer policy left at form past (note (notes.Drawn window ticket)) → IsUndrawn policy at window past
draws-only policy left at form past window ticket (allows p is allowed answer) = cc
draws-only policy left at form past window ticket (denies p is denied answer) = cc
draws-only policy left at form past window ticket (was_charged r is some answer) = cc
draws-only policy left at form past window ticket (charges r is none enough answer) = cc
draws-only policy left at form past window ticket (holds r is none short hold answer) = cc
draws-only policy left at form past window ticket (refuses r is none short hold answer) = cc
draws-only policy left at form past window ticket (is_within tenant per cap t is was below answer) = cc
draws-only policy left at form past window ticket (is_over tenant per cap t is was above answer) = cc
draws-only policy left at form past window ticket (draws tenant per cap t is none answer) = record { tenant = tenant; per = per; cap = cap; quota = is; none = none; window_is = cc }
draws-only policy left at form past window ticket (was_counted is some answer) = cc
draws-only policy left at form past window ticket (counts is none answer) = cc
draws-only policy left at form past window ticket (is_clear clears is same answer) = cc
draws-only policy left at form past window ticket (redacts clears is differs answer) = cc

-- such a call has no answer but a draw
record IsDraw (at per : ℕ) (answer : Answer) : Type 0 where
  ticket : ℕ
  is : answer ≡ note (notes.Drawn (min (at / per) 1023) ticket)

only-draws : (policy : Policy) (left at tenant per cap : ℕ) (form : Call) (past : Past) (answer : Answer) → policy ≡ Quota tenant per cap → ((t : ℕ) → past ≢ drawn t)
    → IsEntryAnswer policy left at form past answer → IsDraw at per answer
only-draws policy left at tenant per cap form past answer quota undrawn (allows p is allowed was) = cc
only-draws policy left at tenant per cap form past answer quota undrawn (denies p is denied was) = cc
only-draws policy left at tenant per cap form past answer quota undrawn (was_charged r is some was) = cc
only-draws policy left at tenant per cap form past answer quota undrawn (charges r is none enough was) = cc
only-draws policy left at tenant per cap form past answer quota undrawn (holds r is none short hold was) = cc
only-draws policy left at tenant per cap form past answer quota undrawn (refuses r is none short hold was) = cc
only-draws policy left at tenant per cap form past answer quota undrawn (is_within owner every most t is has below was) = absurd (undrawn t has)
only-draws policy left at tenant per cap form past answer quota undrawn (is_over owner every most t is has above was) = absurd (undrawn t has)
only-draws policy left at tenant per cap form past answer quota undrawn (draws owner every most t is none was) =
    let same : every ≡ per = cc in record { ticket = t; is = was ∙ ap (λ p. note (notes.Drawn (min (at / p) 1023) t)) same }
only-draws policy left at tenant per cap form past answer quota undrawn (was_counted is some was) = cc
only-draws policy left at tenant per cap form past answer quota undrawn (counts is none was) = cc
only-draws policy left at tenant per cap form past answer quota undrawn (is_clear clears is same was) = cc
only-draws policy left at tenant per cap form past answer quota undrawn (redacts clears is differs was) = cc

-- a turn that notes a draw had that answer
turn-draws : (policy : Policy) (left at : ℕ) (form : Call) (past : Past) (outcome : Outcome) (window ticket : ℕ) → IsTurnOutcome policy left at form past outcome
    → noted_in outcome ≡ notes.Drawn window ticket → IsUndrawn policy at window past
turn-draws policy left at form past outcome window ticket (passes answers is) draw = let none : notes.Nothing ≡ notes.Drawn window ticket = sym (ap noted_in is) ∙ draw in cc
turn-draws policy left at form past outcome window ticket (is_noted_and_passes n answers after is) draw =
    let same : n ≡ notes.Drawn window ticket = sym (ap noted_in is) ∙ draw in
    draws-only policy left at form past window ticket (subst (λ m. IsEntryAnswer policy left at form past (note m)) same answers)
turn-draws policy left at form past outcome window ticket (is_held l cost answers is) draw = let none : notes.Nothing ≡ notes.Drawn window ticket = sym (ap noted_in is) ∙ draw in cc
turn-draws policy left at form past outcome window ticket (is_refused why answers is) draw = let none : notes.Nothing ≡ notes.Drawn window ticket = sym (ap noted_in is) ∙ draw in cc
turn-draws policy left at form past outcome window ticket (is_noted_and_refused n why answers after is) draw =
    let same : n ≡ notes.Drawn window ticket = sym (ap noted_in is) ∙ draw in
    draws-only policy left at form past window ticket (subst (λ m. IsEntryAnswer policy left at form past (note m)) same answers)
turn-draws policy left at form past outcome window ticket (is_redacted answers is) draw = let none : notes.Nothing ≡ notes.Drawn window ticket = sym (ap noted_in is) ∙ draw in cc

-- a turn with a call for which nothing was drawn notes a draw
record NotesDraw (at per : ℕ) (outcome : Outcome) : Type 0 where
  ticket : ℕ
  is : noted_in outcome ≡ notes.Drawn (min (at / per) 1023) ticket

no-refusal : (why : Why) (n : Noted) → refusal why ≡ note n → ⊥
no-refusal (Denied rule) n is = cc
no-refusal (Short left cost) n is = cc
no-refusal (Over ticket cap) n is = cc

undrawn-draws : (policy : Policy) (left at tenant per cap : ℕ) (form : Call) (past : Past) (outcome : Outcome) → policy ≡ Quota tenant per cap → ((t : ℕ) → past ≢ drawn t)
    → IsTurnOutcome policy left at form past outcome → NotesDraw at per outcome
undrawn-draws policy left at tenant per cap form past outcome quota undrawn (passes answers is) =
    let d = (only-draws policy left at tenant per cap form past _ quota undrawn answers).is in cc
undrawn-draws policy left at tenant per cap form past outcome quota undrawn (is_noted_and_passes n answers after is) =
    let d = only-draws policy left at tenant per cap form past (note n) quota undrawn answers in
    let same : n ≡ notes.Drawn (min (at / per) 1023) d.ticket = let e = d.is in cc in
    record { ticket = d.ticket; is = ap noted_in is ∙ same }
undrawn-draws policy left at tenant per cap form past outcome quota undrawn (is_held l cost answers is) =
    let d = (only-draws policy left at tenant per cap form past _ quota undrawn answers).is in cc
undrawn-draws policy left at tenant per cap form past outcome quota undrawn (is_refused why answers is) =
    absurd (no-refusal why _ (only-draws policy left at tenant per cap form past (refusal why) quota undrawn answers).is)
undrawn-draws policy left at tenant per cap form past outcome quota undrawn (is_noted_and_refused n why answers after is) =
    let d = only-draws policy left at tenant per cap form past (note n) quota undrawn answers in
    let same : n ≡ notes.Drawn (min (at / per) 1023) d.ticket = let e = d.is in cc in
    record { ticket = d.ticket; is = ap noted_in is ∙ same }
undrawn-draws policy left at tenant per cap form past outcome quota undrawn (is_redacted answers is) =
    let d = (only-draws policy left at tenant per cap form past _ quota undrawn answers).is in cc

-- ---- two turns

abbrev IsNoDraw : Noted → Type 0
IsNoDraw (notes.Drawn window ticket) = ⊥
IsNoDraw _ = Unit {0}

-- if one notes no draw, the other notes none
none-draws : (policy : Policy) (left at : ℕ) (form : Call) (past : Past) (a b : Outcome) → IsTurnOutcome policy left at form past a → IsTurnOutcome policy left at form past b
    → IsNoDraw (noted_in a) → (m : Noted) → noted_in b ≡ m → ticket_in (note m) ≡ None
none-draws policy left at form past a b first second free (notes.Drawn window ticket) is =
    let u : IsUndrawn policy at window past = turn-draws policy left at form past b window ticket second is in
    let d : NotesDraw at u.per a = undrawn-draws policy left at u.tenant u.per u.cap form past a u.quota u.none first in
    absurd (subst IsNoDraw d.is free)
none-draws policy left at form past a b first second free notes.Nothing is = refl
none-draws policy left at form past a b first second free (notes.Charged level) is = refl
none-draws policy left at form past a b first second free notes.Counted is = refl

-- two turns draw the same ticket, or none, if two draws of one window have one ticket
pub same-ticket : (policy : Policy) (left at : ℕ) (form : Call) (past : Past) (a b : Outcome) → IsTurnOutcome policy left at form past a → IsTurnOutcome policy left at form past b
    → ((tenant per cap window s t : ℕ) → policy ≡ Quota tenant per cap → noted_in a ≡ notes.Drawn window s → noted_in b ≡ notes.Drawn window t → s ≡ t)
    → (n m : Noted) → noted_in a ≡ n → noted_in b ≡ m → ticket_in (note n) ≡ ticket_in (note m)
same-ticket policy left at form past a b first second one (notes.Drawn window s) m is other =
    let u : IsUndrawn policy at window past = turn-draws policy left at form past a window s first is in
    let d : NotesDraw at u.per b = undrawn-draws policy left at u.tenant u.per u.cap form past b u.quota u.none second in
    let drawn_here : noted_in b ≡ notes.Drawn window d.ticket = d.is ∙ ap (λ w. notes.Drawn w d.ticket) (sym u.window_is) in
    let same : s ≡ d.ticket = one u.tenant u.per u.cap window s d.ticket u.quota is drawn_here in
    ap (λ t. Some t) same ∙ ap (λ k. ticket_in (note k)) (sym drawn_here ∙ other)
same-ticket policy left at form past a b first second one notes.Nothing m is other = sym (none-draws policy left at form past a b first second (subst IsNoDraw (sym is) tt) m other)
same-ticket policy left at form past a b first second one (notes.Charged level) m is other = sym (none-draws policy left at form past a b first second (subst IsNoDraw (sym is) tt) m other)
same-ticket policy left at form past a b first second one notes.Counted m is other = sym (none-draws policy left at form past a b first second (subst IsNoDraw (sym is) tt) m other)
