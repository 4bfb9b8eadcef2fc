-- How a turn changes the trace.
use Rattle.std.proofs.Common.{◌≡◌, ◌≢◌, ℕ, List, [], ◌∷◌, ◌++◌, reverse, refl, ap, sym, ◌∙◌}
use Rattle.std.specs.Prelude.{option_map, Some}
use Rattle.std.proofs.lemmas.List.{append_assoc, append-nil}
use Rattle.mrpc_table.specs.declared.call.Call.{Call}
use Rattle.engine_core.specs.Answers.{level_after_note, past_after}
use Rattle.engine_core.specs.Chains.{Entry}
use Rattle.engine_core.specs.Turns.{form_after, noted_in}
use Rattle.engine_core.specs.declared.outcome.Noted.{Noted}
use Rattle.engine_core.specs.declared.outcome.Noted.TheVariants as notes
use Rattle.engine_core.specs.declared.outcome.Outcome.{Outcome}
use Rattle.engine_core.specs.declared.outcome.Outcome.TheVariants.{Passed, Held, Refused, Redacted}
use Rattle.engine_core.specs.declared.policy.Policy.{Policy}
use Rattle.engine_core.specs.declared.policy.Policy.TheVariants as policies
use Rattle.chain_upgrade.specs.Chains.{row_after}
use Rattle.call_history.specs.Trace.{Trace, chain, form, level_in_trace, timestamp, noted, policy_in_trace, redacted, taken}
use Rattle.call_history.specs.Transitions.{ConnState, cause_of, with_note, trace_after_turn}
use Rattle.call_history.specs.declared.happening.Happening.{Happening}
use Rattle.call_history.specs.declared.happening.Happening.TheVariants as what
use Rattle.conn_core.specs.Invariant.{note_events, turn_events}
use Rattle.conn_core.proofs.Told.{behind-one, form-cleared, form-cleared_another, form-noted, level-noted, level-noted_other, noted-another, noted-elsewhere, noted-noted}

-- ---- the events

note-is : (name : List ℕ) (seq : ℕ) (n : Noted) (h : List Happening)
    → reverse (h ++ note_events name seq n) ≡ with_note name seq n (reverse h)
note-is name seq notes.Nothing h = ap reverse (append-nil h)
note-is name seq (notes.Charged left) h = behind-one h (what.Charged seq name left)
note-is name seq (notes.Drawn window ticket) h = behind-one h (what.Drawn seq name window ticket)
note-is name seq notes.Counted h = behind-one h (what.Counted seq name)

pub turn-is : (e : Entry) (seq : ℕ) (outcome : Outcome) (h : List Happening) (c : ConnState) → c.past ≡ reverse h
    → reverse (h ++ turn_events e seq outcome) ≡ (trace_after_turn e seq outcome c).past
turn-is e seq (Passed n) h c is = note-is e.name seq n h ∙ ap (with_note e.name seq n) (sym is)
turn-is e seq (Held left cost) h c is = ap reverse (append-nil h) ∙ sym is
turn-is e seq (Refused n why) h c is =
    ap reverse (sym (append_assoc h (note_events e.name seq n) (what.Refused seq (cause_of e why) ∷ [])))
    ∙ behind-one (h ++ note_events e.name seq n) (what.Refused seq (cause_of e why))
    ∙ ap (λ (past : Trace). what.Refused seq (cause_of e why) ∷ past)
    (note-is e.name seq n h ∙ ap (with_note e.name seq n) (sym is))
turn-is e seq Redacted h c is =
    behind-one h (what.Redacted seq e.name e.version) ∙ ap (λ (past : Trace). what.Redacted seq e.name e.version
    ∷ past) (sym is)

pub row-turned : (e : Entry) (seq : ℕ) (outcome : Outcome) (c : ConnState)
    → (trace_after_turn e seq outcome c).row ≡ row_after seq outcome c.row
row-turned e seq (Passed n) c = refl
row-turned e seq (Held left cost) c = refl
row-turned e seq (Refused n why) c = refl
row-turned e seq Redacted c = refl

pub ended-turned : (e : Entry) (seq : ℕ) (outcome : Outcome) (c : ConnState) → (trace_after_turn e seq outcome c).ended ≡ c.ended
ended-turned e seq (Passed n) c = refl
ended-turned e seq (Held left cost) c = refl
ended-turned e seq (Refused n why) c = refl
ended-turned e seq Redacted c = refl

-- ---- the state after a turn

chain-noted : (name : List ℕ) (seq : ℕ) (n : Noted) (past : Trace) → chain (with_note name seq n past) ≡ chain past
chain-noted name seq notes.Nothing past = refl
chain-noted name seq (notes.Charged left) past = refl
chain-noted name seq (notes.Drawn window ticket) past = refl
chain-noted name seq notes.Counted past = refl

moment-noted : (name : List ℕ) (seq : ℕ) (n : Noted) (past : Trace)
    → timestamp (with_note name seq n past) ≡ timestamp past
moment-noted name seq notes.Nothing past = refl
moment-noted name seq (notes.Charged left) past = refl
moment-noted name seq (notes.Drawn window ticket) past = refl
moment-noted name seq notes.Counted past = refl

taken-noted : (name : List ℕ) (seq : ℕ) (n : Noted) (past : Trace) → taken (with_note name seq n past) ≡ taken past
taken-noted name seq notes.Nothing past = refl
taken-noted name seq (notes.Charged left) past = refl
taken-noted name seq (notes.Drawn window ticket) past = refl
taken-noted name seq notes.Counted past = refl

pub chain-turned : (e : Entry) (seq : ℕ) (outcome : Outcome) (c : ConnState)
    → chain (trace_after_turn e seq outcome c).past ≡ chain c.past
chain-turned e seq (Passed n) c = chain-noted e.name seq n c.past
chain-turned e seq (Held left cost) c = refl
chain-turned e seq (Refused n why) c = chain-noted e.name seq n c.past
chain-turned e seq Redacted c = refl

pub moment-turned : (e : Entry) (seq : ℕ) (outcome : Outcome) (c : ConnState)
    → timestamp (trace_after_turn e seq outcome c).past ≡ timestamp c.past
moment-turned e seq (Passed n) c = moment-noted e.name seq n c.past
moment-turned e seq (Held left cost) c = refl
moment-turned e seq (Refused n why) c = moment-noted e.name seq n c.past
moment-turned e seq Redacted c = refl

pub taken-turned : (e : Entry) (seq : ℕ) (outcome : Outcome) (c : ConnState)
    → taken (trace_after_turn e seq outcome c).past ≡ taken c.past
taken-turned e seq (Passed n) c = taken-noted e.name seq n c.past
taken-turned e seq (Held left cost) c = refl
taken-turned e seq (Refused n why) c = taken-noted e.name seq n c.past
taken-turned e seq Redacted c = refl

-- ---- levels and notes

pub level-turned : (e : Entry) (seq : ℕ) (outcome : Outcome) (c : ConnState)
    → level_in_trace e.name (trace_after_turn e seq outcome c).past ≡ level_after_note (noted_in outcome) (level_in_trace e.name c.past)
level-turned e seq (Passed n) c = level-noted e.name seq n c.past
level-turned e seq (Held left cost) c = refl
level-turned e seq (Refused n why) c = level-noted e.name seq n c.past
level-turned e seq Redacted c = refl

pub level-turned_other : (e : Entry) (other : List ℕ) (seq : ℕ) (outcome : Outcome) (c : ConnState) → e.name ≢ other
    → level_in_trace other (trace_after_turn e seq outcome c).past ≡ level_in_trace other c.past
level-turned_other e other seq (Passed n) c apart = level-noted_other e.name other seq n c.past apart
level-turned_other e other seq (Held left cost) c apart = refl
level-turned_other e other seq (Refused n why) c apart = level-noted_other e.name other seq n c.past apart
level-turned_other e other seq Redacted c apart = refl

pub noted-turned : (e : Entry) (seq : ℕ) (outcome : Outcome) (c : ConnState)
    → noted e.name seq (trace_after_turn e seq outcome c).past ≡ past_after (noted_in outcome) (noted e.name seq c.past)
noted-turned e seq (Passed n) c = noted-noted e.name seq n c.past
noted-turned e seq (Held left cost) c = refl
noted-turned e seq (Refused n why) c = noted-noted e.name seq n c.past
noted-turned e seq Redacted c = refl

pub noted-turned_another : (e : Entry) (other : List ℕ) (seq s : ℕ) (outcome : Outcome) (c : ConnState) → seq ≢ s
    → noted other s (trace_after_turn e seq outcome c).past ≡ noted other s c.past
noted-turned_another e other seq s (Passed n) c apart = noted-another e.name other seq s n c.past apart
noted-turned_another e other seq s (Held left cost) c apart = refl
noted-turned_another e other seq s (Refused n why) c apart = noted-another e.name other seq s n c.past apart
noted-turned_another e other seq s Redacted c apart = refl

pub noted-turned_elsewhere : (e : Entry) (other : List ℕ) (seq s : ℕ) (outcome : Outcome) (c : ConnState) → e.name ≢ other
    → noted other s (trace_after_turn e seq outcome c).past ≡ noted other s c.past
noted-turned_elsewhere e other seq s (Passed n) c apart = noted-elsewhere e.name other seq s n c.past apart
noted-turned_elsewhere e other seq s (Held left cost) c apart = refl
noted-turned_elsewhere e other seq s (Refused n why) c apart = noted-elsewhere e.name other seq s n c.past apart
noted-turned_elsewhere e other seq s Redacted c apart = refl

-- ---- forms

pub form-turned_another : (conn : ℕ) (e : Entry) (seq s : ℕ) (outcome : Outcome) (c : ConnState) → seq ≢ s
    → form conn s (trace_after_turn e seq outcome c).past ≡ form conn s c.past
form-turned_another conn e seq s (Passed n) c apart = form-noted conn s e.name seq n c.past
form-turned_another conn e seq s (Held left cost) c apart = refl
form-turned_another conn e seq s (Refused n why) c apart = form-noted conn s e.name seq n c.past
form-turned_another conn e seq s Redacted c apart = form-cleared_another conn seq s e.version e.name c.past apart

redacted-is : (policy : Policy) (call : Call) → redacted (Some policy) call ≡ form_after Redacted policy call
redacted-is (policies.Access p) call = refl
redacted-is (policies.Rate r) call = refl
redacted-is (policies.Quota tenant per cap) call = refl
redacted-is policies.Count call = refl
redacted-is (policies.Redact clears) call = refl

pub form-turned : (conn : ℕ) (e : Entry) (seq : ℕ) (outcome : Outcome) (c : ConnState) (call : Call)
    → form conn seq c.past ≡ Some call
    → policy_in_trace e.name c.past ≡ Some e.policy
    → form conn seq (trace_after_turn e seq outcome c).past ≡ Some (form_after outcome e.policy call)
form-turned conn e seq (Passed n) c call is policy = form-noted conn seq e.name seq n c.past ∙ is
form-turned conn e seq (Held left cost) c call is policy = is
form-turned conn e seq (Refused n why) c call is policy = form-noted conn seq e.name seq n c.past ∙ is
form-turned conn e seq Redacted c call is policy =
    form-cleared conn seq e.version e.name c.past
    ∙ ap (λ p. option_map (redacted p) (form conn seq c.past)) policy
    ∙ ap (option_map (redacted (Some e.policy))) is
    ∙ ap (λ (call : Call). Some call) (redacted-is e.policy call)
