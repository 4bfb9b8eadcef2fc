-- How one more event changes levels, notes and forms.
use Rattle.std.proofs.Common.{◌≡◌, ◌≢◌, ℕ, true, false, ◌&&◌, ◌==◌, cond, List, [], ◌∷◌, ◌++◌, refl, ap, reverse}
use Rattle.std.specs.Prelude.{option_map}
use Rattle.std.specs.Str.{bytes_eq}
use Rattle.std.proofs.lemmas.Bool.{eq-eqb, ne_eqb, and_left, and_right, and_from, false_from_ne_true}
use Rattle.std.proofs.lemmas.List.{reverse-append}
use Rattle.std.proofs.lemmas.Slice.Eq.{bytes_eq-Decides}
use Rattle.engine_core.specs.Answers.{nothing, charged, drawn, counted, past_after, level_after_note}
use Rattle.engine_core.specs.Policies.{initial_level}
use Rattle.engine_core.specs.declared.op.Op.TheVariants.{Attach, Upgrade}
use Rattle.engine_core.specs.declared.outcome.Noted.{Noted}
use Rattle.engine_core.specs.declared.outcome.Noted.TheVariants as notes
use Rattle.engine_core.specs.declared.policy.Policy.{Policy}
use Rattle.call_history.specs.Trace.{Trace, converted, copied, form, level_in_trace, noted, policy_in_trace, redacted}
use Rattle.call_history.specs.Transitions.{with_note}
use Rattle.call_history.specs.declared.happening.Happening.{Happening}
use Rattle.call_history.specs.declared.happening.Happening.TheVariants.{Took, Op, Redacted}
use Rattle.call_history.specs.declared.happening.AcceptedCall.{AcceptedCall}

-- the last event is the first of the trace
pub behind-one : (h : List Happening) (x : Happening) → reverse (h ++ x ∷ []) ≡ x ∷ reverse h
behind-one h x = reverse-append h (x ∷ [])

-- ---- names

pub equal-name : (a b : List ℕ) → a ≡ b → bytes_eq a b ≡ true
equal-name a b = (bytes_eq-Decides a b).1

pub other-name : (a b : List ℕ) → a ≢ b → bytes_eq a b ≡ false
other-name a b apart = false_from_ne_true (bytes_eq a b) (λ is. apart ((bytes_eq-Decides a b).0 is))

is-for : (call seq : ℕ) (other name : List ℕ) → call ≡ seq → other ≡ name
    → ((call == seq) && bytes_eq other name) ≡ true
is-for call seq other name same is =
    and_from (call == seq) (bytes_eq other name) (eq-eqb call seq same) (equal-name other name is)

pub isnt-call : (call seq : ℕ) (other name : List ℕ) → call ≢ seq → ((call == seq) && bytes_eq other name) ≡ false
isnt-call call seq other name apart = and_left (call == seq) (bytes_eq other name) (ne_eqb call seq apart)

isnt-named : (call seq : ℕ) (other name : List ℕ) → other ≢ name → ((call == seq) && bytes_eq other name) ≡ false
isnt-named call seq other name apart = and_right (call == seq) (bytes_eq other name) (other-name other name apart)

-- ---- notes of a turn

pub level-noted : (name : List ℕ) (seq : ℕ) (n : Noted) (past : Trace)
    → level_in_trace name (with_note name seq n past) ≡ level_after_note n (level_in_trace name past)
level-noted name seq notes.Nothing past = refl
level-noted name seq (notes.Charged left) past = ap (λ b. cond b left (level_in_trace name past)) (equal-name name name refl)
level-noted name seq (notes.Drawn window ticket) past = refl
level-noted name seq notes.Counted past = refl

pub level-noted_other : (name other : List ℕ) (seq : ℕ) (n : Noted) (past : Trace) → name ≢ other
    → level_in_trace other (with_note name seq n past) ≡ level_in_trace other past
level-noted_other name other seq notes.Nothing past apart = refl
level-noted_other name other seq (notes.Charged left) past apart =
    ap (λ b. cond b left (level_in_trace other past)) (other-name name other apart)
level-noted_other name other seq (notes.Drawn window ticket) past apart = refl
level-noted_other name other seq notes.Counted past apart = refl

pub noted-noted : (name : List ℕ) (seq : ℕ) (n : Noted) (past : Trace)
    → noted name seq (with_note name seq n past) ≡ past_after n (noted name seq past)
noted-noted name seq notes.Nothing past = refl
noted-noted name seq (notes.Charged left) past =
    ap (λ b. cond b charged (noted name seq past)) (is-for seq seq name name refl refl)
noted-noted name seq (notes.Drawn window ticket) past =
    ap (λ b. cond b (drawn ticket) (noted name seq past)) (is-for seq seq name name refl refl)
noted-noted name seq notes.Counted past =
    ap (λ b. cond b counted (noted name seq past)) (is-for seq seq name name refl refl)

pub noted-another : (name other : List ℕ) (seq s : ℕ) (n : Noted) (past : Trace) → seq ≢ s
    → noted other s (with_note name seq n past) ≡ noted other s past
noted-another name other seq s notes.Nothing past apart = refl
noted-another name other seq s (notes.Charged left) past apart =
    ap (λ b. cond b charged (noted other s past)) (isnt-call seq s name other apart)
noted-another name other seq s (notes.Drawn window ticket) past apart =
    ap (λ b. cond b (drawn ticket) (noted other s past)) (isnt-call seq s name other apart)
noted-another name other seq s notes.Counted past apart =
    ap (λ b. cond b counted (noted other s past)) (isnt-call seq s name other apart)

pub noted-elsewhere : (name other : List ℕ) (seq s : ℕ) (n : Noted) (past : Trace) → name ≢ other
    → noted other s (with_note name seq n past) ≡ noted other s past
noted-elsewhere name other seq s notes.Nothing past apart = refl
noted-elsewhere name other seq s (notes.Charged left) past apart =
    ap (λ b. cond b charged (noted other s past)) (isnt-named seq s name other apart)
noted-elsewhere name other seq s (notes.Drawn window ticket) past apart =
    ap (λ b. cond b (drawn ticket) (noted other s past)) (isnt-named seq s name other apart)
noted-elsewhere name other seq s notes.Counted past apart =
    ap (λ b. cond b counted (noted other s past)) (isnt-named seq s name other apart)

pub form-noted : (conn s : ℕ) (name : List ℕ) (seq : ℕ) (n : Noted) (past : Trace)
    → form conn s (with_note name seq n past) ≡ form conn s past
form-noted conn s name seq notes.Nothing past = refl
form-noted conn s name seq (notes.Charged left) past = refl
form-noted conn s name seq (notes.Drawn window ticket) past = refl
form-noted conn s name seq notes.Counted past = refl

-- ---- operations

pub level-attached : (past : Trace) (at : ℕ) (name label : List ℕ) (policy : Policy)
    → level_in_trace name (Op (Attach at name label policy) ∷ past) ≡ initial_level policy
level-attached past at name label policy =
    ap (λ b. cond b (initial_level policy) (level_in_trace name past)) (equal-name name name refl)

pub level-attached_other : (past : Trace) (at : ℕ) (name other label : List ℕ) (policy : Policy) → name ≢ other
    → level_in_trace other (Op (Attach at name label policy) ∷ past) ≡ level_in_trace other past
level-attached_other past at name other label policy apart =
    ap (λ b. cond b (initial_level policy) (level_in_trace other past)) (other-name name other apart)

pub noted-attached : (past : Trace) (at seq : ℕ) (name label : List ℕ) (policy : Policy)
    → noted name seq (Op (Attach at name label policy) ∷ past) ≡ nothing
noted-attached past at seq name label policy =
    ap (λ b. cond b nothing (noted name seq past)) (equal-name name name refl)

pub noted-attached_other : (past : Trace) (at seq : ℕ) (name other label : List ℕ) (policy : Policy) → name ≢ other
    → noted other seq (Op (Attach at name label policy) ∷ past) ≡ noted other seq past
noted-attached_other past at seq name other label policy apart =
    ap (λ b. cond b nothing (noted other seq past)) (other-name name other apart)

pub level-upgraded : (past : Trace) (name label : List ℕ) (policy : Policy)
    → level_in_trace name (Op (Upgrade name label policy) ∷ past) ≡ converted (policy_in_trace name past) policy (level_in_trace name past)
level-upgraded past name label policy =
    ap (λ b. cond b (converted (policy_in_trace name past) policy (level_in_trace name past)) (level_in_trace name past))
    (equal-name name name refl)

pub level-upgraded_other : (past : Trace) (name other label : List ℕ) (policy : Policy) → name ≢ other
    → level_in_trace other (Op (Upgrade name label policy) ∷ past) ≡ level_in_trace other past
level-upgraded_other past name other label policy apart =
    ap (λ b. cond b (converted (policy_in_trace other past) policy (level_in_trace other past)) (level_in_trace other past))
    (other-name name other apart)

-- ---- forms

pub form-taken : (conn seq : ℕ) (past : Trace) (call : AcceptedCall) → call.seq ≡ seq
    → form conn seq (Took call ∷ past) ≡ copied conn call call.copy
form-taken conn seq past call own =
    ap (λ b. cond b (copied conn call call.copy) (form conn seq past)) (eq-eqb call.seq seq own)

pub form-taken_another : (conn seq : ℕ) (past : Trace) (call : AcceptedCall) → call.seq ≢ seq
    → form conn seq (Took call ∷ past) ≡ form conn seq past
form-taken_another conn seq past call apart =
    ap (λ b. cond b (copied conn call call.copy) (form conn seq past)) (ne_eqb call.seq seq apart)

pub form-cleared : (conn seq version : ℕ) (name : List ℕ) (past : Trace)
    → form conn seq (Redacted seq name version ∷ past)
    ≡ option_map (redacted (policy_in_trace name past)) (form conn seq past)
form-cleared conn seq version name past =
    ap (λ b. cond b (option_map (redacted (policy_in_trace name past)) (form conn seq past)) (form conn seq past))
    (eq-eqb seq seq refl)

pub form-cleared_another : (conn seq s version : ℕ) (name : List ℕ) (past : Trace) → seq ≢ s
    → form conn s (Redacted seq name version ∷ past) ≡ form conn s past
form-cleared_another conn seq s version name past apart =
    ap (λ b. cond b (option_map (redacted (policy_in_trace name past)) (form conn s past)) (form conn s past))
    (ne_eqb seq s apart)
