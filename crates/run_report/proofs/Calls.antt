-- The accepted calls, by their numbers and their methods.
use Rattle.std.proofs.Common.{◌≡◌, ◌⊎◌, inl, inr, ℕ, zero, suc, ◌+◌, ◌-◌, ◌<◌, ◌≤◌, ◌==◌, Bool, List, [], ◌∷◌, ◌++◌}
use Rattle.std.proofs.Common.{length, reverse, Option, Some, None, refl, sym, ap, ◌∙◌, append_assoc, append-nil}
use Rattle.std.proofs.Common.{arith}
use Rattle.std.specs.Prelude.{slice_get, find}
use Rattle.std.specs.List.{flat_map}
use Rattle.std.proofs.lemmas.List.{map-append, reverse-append}
use Rattle.std.proofs.lemmas.Bool.Decides.{nat_tests}
use Rattle.std.specs.Prelude.{option_map}
use Rattle.std.specs.Option.{option_map_or}
use Rattle.std.proofs.lemmas.Option.{slice_get-map, same_Some, none-some}
use Rattle.call_history.specs.Trace.{Trace, taken}
use Rattle.call_history.specs.Legal.{IsLegalPrefix}
use Rattle.call_history.specs.Rules.{JudgeContext}
use Rattle.call_history.specs.declared.happening.Happening.{Happening}
use Rattle.call_history.specs.declared.happening.Happening.TheVariants.{Took, Away, Op, Moment, Charged, Drawn, Counted, Redacted, Sent, Refused}
use Rattle.call_history.specs.declared.happening.AcceptedCall.{AcceptedCall}
use Rattle.run_report.specs.Counting.{method_of_call}
use Rattle.run_report.specs.Counts.{AreNumberedFromOne, methods_by, methods_of_calls}

-- ---- methods

taken-joined : (a b : Trace) → taken (a ++ b) ≡ taken b ++ taken a
taken-joined [] b = sym (append-nil (taken b))
taken-joined (Took call ∷ a) b = ap (λ calls. calls ++ call ∷ []) (taken-joined a b) ∙ append_assoc (taken b) (taken a) (call ∷ [])
taken-joined (Away method number addr ∷ a) b = taken-joined a b
taken-joined (Op step ∷ a) b = taken-joined a b
taken-joined (Moment ms ∷ a) b = taken-joined a b
taken-joined (Charged seq name level ∷ a) b = taken-joined a b
taken-joined (Drawn seq name window ticket ∷ a) b = taken-joined a b
taken-joined (Counted seq name ∷ a) b = taken-joined a b
taken-joined (Redacted seq name version ∷ a) b = taken-joined a b
taken-joined (Sent seq bytes ∷ a) b = taken-joined a b
taken-joined (Refused seq why ∷ a) b = taken-joined a b

taken-one : (h : Happening) → methods_of_calls (taken (h ∷ [])) ≡ methods_by h
taken-one (Took call) = refl
taken-one (Away method number addr) = refl
taken-one (Op step) = refl
taken-one (Moment ms) = refl
taken-one (Charged seq name level) = refl
taken-one (Drawn seq name window ticket) = refl
taken-one (Counted seq name) = refl
taken-one (Redacted seq name version) = refl
taken-one (Sent seq bytes) = refl
taken-one (Refused seq why) = refl

-- the methods of the acceptances are those of the accepted calls
pub methods-told : (hs : List Happening) → flat_map methods_by hs ≡ methods_of_calls (taken (reverse hs))
methods-told [] = refl
methods-told (h ∷ hs) =
    let back : reverse (h ∷ hs) ≡ reverse hs ++ h ∷ [] = reverse-append (h ∷ []) hs in
    let all : taken (reverse (h ∷ hs)) ≡ taken (h ∷ []) ++ taken (reverse hs) = ap taken back ∙ taken-joined (reverse hs) (h ∷ []) in
    let both : methods_of_calls (taken (reverse (h ∷ hs))) ≡ methods_of_calls (taken (h ∷ [])) ++ methods_of_calls (taken (reverse hs)) =
    ap methods_of_calls all ∙ map-append (λ (call : AcceptedCall). call.method) (taken (h ∷ [])) (taken (reverse hs)) in
    ap (λ rest. methods_by h ++ rest) (methods-told hs)
    ∙ ap (λ first. first ++ methods_of_calls (taken (reverse hs))) (sym (taken-one h)) ∙ sym both

-- ---- numbers

at-end : {A : Type 0} (xs : List A) (y z : A) (k : ℕ) → slice_get (xs ++ y ∷ []) k ≡ Some z
    → (slice_get xs k ≡ Some z) ⊎ ((k ≡ length xs) × (y ≡ z))
at-end [] y z zero at = inr (refl, same_Some y z at)
at-end [] y z (suc k) at = absurd (none-some z at)
at-end (x ∷ xs) y z zero at = inl at
at-end (x ∷ xs) y z (suc k) at = elim (at-end xs y z k at) [
  | inl before ↦ inl before
  | inr last ↦ let place : suc k ≡ length (x ∷ xs) = omega (arith, last.0) in inr (place, last.1)
]

pub are-numbered : (u : JudgeContext) (past : Trace) → IsLegalPrefix u past → AreNumberedFromOne (taken past)
are-numbered u [] prefix = λ place call at. absurd (none-some call at)
are-numbered u (Took last ∷ past) prefix = λ place call at. elim (at-end (taken past) last call place at) [
  | inl before ↦ are-numbered u past prefix.0 place call before
  | inr is ↦
      let number : last.seq ≡ length (taken past) + 1 = prefix.1.numbered.number in
      let same : last.seq ≡ call.seq = ap (λ (t : AcceptedCall). t.seq) is.1 in
      omega (arith, number, same, is.0)
]
are-numbered u (Away method number addr ∷ past) prefix = are-numbered u past prefix.0
are-numbered u (Op step ∷ past) prefix = are-numbered u past prefix.0
are-numbered u (Moment ms ∷ past) prefix = are-numbered u past prefix.0
are-numbered u (Charged seq name level ∷ past) prefix = are-numbered u past prefix.0
are-numbered u (Drawn seq name window ticket ∷ past) prefix = are-numbered u past prefix.0
are-numbered u (Counted seq name ∷ past) prefix = are-numbered u past prefix.0
are-numbered u (Redacted seq name version ∷ past) prefix = are-numbered u past prefix.0
are-numbered u (Sent seq bytes ∷ past) prefix = are-numbered u past prefix.0
are-numbered u (Refused seq why ∷ past) prefix = are-numbered u past prefix.0

-- ---- the call with a number

abbrev has_number : ℕ → AcceptedCall → Bool
has_number seq call = call.seq == seq

-- numbered from a number on
NumberedFrom : ℕ → List AcceptedCall → Type 0
NumberedFrom n calls = (place : ℕ) (call : AcceptedCall) → slice_get calls place ≡ Some call → call.seq ≡ n + place

found-here : (seq : ℕ) (c : AcceptedCall) (cs : List AcceptedCall) → c.seq ≡ seq → find (has_number seq) (c ∷ cs) ≡ Some c
found-here seq c cs same = grind (arith, nat_tests)

found-later : (seq : ℕ) (c : AcceptedCall) (cs : List AcceptedCall) → (c.seq ≡ seq → ⊥) → find (has_number seq) (c ∷ cs) ≡ find (has_number seq) cs
found-later seq c cs apart = grind (arith, nat_tests)

-- the call at this distance from the first
found-at : (n k : ℕ) (calls : List AcceptedCall) → NumberedFrom n calls → find (has_number (n + k)) calls ≡ slice_get calls k
unfolding NumberedFrom
found-at n k [] numbered = refl
found-at n zero (c ∷ cs) numbered =
    let first : c.seq ≡ n + 0 = numbered 0 c refl in
    found-here (n + 0) c cs first
found-at n (suc k) (c ∷ cs) numbered =
    let first : c.seq ≡ n + 0 = numbered 0 c refl in
    let later : NumberedFrom (n + 1) cs = λ place call at.
    let more : call.seq ≡ n + suc place = numbered (suc place) call at in omega (arith, more) in
    let next : n + suc k ≡ n + 1 + k = omega arith in
    found-later (n + suc k) c cs (λ same. omega (arith, same, first))
    ∙ ap (λ seq. find (has_number seq) cs) next ∙ found-at (n + 1) k cs later

-- nothing has a number below the first
none-below : (n seq : ℕ) (calls : List AcceptedCall) → NumberedFrom n calls → seq < n → find (has_number seq) calls ≡ None
unfolding NumberedFrom
none-below n seq [] numbered low = refl
none-below n seq (c ∷ cs) numbered low =
    let first : c.seq ≡ n + 0 = numbered 0 c refl in
    let later : NumberedFrom (n + 1) cs = λ place call at.
    let more : call.seq ≡ n + suc place = numbered (suc place) call at in omega (arith, more) in
    found-later seq c cs (λ same. omega (arith, same, first, low)) ∙ none-below (n + 1) seq cs later (omega (arith, low))

from-one : (calls : List AcceptedCall) → AreNumberedFromOne calls → NumberedFrom 1 calls
unfolding NumberedFrom
from-one calls numbered = λ place call at. let is = numbered place call at in omega (arith, is)

pub method-found : (calls : List AcceptedCall) (seq : ℕ) → AreNumberedFromOne calls → 1 ≤ seq
    → find (has_number seq) calls ≡ slice_get calls (seq - 1)
method-found calls seq numbered least =
    let same : seq ≡ 1 + (seq - 1) = omega (arith, least) in
    ap (λ s. find (has_number s) calls) same ∙ found-at 1 (seq - 1) calls (from-one calls numbered)

pub no-method : (calls : List AcceptedCall) → AreNumberedFromOne calls → method_of_call calls 0 ≡ 0
no-method calls numbered =
    let none : find (has_number 0) calls ≡ None = none-below 1 0 calls (from-one calls numbered) (omega arith) in
    rw none refl

-- ---- the method that is found

found-method : (o : Option AcceptedCall) (m : ℕ) → option_map (λ (call : AcceptedCall). call.method) o ≡ Some m
    → option_map_or (λ (call : AcceptedCall). call.method) o 0 ≡ m
found-method None m is = absurd (none-some m is)
found-method (Some call) m is = same_Some call.method m is

none-method : (o : Option AcceptedCall) → option_map (λ (call : AcceptedCall). call.method) o ≡ None
    → option_map_or (λ (call : AcceptedCall). call.method) o 0 ≡ 0
none-method None is = refl
none-method (Some call) is = absurd (none-some call.method (sym is))

pub method-at : (calls : List AcceptedCall) (methods : List ℕ) (seq m : ℕ) → AreNumberedFromOne calls → methods ≡ methods_of_calls calls
    → 1 ≤ seq → slice_get methods (seq - 1) ≡ Some m → m ≡ method_of_call calls seq
method-at calls methods seq m numbered same least at =
    let here : option_map (λ (call : AcceptedCall). call.method) (slice_get calls (seq - 1)) ≡ Some m =
    sym (slice_get-map (λ (call : AcceptedCall). call.method) calls (seq - 1)) ∙ ap (λ ms. slice_get ms (seq - 1)) (sym same) ∙ at in
    sym (ap (λ o. option_map_or (λ (call : AcceptedCall). call.method) o 0) (method-found calls seq numbered least)
    ∙ found-method (slice_get calls (seq - 1)) m here)

pub method-past : (calls : List AcceptedCall) (methods : List ℕ) (seq : ℕ) → AreNumberedFromOne calls → methods ≡ methods_of_calls calls
    → 1 ≤ seq → slice_get methods (seq - 1) ≡ None → 0 ≡ method_of_call calls seq
method-past calls methods seq numbered same least at =
    let here : option_map (λ (call : AcceptedCall). call.method) (slice_get calls (seq - 1)) ≡ None =
    sym (slice_get-map (λ (call : AcceptedCall). call.method) calls (seq - 1)) ∙ ap (λ ms. slice_get ms (seq - 1)) (sym same) ∙ at in
    sym (ap (λ o. option_map_or (λ (call : AcceptedCall). call.method) o 0) (method-found calls seq numbered least)
    ∙ none-method (slice_get calls (seq - 1)) here)
