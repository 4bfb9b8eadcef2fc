-- The invariant of a connection between transitions, in the form in which it is proved.
use Rattle.std.proofs.Common.{◌≡◌, ℕ, ◌≤◌, Bool, true, false, cond, inl, inr, List, [], ◌∷◌, length, map, take, sym, ◌∙◌, subst, arith}
use Rattle.std.specs.Prelude.{All, Contains, filter, slice_get, Some}
use Rattle.std.proofs.lemmas.Bool.{false_from_ne_true}
use Rattle.std.proofs.lemmas.List.Elements.{All-weaker}
use Rattle.engine_core.specs.Chains.{Entry}
use Rattle.call_history.specs.Trace.{Trace, chain, taken, pending_calls, has_failed}
use Rattle.call_history.specs.Transitions.{ConnState, AreNotesAscending, IsValidState}
use Rattle.engine_core.specs.Moves.{Row, first_at}
use Rattle.call_history.specs.Legal.{IsLegalPrefix, HasNoObligation, HasLinkObligation}
use Rattle.std.specs.List.{AllZip}
use Rattle.call_history.specs.Positions.{IsLegalPosition}
use Rattle.call_history.specs.Rules.{JudgeContext, IsAllowedInTrace}
use Rattle.call_history.specs.declared.happening.AcceptedCall.{AcceptedCall}
use Rattle.call_history.proofs.Further.{contains-cases, contains-first, contains-later}
use Rattle.call_history.proofs.Coursed.{row-from, places-to}
use Rattle.call_history.proofs.Going.{IsOpen}
use Rattle.call_history.proofs.Prefixes.{rising}
use Rattle.call_history.proofs.Rowed.{StandsAt, IsRow}

pub record Holds (u : JudgeContext) (c : ConnState) : Type 0 where
  pub prefix : IsLegalPrefix u c.past
  pub settled : HasNoObligation c.past
  pub row : IsRow u c.past 0 (length (taken c.past)) (length (chain c.past).entries) c.row
  pub calls : map (λ call. call.0) c.row ≡ map (λ call. call.seq) (pending_calls c.past)
  pub notes_ascend : AreNotesAscending c.past
  pub failed : has_failed c.past ≡ true → c.ended ≡ true
  pub none_left : c.ended ≡ true → c.row ≡ []

pub to_course : (u : JudgeContext) (c : ConnState) → Holds u c → IsValidState u c
to_course u c h = record {
  legal = record { prefix = h.prefix; closed = h.settled };
  calls = h.calls;
  places = places-to u c.past 0 (length (taken c.past)) (length (chain c.past).entries) c.row h.calls h.row;
  notes_ascend = h.notes_ascend;
  failed = h.failed;
  none_left = h.none_left;
}

pub from_course : (u : JudgeContext) (c : ConnState) → IsValidState u c → Holds u c
from_course u c h = record {
  prefix = h.legal.prefix;
  settled = h.legal.closed;
  row = row-from u c.past 0 (length (taken c.past)) (length (chain c.past).entries) c.row (pending_calls c.past) h.calls h.places.each h.places.never_rise
      (first-within (pending_calls c.past) (map (λ call. call.1) c.row) h.places.each)
      (rising u c.past h.legal.prefix);
  calls = h.calls;
  notes_ascend = h.notes_ascend;
  failed = h.failed;
  none_left = h.none_left;
}
  where
    first-within : (calls : List AcceptedCall) (positions : List ℕ) → AllZip (IsLegalPosition u c.past) calls positions → (p : ℕ)
        → slice_get positions 0 ≡ Some p → p ≤ length (chain c.past).entries
    first-within [] [] each p at = absurd cc
    first-within [] (q ∷ positions) each p at = absurd each
    first-within (call ∷ calls) [] each p at = absurd each
    first-within (call ∷ calls) (q ∷ positions) each p at = let same : q ≡ p = cc in omega (arith, same, each.0.within)

-- ---- the link works

pub works-running : (u : JudgeContext) (c : ConnState) → Holds u c → c.ended ≡ false → IsOpen c.past
works-running u c h running = record {
  settled = h.settled;
  works = false_from_ne_true (has_failed c.past) (λ failed. (let wrong : false ≡ true = sym running ∙ h.failed failed in absurd cc));
}

-- some call is pending, so the link works
pub works-there : (u : JudgeContext) (c : ConnState) (position : ℕ) (call : ℕ × ℕ) → Holds u c → first_at position c.row ≡ Some call → IsOpen c.past
works-there u c position call h first = record {
  settled = h.settled;
  works = false_from_ne_true (has_failed c.past) (λ failed. none c.row (h.none_left (h.failed failed)) first);
}
  where
    none : (row : Row) → row ≡ [] → first_at position row ≡ Some call → ⊥
    none [] empty is = cc
    none (x ∷ row) empty is = cc

-- ---- positions that are still legal

pub stands-still : (u : JudgeContext) (past new : Trace) (seq position : ℕ) → (chain new).entries ≡ (chain past).entries → ((e : Entry) → IsAllowedInTrace u past seq e → IsAllowedInTrace u new seq e)
    → StandsAt u past seq position → StandsAt u new seq position
stands-still u past new seq position same lets h = record {
  within = subst (λ (es : List Entry). position ≤ length es) (sym same) h.within;
  allowed = subst (λ (es : List Entry). All (IsAllowedInTrace u new seq) (take position es)) (sym same)
      (All-weaker (IsAllowedInTrace u past seq) (IsAllowedInTrace u new seq) lets (take position (chain past).entries) h.allowed);
}

-- ---- which refusals are owed after an event that owes none by itself

pub works-on : (past : Trace) → has_failed past ≡ false → HasLinkObligation past → ⊥
works-on past works awaits = let wrong : false ≡ true = sym works ∙ awaits.failed in cc

pub contains-kept : {X : Type 0} (p : X → Bool) (xs : List X) (y : X) → Contains (filter p xs) y → Contains xs y
contains-kept p [] y has = has
contains-kept p (x ∷ xs) y has =
    let given : (b : Bool) → Contains (cond b (x ∷ filter p xs) (filter p xs)) y
    → Contains (x ∷ xs) y = λ b. elim b as (λ b. Contains (cond b (x ∷ filter p xs) (filter p xs)) y
    → Contains (x ∷ xs) y) [
      | true ↦ λ has. elim (contains-cases x (filter p xs) y has) [ inl same ↦ contains-first x xs y same | inr rest ↦ contains-later x xs y (contains-kept p xs y rest) ]
      | false ↦ λ has. contains-later x xs y (contains-kept p xs y has)
    ] in
    given (p x) has
