-- An attachment doesn't change the entries before it, nor what those noted.
use Rattle.std.proofs.Common.{◌≡◌, ℕ, ◌+◌, ◌<◌, ◌≤◌, zero, suc, min, Bool, true, false, cond, inl, inr, List, [], ◌∷◌}
use Rattle.std.proofs.Common.{◌++◌, length, map, take, drop, refl, sym, ap, subst, arith, length-append}
use Rattle.std.proofs.Common.{length-take-le}
use Rattle.std.specs.Prelude.{All, Contains}
use Rattle.std.specs.Str.{bytes_eq}
use Rattle.std.proofs.lemmas.Bool.{cases_lt}
use Rattle.std.proofs.lemmas.List.Elements.{All-nil}
use Rattle.engine_core.specs.Answers.{nothing}
use Rattle.engine_core.specs.Chains.{Chain, HasChanged, Entry, names_of, new_entry, is_taken, is_past, taken as is_taken_name, no_place}
use Rattle.engine_core.specs.declared.op.Op.TheVariants.{Attach}
use Rattle.engine_core.specs.declared.policy.Policy.{Policy}
use Rattle.call_history.specs.Trace.{chain, noted, noted_calls, pending_calls}
use Rattle.engine_core.specs.Chains.{changed}
use Rattle.call_history.specs.Transitions.{ConnState, AreNotesAscending}
use Rattle.engine_core.specs.Moves.{returned_to}
use Rattle.call_history.specs.Rules.{JudgeContext, IsAllowedInTrace}
use Rattle.call_history.specs.declared.happening.Happening.TheVariants.{Op}
use Rattle.call_history.specs.declared.happening.AcceptedCall.{AcceptedCall}
use Rattle.call_history.proofs.Chained.{all-step, named-there}
use Rattle.call_history.proofs.Holding.{Holds}
use Rattle.call_history.proofs.Looking.{other-name, lets-still}
use Rattle.call_history.proofs.Operating.{moved-holds, all-fewer, in-front}
use Rattle.call_history.proofs.Rowed.{StandsAt}

-- where an attachment is possible
record IsFree (entries : List Entry) (at : ℕ) (name : List ℕ) : Type 0 where
  within : at ≤ length entries
  apart : Contains (names_of entries) name → ⊥

free-place : (before after : Chain) (at : ℕ) (name label : List ℕ) (policy : Policy) → HasChanged before (Attach at name label policy) after → IsFree before.entries at name
free-place before after at name label policy changes = record {
  within = elim (cases_lt (length before.entries) at) [ inl past ↦ absurd (changes.free (no_place at) (is_past at name label policy refl past refl)) | inr fits ↦ fits ];
  apart = λ has. changes.free (is_taken_name name) (is_taken at name label policy refl has refl);
}

front-same : (es rest : List Entry) (k at : ℕ) → k ≤ at → at ≤ length es → take k (take at es ++ rest) ≡ take k es
front-same [] rest zero zero before within = refl
front-same [] rest zero (suc at) before within = refl
front-same [] rest (suc k) zero before within = absurd (omega (arith, before))
front-same [] rest (suc k) (suc at) before within = absurd (omega (arith, within))
front-same (e ∷ es) rest zero at before within = refl
front-same (e ∷ es) rest (suc k) zero before within = absurd (omega (arith, before))
front-same (e ∷ es) rest (suc k) (suc at) before within = ap (λ (xs : List Entry). e ∷ xs) (front-same es rest k at (omega (arith, before)) (omega (arith, within)))

longer : (es : List Entry) (at : ℕ) (new : Entry) → at ≤ length es → at ≤ length (take at es ++ new ∷ drop at es)
longer es at new within = omega (arith, length-append (take at es) (new ∷ drop at es), length-take-le at es within)

pub attached_holds : (u : JudgeContext) (c : ConnState) (at : ℕ) (name label : List ℕ) (policy : Policy) → Holds u c
    → HasChanged (chain c.past) (Attach at name label policy) (changed (Attach at name label policy) (chain c.past))
    → Holds u (record c { past = Op (Attach at name label policy) ∷ c.past; row = returned_to at c.row })
attached_holds u c at name label policy h changes =
    let free : IsFree (chain c.past).entries at name = free-place (chain c.past) (changed (Attach at name label policy) (chain c.past)) at name label policy changes in
    moved-holds u c (Attach at name label policy) (λ p. min p at) h changes (record {
      rises = λ p q le. omega (arith, le);
      keeps = keeps free;
      bound = omega (arith, longer (chain c.past).entries at (new_entry name ((chain c.past).attached + 1) policy) free.within);
      ascend = ascends;
    })
  where
    -- the entries before it have other names, so their notes are unchanged
    front-lets : (seq k : ℕ) → IsFree (chain c.past).entries at name → All (IsAllowedInTrace u c.past seq) (take k (chain c.past).entries)
        → All (IsAllowedInTrace u (Op (Attach at name label policy) ∷ c.past) seq) (take k (chain c.past).entries)
    front-lets seq k free lets = all-step (IsAllowedInTrace u c.past seq) (IsAllowedInTrace u (Op (Attach at name label policy) ∷ c.past) seq) (take k (chain c.past).entries)
        (λ e has let_e. lets-still u c.past (Op (Attach at name label policy) ∷ c.past) seq e refl
        (ap (λ b. cond b nothing (noted e.name seq c.past))
        (other-name name e.name
        (λ same. free.apart (subst (λ (n : List ℕ). Contains (names_of (chain c.past).entries) n) (sym same)
        (named-there (chain c.past).entries e (in-front (chain c.past).entries k e has))))))
        let_e)
        lets

    keeps : IsFree (chain c.past).entries at name → (seq position : ℕ) → StandsAt u c.past seq position
        → StandsAt u (Op (Attach at name label policy) ∷ c.past) seq (min position at)
    keeps free seq position stands = record {
      within = omega (arith, longer (chain c.past).entries at (new_entry name ((chain c.past).attached + 1) policy) free.within);
      allowed = subst (λ (xs : List Entry). All (IsAllowedInTrace u (Op (Attach at name label policy) ∷ c.past) seq) xs)
          (sym (front-same (chain c.past).entries (new_entry name ((chain c.past).attached + 1) policy ∷ drop at (chain c.past).entries) (min position at) at (omega arith) free.within))
          (front-lets seq (min position at) free (all-fewer (IsAllowedInTrace u c.past seq) (chain c.past).entries (min position at) position (omega arith) stands.allowed));
    }

    -- the new entry has noted nothing
    by-name : (b : Bool) (other : List ℕ) (s : ℕ) → Contains (map (λ (call : AcceptedCall). call.seq) (pending_calls c.past)) s → cond b nothing (noted other s c.past) ≡ nothing
        → All (λ n. n < s) (cond b [] (noted_calls other c.past))
    by-name true other s stands none = All-nil (λ n. n < s)
    by-name false other s stands none = h.notes_ascend other s stands none

    ascends : AreNotesAscending (Op (Attach at name label policy) ∷ c.past)
    ascends other s stands none = by-name (bytes_eq name other) other s stands none
