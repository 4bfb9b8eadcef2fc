-- An operation moves calls by their positions alone.
use Rattle.std.proofs.Common.{ℕ, ◌≤◌, zero, suc, List, [], ◌∷◌, length, map, take, inl, inr, ◌∙◌, arith}
use Rattle.std.specs.Prelude.{All, Contains}
use Rattle.std.proofs.lemmas.List.Elements.{All-nil, All-cons, All-head, All-tail}
use Rattle.engine_core.specs.Chains.{HasChanged}
use Rattle.engine_core.specs.declared.op.Op.{Op as Step}
use Rattle.call_history.specs.Trace.{Trace, chain, taken}
use Rattle.engine_core.specs.Chains.{changed}
use Rattle.call_history.specs.Transitions.{ConnState, AreNotesAscending}
use Rattle.call_history.specs.Rules.{JudgeContext}
use Rattle.call_history.specs.declared.happening.Happening.TheVariants.{Op}
use Rattle.call_history.proofs.Further.{contains-cases, contains-first, contains-later}
use Rattle.call_history.proofs.Going.{may-operate}
use Rattle.call_history.proofs.Holding.{Holds}
use Rattle.call_history.proofs.Passing.{numbers-same, ended-still}
use Rattle.call_history.proofs.Rowed.{StandsAt, row-moved, row-weaker}

-- how an operation moves positions, and which positions are still legal
pub record Moves (u : JudgeContext) (past : Trace) (step : Step) (f : ℕ → ℕ) : Type 0 where
  pub rises : (p q : ℕ) → p ≤ q → f p ≤ f q
  pub keeps : (seq position : ℕ) → StandsAt u past seq position → StandsAt u (Op step ∷ past) seq (f position)
  pub bound : f (length (chain past).entries) ≤ length (chain (Op step ∷ past)).entries
  pub ascend : AreNotesAscending (Op step ∷ past)

pub moved-holds : (u : JudgeContext) (c : ConnState) (step : Step) (f : ℕ → ℕ) → Holds u c → HasChanged (chain c.past) step (changed step (chain c.past)) → Moves u c.past step f
    → Holds u (record c { past = Op step ∷ c.past; row = map (λ call. (call.0, f call.1)) c.row })
moved-holds u c step f h changes moves =
    let new : Trace = Op step ∷ c.past in
    let top : ℕ = length (taken c.past) in
    record {
      prefix = (h.prefix, may-operate u c.past step h.settled changes);
      settled = record { malformed = λ awaits. awaits; quota = λ awaits. awaits; link = λ awaits. h.settled.link (record { failed = awaits.failed; some_pending = awaits.some_pending }) };
      row = row-weaker u new 0 0 top top (f (length (chain c.past).entries)) (length (chain new).entries) (map (λ call. (call.0, f call.1)) c.row) (omega arith) (omega arith) moves.bound
          (row-moved u c.past new f 0 top (length (chain c.past).entries) c.row moves.rises moves.keeps h.row);
      calls = numbers-same (λ call. f call.1) c.row ∙ h.calls;
      notes_ascend = moves.ascend;
      failed = h.failed;
      none_left = λ ended. ended-still (λ call. f call.1) c.row (h.none_left ended);
    }

-- ---- prefixes of a list

pub all-none : {X : Type 0} (P : X → Type 0) (k : ℕ) → All P (take k [])
all-none P zero = All-nil P
all-none P (suc k) = All-nil P

pub all-fewer : {X : Type 0} (P : X → Type 0) (xs : List X) (k p : ℕ) → k ≤ p → All P (take p xs) → All P (take k xs)
all-fewer P [] k p less all = all-none P k
all-fewer P (x ∷ xs) zero p less all = All-nil P
all-fewer P (x ∷ xs) (suc k) zero less all = absurd (omega (arith, less))
all-fewer P (x ∷ xs) (suc k) (suc p) less all = All-cons P x (take k xs) (All-head P x (take p xs) all) (all-fewer P xs k p (omega (arith, less)) (All-tail P x (take p xs) all))

pub in-front : {X : Type 0} (xs : List X) (k : ℕ) (x : X) → Contains (take k xs) x → Contains xs x
in-front [] zero x has = has
in-front [] (suc k) x has = has
in-front (y ∷ xs) zero x has = absurd (omega (arith, has.1))
in-front (y ∷ xs) (suc k) x has = elim (contains-cases y (take k xs) x has) [ inl same ↦ contains-first y xs x same | inr rest ↦ contains-later y xs x (in-front xs k x rest) ]
