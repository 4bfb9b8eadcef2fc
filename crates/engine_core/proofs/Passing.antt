-- A call that passes with nothing to note.
use Rattle.std.proofs.Common.{◌≡◌, ◌<◌, ℕ, zero, suc, Bool, true, false, List, [], ◌∷◌, Some, length, refl, ap, set, slice_get, slice_index_or, subst}
use Rattle.std.proofs.lemmas.Option.{slice_get_read}
use Rattle.std.specs.Bool.{OnTrue}
use Rattle.engine_core.specs.Engines.{EngineParts}
use Rattle.engine_core.specs.Marks.{PendingCall}
use Rattle.engine_core.specs.EngineSteps.{IsEngineStep}
use Rattle.engine_core.specs.Working.{HasOnlyMarksOf, HasWorked}
use Rattle.engine_core.specs.declared.outcome.Noted.TheVariants.{Nothing}
use Rattle.engine_core.specs.declared.outcome.Outcome.TheVariants.{Passed}
use Rattle.engine_core.proofs.Turning.{turn-step, engine-step, call-step, marks-step}

pub where-true : (b : Bool) {P : Type 0} → (b ≡ true → P) → OnTrue b P
where-true true holds = holds refl
where-true false holds = tt

pub then-true : (b : Bool) {P Q : Type 0} → (P → Q) → OnTrue b P → OnTrue b Q
then-true true f p = f p
then-true false f p = tt

pub same-set : {A : Type 0} (xs : List A) (i : ℕ) (x : A) → slice_get xs i ≡ Some x → xs ≡ set xs i x
same-set [] i x at = absurd cc
same-set (y ∷ ys) zero x at = cc
same-set (y ∷ ys) (suc i) x at = ap (λ zs. y ∷ zs) (same-set ys i x at)

-- the call that the code reads at an index is the one that callers see there
pub seen-at : (items calls : List PendingCall) (j : ℕ) (s : PendingCall) → items ≡ calls → j < length calls → s ≡ slice_index_or items j s
    → slice_get calls j ≡ Some s
seen-at items calls j s same within read = subst (λ (calls : List PendingCall). slice_get calls j ≡ Some s) same
    (slice_get_read items (length items) j s refl (rw same within) read)

-- the engine is unchanged, and the call may have one more mark
pub works-unnoted : (es : List EngineParts) (calls calls' : List PendingCall) (p j moment : ℕ) (e : EngineParts) (s s' : PendingCall)
    → slice_get es p ≡ Some e → slice_get calls j ≡ Some s → HasOnlyMarksOf es s → calls' ≡ set calls j s'
    → IsEngineStep e.entry.policy e.entry.attach e.entry.version e.level moment s s' e.level (Passed Nothing)
    → HasWorked es calls p j moment (Passed Nothing) es calls'
works-unnoted es calls calls' p j moment e s s' is_engine is_call marks same step = record {
  engine = e;
  engine' = e;
  is_engine = is_engine;
  others = same-set es p e is_engine;
  call = s;
  call' = s';
  is_call = is_call;
  other_calls = same;
  met = s;
  keeps = record { call = refl; kept = λ k d within. refl; gone = marks; none = λ attach none. none };
  turn = turn-step e moment s s' e.level (Passed Nothing) step;
  leaves_engine = engine-step e e moment s s' (Passed Nothing) step refl refl;
  leaves_call = call-step _ _ _ _ _ s s' _ (Passed Nothing) step;
  leaves_marks = marks-step e.entry e.level moment s s' e.level (Passed Nothing) step;
}
