-- Under access and count policies nothing is held, so no call is pending if none can advance.
use Rattle.std.proofs.Common.{◌≡◌, ◌∙◌, ℕ, List, [], ◌∷◌, refl, sym, ap, subst, arith}
use Rattle.std.specs.Prelude.{All, Some, slice_get, unwrap_or}
use Rattle.std.specs.List.{AllZip}
use Rattle.std.proofs.lemmas.Option.{slice_get_within, unwrap_or-slice_get}
use Rattle.engine_core.specs.Answers.{IsEntryAnswer, hold}
use Rattle.engine_core.specs.Chains.{Entry}
use Rattle.call_history.specs.Trace.{Trace, chain, form, level_in_trace, timestamp, noted, pending_calls}
use Rattle.call_history.specs.Positions.{AreLegalPositions, IsHead, IsSettled, IsLegalPosition}
use Rattle.call_history.specs.Rules.{JudgeContext}
use Rattle.call_history.specs.declared.happening.AcceptedCall.{AcceptedCall}
use Rattle.replay_laws.specs.SetFirst.{IsAccessOrCount}
use Rattle.replay_laws.proofs.Allowed.{ArePlain, plain-answer}
use Rattle.replay_laws.proofs.Lists.{some-and}

all-at : {A : Type 0} (P : A → Type 0) (xs : List A) (i : ℕ) (x : A) → All P xs → slice_get xs i ≡ Some x → P x
all-at P xs i x h e =
    subst P (sym (unwrap_or-slice_get xs i x) ∙ ap (λ o. unwrap_or o x) e) (h i x (slice_get_within xs i x e))

none-of : (u : JudgeContext) (past : Trace) (positions : List ℕ) (calls : List AcceptedCall) (places : List ℕ)
    → ArePlain (chain past).entries → IsSettled u past positions → pending_calls past ≡ calls → positions ≡ places
    → AllZip (IsLegalPosition u past) calls places → calls ≡ []
none-of u past positions [] places plain settled are same zip = refl
none-of u past positions (call ∷ calls) [] plain settled are same zip = absurd zip
none-of u past positions (call ∷ calls) (place ∷ places) plain settled are same zip =
    let head : IsHead past positions call place = record {
      place = 0;
      is_call = ap (λ (l : List AcceptedCall). slice_get l 0) are;
      at = ap (λ (l : List ℕ). slice_get l 0) same;
      first = λ i p less at. absurd (omega (arith, less));
    } in
    let held = settled.held call place head in
    let e : Entry = held.2.entry in
    let here = some-and (form u.conn call.seq past)
    (λ c. IsEntryAnswer e.policy (level_in_trace e.name past) (timestamp past) c (noted e.name call.seq past) (hold held.0 held.1))
    held.2.holds in
    absurd (plain-answer e.policy (level_in_trace e.name past) (timestamp past) here.0 (noted e.name call.seq past)
    (hold held.0 held.1) (all-at (λ (x : Entry). IsAccessOrCount x.policy) (chain past).entries place e plain held.2.at) here.2)

pub none-stands : (u : JudgeContext) (past : Trace) (positions : List ℕ) → AreLegalPositions u past positions
    → IsSettled u past positions → ArePlain (chain past).entries → pending_calls past ≡ []
none-stands u past positions places settled plain =
    none-of u past positions (pending_calls past) positions plain settled refl refl places.each
