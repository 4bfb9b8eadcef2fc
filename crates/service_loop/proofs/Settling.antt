-- A connection whose link has failed is settled: no call is pending.
use Rattle.std.proofs.Common.{◌≡◌, ℕ, ◌<◌, true, arith, List, [], ◌∷◌, length, map, refl, ap, sym, ◌∙◌, subst}
use Rattle.std.specs.Prelude.{Some, None, slice_get}
use Rattle.std.proofs.lemmas.List.Elements.{All-nil}
use Rattle.std.proofs.lemmas.Option.{slice_get_past}
use Rattle.engine_core.specs.Moves.{Row}
use Rattle.call_history.specs.Trace.{Trace, chain, pending_calls}
use Rattle.call_history.specs.Transitions.{ConnState, IsValidState}
use Rattle.call_history.specs.Positions.{IsHead, IsSettled}
use Rattle.call_history.specs.Rules.{JudgeContext}
use Rattle.call_history.specs.declared.happening.AcceptedCall.{AcceptedCall}

none-mapped : (calls : List AcceptedCall) → [] ≡ map (λ (call : AcceptedCall). call.seq) calls → calls ≡ []
none-mapped [] is = refl
none-mapped (call ∷ calls) is = absurd cc

no-head : (past : Trace) (call : AcceptedCall) (position : ℕ) → pending_calls past ≡ [] → IsHead past [] call position → ⊥
no-head past call position none head =
    let there : slice_get [] head.place ≡ Some call =
    ap (λ (calls : List AcceptedCall). slice_get calls head.place) (sym none) ∙ head.is_call in
    let wrong : None ≡ Some call = sym (slice_get_past [] head.place (omega arith)) ∙ there in
    cc

pub settled-at-end : (u : JudgeContext) (c : ConnState) → IsValidState u c → c.ended ≡ true
    → IsSettled u c.past (map (λ (call : ℕ × ℕ). call.1) c.row)
settled-at-end u c h ended =
    let none : c.row ≡ [] = h.none_left ended in
    let calls : pending_calls c.past ≡ [] =
    none-mapped (pending_calls c.past) (ap (λ (row : Row). map (λ (call : ℕ × ℕ). call.0) row) (sym none) ∙ h.calls) in
    subst (λ (row : Row). IsSettled u c.past (map (λ (call : ℕ × ℕ). call.1) row)) (sym none) (record {
      none_ready = All-nil (λ (p : ℕ). p < length (chain c.past).entries);
      held = λ call position head. absurd (no-head c.past call position calls head);
    })
