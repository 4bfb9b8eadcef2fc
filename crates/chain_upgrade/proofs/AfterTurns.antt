-- A chain after a turn of one of its engines.
use Rattle.std.proofs.Common.{◌≡◌, ℕ, ◌+◌, ◌<◌, suc, nat_le, Bool, true, false, List, ◌∷◌, ◌++◌, length, filter, take, drop, get_or}
use Rattle.std.proofs.Common.{remove, slice_get, Some, subst, refl, ap, sym, ◌∙◌, arith}
use Rattle.std.specs.Bool.{OnFalse, OnTrue}
use Rattle.std.proofs.lemmas.List.{length-map, length-set}
use Rattle.engine_core.specs.Engines.{EngineParts}
use Rattle.engine_core.specs.Marks.{PendingCall, seqs_of}
use Rattle.engine_core.specs.Moves.{advanced, restarted, without_call}
use Rattle.engine_core.specs.Working.{HasWorked}
use Rattle.engine_core.specs.declared.outcome.Outcome.{Outcome}
use Rattle.engine_core.specs.declared.outcome.Outcome.TheVariants.{Passed, Held, Refused, Redacted}
use Rattle.chain_upgrade.specs.declared.turned.Turned.{Turned}
use Rattle.chain_upgrade.specs.Chains.{ChainParts, IsEngineTurn, OnTurn, ArePendingOn, calls_after}
use Rattle.chain_upgrade.specs.Cuts.{row_from, cut_at, raised_at, taken_out, lowered}
use Rattle.chain_upgrade.specs.Kept.{IsKept, remaining_calls, turned_as}
use Rattle.chain_upgrade.proofs.CutLaws.{cut-low}
use Rattle.chain_upgrade.proofs.Keeping.{kept-same, kept-raised, kept-lowered, kept-without, seen-of}
use Rattle.chain_upgrade.proofs.Reading.{cut-behind, cut-is}
use Rattle.chain_upgrade.proofs.RowLaws.{row-on, row-again, row-without}
use Rattle.chain_upgrade.proofs.Stands.{gone-at, number-at, put-at, remove-map, split-at}
use Rattle.chain_upgrade.proofs.Turning.{comes-out, same-numbers, stands-turn}

-- ---- after an engine's work

module _ (es : List EngineParts) (room n p j moment : ℕ) (calls : List PendingCall) (cuts : List ℕ) (outcome : Outcome) (es' : List EngineParts)
    (calls' : List PendingCall) (kept : IsKept es room n calls cuts) (w : HasWorked es calls p j moment outcome es' calls') where
  pub work-kept : IsKept es' room n calls' cuts
  work-kept = kept-same es es' room n p j calls calls' cuts kept (ap (λ (xs : List EngineParts). length xs) w.others ∙ length-set es p w.engine')
      (ap (λ (xs : List PendingCall). length xs) w.other_calls ∙ length-set calls j w.call') (stands-turn es n p j moment calls outcome es' calls' kept.stands w)

  pub work-row : (v : ChainParts) → seen-of es n calls cuts ≡ v → row_from 0 cuts (seqs_of calls') ≡ v.row
  work-row v seen = ap (λ (seqs : List ℕ). row_from 0 cuts seqs) (same-numbers es n p j moment calls outcome es' calls' kept.stands w)
      ∙ ap (λ (v : ChainParts). v.row) seen

-- ---- the positions of calls afterwards

module _ (es : List EngineParts) (room n p j : ℕ) (calls : List PendingCall) (cuts : List ℕ) (v : ChainParts) (seen : seen-of es n calls cuts ≡ v)
    (kept : IsKept es room n calls cuts) (place : j ≡ length (filter (λ call. nat_le (p + 1) call.1) v.row))
    (under : j < length (filter (λ call. nat_le p call.1) v.row)) where
  pub is-cut : j ≡ get_or cuts p 0
  is-cut = place ∙ cut-behind es n calls cuts v seen kept.falls p (p + 1) refl

  pub below-cut : j < cut_at (length calls) cuts p
  below-cut = omega (arith, under, cut-is es n calls cuts v seen kept.falls p)

  pub inside : j < length calls
  inside = omega (arith, below-cut, cut-low (length calls) p cuts kept.falls)

  pub few-behind : get_or cuts p 0 < 64
  few-behind = let few = kept.stands.few in omega (arith, inside, is-cut)

  there : j < length (seqs_of calls)
  there = omega (arith, inside, length-map calls (λ (s : PendingCall). s.call.seq))

  pub passed-kept : p < length es → IsKept es room n calls (raised_at p cuts)
  passed-kept at = kept-raised es es room n p j calls calls cuts kept refl refl kept.stands at (let is = is-cut in omega (arith, below-cut))

  pub redacted-kept : IsKept es room n calls (lowered j cuts)
  redacted-kept = kept-lowered es es room n p j calls calls cuts kept refl refl kept.stands

  pub refused-kept : IsKept es room n (remove calls j) (taken_out j cuts)
  refused-kept = kept-without es room n j calls cuts kept inside

  pub passed-row : (s : PendingCall) → p < length cuts → slice_get calls j ≡ Some s → row_from 0 (raised_at p cuts) (seqs_of calls) ≡ advanced s.call.seq v.row
  passed-row s within is = subst (λ (v : ChainParts). row_from 0 (raised_at p cuts) (seqs_of calls) ≡ advanced s.call.seq v.row) seen
      (row-on (length calls) p j cuts (seqs_of calls) kept.falls within is-cut below-cut there kept.stands.ascend
      ∙ ap (λ (seq : ℕ). advanced seq (row_from 0 cuts (seqs_of calls))) (number-at calls j s is))

  pub redacted-row : (s : PendingCall) → slice_get calls j ≡ Some s → row_from 0 (lowered j cuts) (seqs_of calls) ≡ restarted s.call.seq v.row
  redacted-row s is = subst (λ (v : ChainParts). row_from 0 (lowered j cuts) (seqs_of calls) ≡ restarted s.call.seq v.row) seen
      (row-again j cuts (seqs_of calls) there kept.stands.ascend
      ∙ ap (λ (seq : ℕ). restarted seq (row_from 0 cuts (seqs_of calls))) (number-at calls j s is))

  pub refused-row : (s : PendingCall) → slice_get calls j ≡ Some s
      → row_from 0 (taken_out j cuts) (seqs_of (remove calls j)) ≡ without_call s.call.seq v.row
  refused-row s is = subst (λ (v : ChainParts). row_from 0 (taken_out j cuts) (seqs_of (remove calls j)) ≡ without_call s.call.seq v.row) seen
      (ap (λ (seqs : List ℕ). row_from 0 (taken_out j cuts) seqs) (remove-map (λ (s : PendingCall). s.call.seq) calls j)
      ∙ (row-without j cuts (seqs_of calls) there kept.stands.ascend
      ∙ ap (λ (seq : ℕ). without_call seq (row_from 0 cuts (seqs_of calls))) (number-at calls j s is)))

-- ---- the whole turn

module _ (before after : ChainParts) (p j moment : ℕ) (outcome : Outcome) (es' : List EngineParts) (calls' : List PendingCall)
    (st : ArePendingOn before.engines before.attached before.calls) (w : HasWorked before.engines before.calls p j moment outcome es' calls') where
  pub with-call : calls' ≡ take j before.calls ++ w.call' ∷ drop (suc j) before.calls
  with-call = w.other_calls ∙ put-at before.calls j w.call w.call' w.is_call

  pub without-it : remove calls' j ≡ take j before.calls ++ drop (suc j) before.calls
  without-it = ap (λ (xs : List PendingCall). remove xs j) w.other_calls ∙ gone-at before.calls j w.call'

  pub turned : after.engines ≡ es' → after.calls ≡ calls_after outcome (take j before.calls) w.call' (drop (suc j) before.calls)
      → IsEngineTurn before p moment w.call.call.seq outcome after
  turned engines left = record {
    engine = w.engine;
    engine' = w.engine';
    is_engine = w.is_engine;
    engines = engines ∙ w.others;
    call = w.call;
    call' = w.call';
    number = refl;
    front = take j before.calls;
    back = drop (suc j) before.calls;
    calls_before = split-at before.calls j w.call w.is_call;
    calls = left;
    comes = comes-out before.engines before.attached p j moment before.calls outcome es' calls' st w;
    met = w.met;
    keeps = w.keeps;
    turn = w.turn;
    leaves_engine = w.leaves_engine;
    leaves_call = w.leaves_call;
    leaves_marks = w.leaves_marks;
  }

pub left-after : (outcome : Outcome) (j : ℕ) (calls front back : List PendingCall) (s : PendingCall) → calls ≡ front ++ s ∷ back
    → remove calls j ≡ front ++ back → remaining_calls outcome j calls ≡ calls_after outcome front s back
left-after (Passed n) j calls front back s stays goes = stays
left-after (Held level cost) j calls front back s stays goes = stays
left-after (Refused n why) j calls front back s stays goes = goes
left-after Redacted j calls front back s stays goes = stays

pub told-holds : (seq : ℕ) (outcome : Outcome) (t : Turned) (Holds : ℕ → Outcome → Type 0) → t ≡ turned_as seq outcome → Holds seq outcome → OnTurn t Holds
told-holds seq (Passed n) t Holds is holds = subst (λ (t : Turned). OnTurn t Holds) (sym is) holds
told-holds seq (Held level cost) t Holds is holds = subst (λ (t : Turned). OnTurn t Holds) (sym is) holds
told-holds seq (Refused n why) t Holds is holds = subst (λ (t : Turned). OnTurn t Holds) (sym is) holds
told-holds seq Redacted t Holds is holds = subst (λ (t : Turned). OnTurn t Holds) (sym is) holds

-- the consequence of either result
pub in-either : {A P Q : Type 0} (b : Bool) → OnTrue b P → OnFalse b Q → (P → A) → (Q → A) → A
in-either true p q f g = f p
in-either false p q f g = g q
