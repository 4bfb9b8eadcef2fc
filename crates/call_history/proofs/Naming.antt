-- A record means the same event after more operations are stored.
use Rattle.std.proofs.Common.{◌≡◌, ℕ, ◌+◌, ◌<◌, arith, subst, List, [], ◌∷◌, ◌++◌, length, map, refl, sym, ap, ◌∙◌}
use Rattle.std.specs.Prelude.{All}
use Rattle.std.proofs.lemmas.List.Elements.{All-head, All-tail, All-push, All-weaker}
use Rattle.std.proofs.lemmas.List.{get_or_append_left, length-append, map_push}
use Rattle.std.proofs.Math.Seq.{get_or-append_seam}
use Rattle.engine_core.specs.declared.op.Op.{Op as Step}
use Rattle.engine_core.specs.declared.op.Op.TheVariants.{Detach}
use Rattle.call_history.specs.Records.{HasRule, HasValidReferences, name_in_op, rule_name_in_op, op_at, event_of_record}
use Rattle.call_history.specs.declared.happening.Cause.TheVariants as cause
use Rattle.call_history.specs.declared.happening.Happening.{Happening}
use Rattle.call_history.specs.declared.happening.Happening.TheVariants as what
use Rattle.call_history.specs.declared.record.HistoryRecord.{HistoryRecord}
use Rattle.call_history.specs.declared.record.HistoryRecord.TheVariants.{Took, Away, Op, Moment, Charged, Drawn, Counted, Redacted, Sent, Refused}
use Rattle.call_history.specs.declared.record.RecordedCause.TheVariants as by

-- an operation keeps its index
stays-at : (steps : List Step) (step : Step) (place : ℕ) → place < length steps → op_at (steps ++ step ∷ []) place ≡ op_at steps place
stays-at steps step place within = get_or_append_left steps (step ∷ []) (Detach []) place within

tells-still : (steps : List Step) (step : Step) (r : HistoryRecord) → HasValidReferences steps r → event_of_record (steps ++ step ∷ []) r ≡ event_of_record steps r
tells-still steps step (Took call) named = refl
tells-still steps step (Away method number addr) named = refl
tells-still steps step (Op place) named = ap what.Op (stays-at steps step place named)
tells-still steps step (Moment ms) named = refl
tells-still steps step (Charged seq place level) named = ap (λ (s : Step). what.Charged seq (name_in_op s) level) (stays-at steps step place named)
tells-still steps step (Drawn seq place window ticket) named = ap (λ (s : Step). what.Drawn seq (name_in_op s) window ticket) (stays-at steps step place named)
tells-still steps step (Counted seq place) named = ap (λ (s : Step). what.Counted seq (name_in_op s)) (stays-at steps step place named)
tells-still steps step (Redacted seq place version) named = ap (λ (s : Step). what.Redacted seq (name_in_op s) version) (stays-at steps step place named)
tells-still steps step (Sent seq bytes) named = refl
tells-still steps step (Refused seq by.Malformed) named = refl
tells-still steps step (Refused seq (by.Access place version rule)) named =
    ap (λ (s : Step). what.Refused seq (cause.Access (name_in_op s) version (rule_name_in_op s rule)))
    (stays-at steps step place named.0)
tells-still steps step (Refused seq (by.Rate place level cost)) named = ap (λ (s : Step). what.Refused seq (cause.Rate (name_in_op s) level cost)) (stays-at steps step place named)
tells-still steps step (Refused seq (by.Quota place ticket cap)) named = ap (λ (s : Step). what.Refused seq (cause.Quota (name_in_op s) ticket cap)) (stays-at steps step place named)
tells-still steps step (Refused seq by.Transport) named = refl

tell-still : (steps : List Step) (step : Step) (records : List HistoryRecord) → All (HasValidReferences steps) records
    → map (event_of_record (steps ++ step ∷ [])) records ≡ map (event_of_record steps) records
tell-still steps step [] named = refl
tell-still steps step (r ∷ records) named =
    ap (λ (x : Happening). x ∷ map (event_of_record (steps ++ step ∷ [])) records) (tells-still steps step r (All-head (HasValidReferences steps) r records named))
    ∙ ap (λ (xs : List Happening). event_of_record steps r ∷ xs) (tell-still steps step records (All-tail (HasValidReferences steps) r records named))

-- the record of one more operation means that operation
pub operated : (steps more : List Step) (step : Step) (place : ℕ) (records now : List HistoryRecord) (before : List Happening) → All (HasValidReferences steps) records
    → more ≡ steps ++ step ∷ [] → now ≡ records ++ Op place ∷ [] → place ≡ length steps → before ≡ map (event_of_record steps) records
    → map (event_of_record more) now ≡ before ++ what.Op step ∷ []
operated steps more step place records now before named steps_are records_are place_is before_is =
    let tells : (s : Step) → op_at (steps ++ step ∷ []) (length steps) ≡ s
    → map (event_of_record (steps ++ step ∷ [])) (records ++ Op (length steps) ∷ []) ≡ map (event_of_record steps) records
    ++ what.Op s ∷ [] = λ s there.
    map_push (event_of_record (steps ++ step ∷ [])) records (Op (length steps))
    ∙ ap (λ (xs : List Happening). xs ++ what.Op (op_at (steps ++ step ∷ []) (length steps)) ∷ []) (tell-still steps step records named)
    ∙ ap (λ (s : Step). map (event_of_record steps) records ++ what.Op s ∷ []) there in
    ap (λ (ss : List Step). map (event_of_record ss) now) steps_are
    ∙ ap (λ (rs : List HistoryRecord). map (event_of_record (steps ++ step ∷ [])) rs) (records_are ∙ ap (λ (n : ℕ). records ++ Op n ∷ []) place_is)
    ∙ tells step (get_or-append_seam steps step [] (Detach []))
    ∙ ap (λ (xs : List Happening). xs ++ what.Op step ∷ []) (sym before_is)

-- ---- each record names an operation

longer : (steps : List Step) (step : Step) (place : ℕ) → place < length steps → place < length (steps ++ step ∷ [])
longer steps step place within = omega (arith, within, length-append steps (step ∷ []))

named-still : (steps : List Step) (step : Step) (r : HistoryRecord) → HasValidReferences steps r → HasValidReferences (steps ++ step ∷ []) r
named-still steps step (Took call) named = tt
named-still steps step (Away method number addr) named = tt
named-still steps step (Op place) named = longer steps step place named
named-still steps step (Moment ms) named = tt
named-still steps step (Charged seq place level) named = longer steps step place named
named-still steps step (Drawn seq place window ticket) named = longer steps step place named
named-still steps step (Counted seq place) named = longer steps step place named
named-still steps step (Redacted seq place version) named = longer steps step place named
named-still steps step (Sent seq bytes) named = tt
named-still steps step (Refused seq by.Malformed) named = tt
named-still steps step (Refused seq (by.Access place version rule)) named = (
  longer steps step place named.0,
  subst (λ (s : Step). HasRule s rule) (sym (stays-at steps step place named.0)) named.1,
)
named-still steps step (Refused seq (by.Rate place level cost)) named = longer steps step place named
named-still steps step (Refused seq (by.Quota place ticket cap)) named = longer steps step place named
named-still steps step (Refused seq by.Transport) named = tt

-- so do the records with one more operation
pub named-operated : (steps more : List Step) (step : Step) (place : ℕ) (records now : List HistoryRecord) → All (HasValidReferences steps) records
    → more ≡ steps ++ step ∷ [] → now ≡ records ++ Op place ∷ [] → place ≡ length steps → All (HasValidReferences more) now
named-operated steps more step place records now named steps_are records_are place_is =
    let by_one : length more ≡ length steps + 1 = ap length steps_are ∙ length-append steps (step ∷ []) in
    subst (λ (rs : List HistoryRecord). All (HasValidReferences more) rs) (sym records_are)
    (All-push (HasValidReferences more) records (Op place)
    (All-weaker (HasValidReferences steps) (HasValidReferences more)
    (λ r h. subst (λ (ss : List Step). HasValidReferences ss r) (sym steps_are) (named-still steps step r h)) records named)
    (omega (arith, by_one, place_is)))
