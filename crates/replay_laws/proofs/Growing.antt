-- Events of one connection, one after another, after a history of all.
use Rattle.std.proofs.Common.{◌≡◌, inl, ℕ, ◌+◌, ◌≤◌, List, [], ◌∷◌, ◌++◌, length, map, reverse, refl, sym, ap, ◌∙◌}
use Rattle.std.proofs.Common.{append_assoc, append-nil, length-append, arith}
use Rattle.std.specs.Prelude.{Some}
use Rattle.std.proofs.lemmas.List.{reverse-append, map-append}
use Rattle.mrpc_table.specs.declared.table.Table.{Table}
use Rattle.engine_core.specs.Chains.{Entry}
use Rattle.engine_core.specs.Turns.{noted_in}
use Rattle.engine_core.specs.declared.outcome.Noted.{Noted}
use Rattle.engine_core.specs.declared.outcome.Noted.TheVariants as notes
use Rattle.engine_core.specs.declared.outcome.Outcome.{Outcome}
use Rattle.engine_core.specs.declared.outcome.Outcome.TheVariants as outcomes
use Rattle.engine_core.specs.declared.policy.Policy.{Policy}
use Rattle.call_history.specs.Trace.{Trace, policy_in_trace}
use Rattle.call_history.specs.Transitions.{ConnState, cause_of, with_note, refused_for_link, trace_after_turn}
use Rattle.call_history.specs.Frames.{frames, frames_sent_by}
use Rattle.call_history.specs.Legal.{History, trace_of}
use Rattle.call_history.specs.declared.happening.Cause.TheVariants as cause
use Rattle.call_history.specs.declared.happening.ConnectionEvent.{ConnectionEvent}
use Rattle.call_history.specs.declared.happening.Happening.{Happening}
use Rattle.call_history.specs.declared.happening.Happening.TheVariants.{Charged, Drawn, Counted, Redacted, Sent, Refused}
use Rattle.call_history.specs.declared.happening.AcceptedCall.{AcceptedCall}
use Rattle.replay_run.specs.Follows.{event_on}
use Rattle.replay_run.specs.Tickets.{AreConsecutive}
use Rattle.replay_laws.proofs.Outcomes.{IsNext}
use Rattle.replay_laws.proofs.Turns.{TellsNext, draw-tells, next_in, turns-on}

-- the laws of histories
pub record GrowthLaws : Type 0 where
  pub one_more : (conn : ℕ) (h : History) (x : ConnectionEvent) → x.conn ≡ conn → trace_of conn (h ++ x ∷ []) ≡ x.what ∷ trace_of conn h
  pub frames_on : (T : Table) (h : History) (x : ConnectionEvent) → frames T (h ++ x ∷ []) ≡ frames T h ++ frames_sent_by T x.conn x.what (trace_of x.conn h)

-- this is the trace of the connection, and the tickets of all connections are in turn
pub record IsHere (conn : ℕ) (h : History) (past : Trace) : Type 0 where
  pub at : past ≡ trace_of conn h
  pub in_turn : AreConsecutive h

-- some events of the connection are added to a history
pub record Grows (conn : ℕ) (h : History) (past : Trace) (h' : History) (past' : Trace) : Type 0 where
  pub piece : List Happening
  pub past_is : past' ≡ reverse piece ++ past
  pub history_is : h' ≡ h ++ map (event_on conn) piece
  pub here : IsHere conn h' past'

pub grows-none : (conn : ℕ) (h : History) (past : Trace) → IsHere conn h past → Grows conn h past h past
grows-none conn h past here = record { piece = []; past_is = refl; history_is = sym (append-nil h); here = here }

pub grows-then : (conn : ℕ) (h i j : History) (past mid end : Trace) → Grows conn h past i mid → Grows conn i mid j end → Grows conn h past j end
grows-then conn h i j past mid end first second =
    let on : List Happening → History = map (event_on conn) in
    record {
      piece = first.piece ++ second.piece;
      past_is = second.past_is ∙ ap (λ p. reverse second.piece ++ p) first.past_is
          ∙ sym (append_assoc (reverse second.piece) (reverse first.piece) past)
          ∙ ap (λ p. p ++ past) (sym (reverse-append first.piece second.piece));
      history_is = second.history_is ∙ ap (λ k. k ++ on second.piece) first.history_is
          ∙ append_assoc h (on first.piece) (on second.piece)
          ∙ ap (λ k. h ++ k) (sym (map-append (event_on conn) first.piece second.piece));
      here = second.here;
    }

module _ (laws : GrowthLaws) (conn : ℕ) where
  pub here-more : (h : History) (past : Trace) (x : Happening) → IsHere conn h past → TellsNext h (event_on conn x)
      → IsHere conn (h ++ event_on conn x ∷ []) (x ∷ past)
  here-more h past x here tells = record {
    at = ap (λ p. x ∷ p) here.at ∙ sym (laws.one_more conn h (event_on conn x) refl);
    in_turn = turns-on h (event_on conn x) here.in_turn tells;
  }

  pub grows-more : (h i : History) (past mid : Trace) (x : Happening) → Grows conn h past i mid → TellsNext i (event_on conn x)
      → Grows conn h past (i ++ event_on conn x ∷ []) (x ∷ mid)
  grows-more h i past mid x grows tells =
      grows-then conn h i (i ++ event_on conn x ∷ []) past mid (x ∷ mid) grows (record {
        piece = x ∷ [];
        past_is = refl;
        history_is = refl;
        here = here-more i mid x grows.here tells;
      })

  -- ---- the events of a turn

  abbrev pub after_note : List ℕ → ℕ → Noted → History → History
  after_note name seq notes.Nothing h = h
  after_note name seq (notes.Charged left) h = h ++ event_on conn (Charged seq name left) ∷ []
  after_note name seq (notes.Drawn window ticket) h = h ++ event_on conn (Drawn seq name window ticket) ∷ []
  after_note name seq notes.Counted h = h ++ event_on conn (Counted seq name) ∷ []

  abbrev pub after_turn : Entry → ℕ → Outcome → History → History
  after_turn e seq (outcomes.Passed n) h = after_note e.name seq n h
  after_turn e seq (outcomes.Held left cost) h = h
  after_turn e seq (outcomes.Refused n why) h = after_note e.name seq n h ++ event_on conn (Refused seq (cause_of e why)) ∷ []
  after_turn e seq outcomes.Redacted h = h ++ event_on conn (Redacted seq e.name e.version) ∷ []

  note-grows : (h : History) (past : Trace) (name : List ℕ) (seq : ℕ) (n : Noted) (policy : Policy) → IsHere conn h past
      → policy_in_trace name past ≡ Some policy → IsNext (next_in h) n policy → Grows conn h past (after_note name seq n h) (with_note name seq n past)
  note-grows h past name seq notes.Nothing policy here is next = grows-none conn h past here
  note-grows h past name seq (notes.Charged left) policy here is next =
      grows-more h h past past (Charged seq name left) (grows-none conn h past here) (λ tenant window. inl refl)
  note-grows h past name seq (notes.Drawn window ticket) policy here is next =
      grows-more h h past past (Drawn seq name window ticket) (grows-none conn h past here)
      (draw-tells (next_in h) policy seq name window ticket (trace_of conn h) (ap (policy_in_trace name) (sym here.at) ∙ is) next)
  note-grows h past name seq notes.Counted policy here is next =
      grows-more h h past past (Counted seq name) (grows-none conn h past here) (λ tenant window. inl refl)

  pub turn-grows : (h : History) (c : ConnState) (e : Entry) (seq : ℕ) (outcome : Outcome) → IsHere conn h c.past
      → policy_in_trace e.name c.past ≡ Some e.policy → IsNext (next_in h) (noted_in outcome) e.policy
      → Grows conn h c.past (after_turn e seq outcome h) (trace_after_turn e seq outcome c).past
  turn-grows h c e seq (outcomes.Passed n) here is next = note-grows h c.past e.name seq n e.policy here is next
  turn-grows h c e seq (outcomes.Held left cost) here is next = grows-none conn h c.past here
  turn-grows h c e seq (outcomes.Refused n why) here is next =
      grows-more h (after_note e.name seq n h) c.past (with_note e.name seq n c.past) (Refused seq (cause_of e why))
      (note-grows h c.past e.name seq n e.policy here is next) (λ tenant window. inl refl)
  turn-grows h c e seq outcomes.Redacted here is next =
      grows-more h h c.past c.past (Redacted seq e.name e.version) (grows-none conn h c.past here) (λ tenant window. inl refl)

  -- ---- the events of the end of a link

  abbrev pub after_refusals : List AcceptedCall → History → History
  after_refusals [] h = h
  after_refusals (call ∷ calls) h = after_refusals calls (h ++ event_on conn (Refused call.seq cause.Transport) ∷ [])

  pub refusals-grow : (calls : List AcceptedCall) (h : History) (past : Trace) → IsHere conn h past
      → Grows conn h past (after_refusals calls h) (refused_for_link calls past)
  refusals-grow [] h past here = grows-none conn h past here
  refusals-grow (call ∷ calls) h past here =
      let x : Happening = Refused call.seq cause.Transport in
      let one = grows-more h h past past x (grows-none conn h past here) (λ tenant window. inl refl) in
      grows-then conn h (h ++ event_on conn x ∷ []) (after_refusals calls (h ++ event_on conn x ∷ [])) past (x ∷ past)
      (refused_for_link calls (x ∷ past)) one (refusals-grow calls (h ++ event_on conn x ∷ []) (x ∷ past) one.here)

  -- ---- frames

  module _ (T : Table) where
    abbrev pub sent_in : History → ℕ
    sent_in h = length (frames T h)

    -- an event that is no send has no frame
    pub one-still : (h : History) (x : Happening) → ((past : Trace) → frames_sent_by T conn x past ≡ []) → sent_in (h ++ event_on conn x ∷ []) ≡ sent_in h
    one-still h x none =
        ap length (laws.frames_on T h (event_on conn x) ∙ ap (λ fs. frames T h ++ fs) (none (trace_of conn h)) ∙ append-nil (frames T h))

    note-still : (h : History) (name : List ℕ) (seq : ℕ) (n : Noted) → sent_in (after_note name seq n h) ≡ sent_in h
    note-still h name seq notes.Nothing = refl
    note-still h name seq (notes.Charged left) = one-still h (Charged seq name left) (λ past. refl)
    note-still h name seq (notes.Drawn window ticket) = one-still h (Drawn seq name window ticket) (λ past. refl)
    note-still h name seq notes.Counted = one-still h (Counted seq name) (λ past. refl)

    pub turn-still : (h : History) (e : Entry) (seq : ℕ) (outcome : Outcome) → sent_in (after_turn e seq outcome h) ≡ sent_in h
    turn-still h e seq (outcomes.Passed n) = note-still h e.name seq n
    turn-still h e seq (outcomes.Held left cost) = refl
    turn-still h e seq (outcomes.Refused n why) =
        one-still (after_note e.name seq n h) (Refused seq (cause_of e why)) (λ past. refl) ∙ note-still h e.name seq n
    turn-still h e seq outcomes.Redacted = one-still h (Redacted seq e.name e.version) (λ past. refl)

    pub refusals-still : (calls : List AcceptedCall) (h : History) → sent_in (after_refusals calls h) ≡ sent_in h
    refusals-still [] h = refl
    refusals-still (call ∷ calls) h =
        refusals-still calls (h ++ event_on conn (Refused call.seq cause.Transport) ∷ [])
        ∙ one-still h (Refused call.seq cause.Transport) (λ past. refl)

    pub one-sent : (h : History) (seq bytes : ℕ) → sent_in (h ++ event_on conn (Sent seq bytes) ∷ []) ≡ sent_in h + 1
    one-sent h seq bytes =
        ap length (laws.frames_on T h (event_on conn (Sent seq bytes)))
        ∙ length-append (frames T h) (frames_sent_by T conn (Sent seq bytes) (trace_of conn h))

-- more events have no fewer frames
pub no-fewer : GrowthLaws → (T : Table) (h k : History) → length (frames T h) ≤ length (frames T (h ++ k))
no-fewer laws T h [] = let same : length (frames T (h ++ [])) ≡ length (frames T h) = ap (λ i. length (frames T i)) (append-nil h) in omega arith
no-fewer laws T h (x ∷ k) =
    let one : length (frames T (h ++ x ∷ [])) ≡ length (frames T h) + length (frames_sent_by T x.conn x.what (trace_of x.conn h)) =
    ap length (laws.frames_on T h x) ∙ length-append (frames T h) (frames_sent_by T x.conn x.what (trace_of x.conn h)) in
    let rest : length (frames T (h ++ x ∷ [])) ≤ length (frames T ((h ++ x ∷ []) ++ k)) = no-fewer laws T (h ++ x ∷ []) k in
    let same : length (frames T ((h ++ x ∷ []) ++ k)) ≡ length (frames T (h ++ x ∷ k)) = ap (λ i. length (frames T i)) (append_assoc h (x ∷ []) k) in
    omega arith
