-- The frames and tickets that events of one connection add to those of all connections.
use Rattle.std.proofs.Common.{◌≡◌, ℕ, List, [], ◌∷◌, ◌++◌, map, refl, sym, ap, ◌∙◌, append_assoc, append-nil}
use Rattle.mrpc_table.specs.declared.table.Table.{Table}
use Rattle.call_history.specs.Trace.{Trace}
use Rattle.call_history.specs.Frames.{frames, frames_after, frames_of_trace, frames_sent_by}
use Rattle.call_history.specs.Legal.{History, trace_of}
use Rattle.call_history.specs.Tickets.{tickets_drawn_by, tickets_of_trace}
use Rattle.call_history.specs.declared.happening.ConnectionEvent.{ConnectionEvent}
use Rattle.call_history.specs.declared.happening.Happening.{Happening}
use Rattle.replay_run.specs.Follows.{event_on}
use Rattle.replay_run.specs.Tickets.{tickets, tickets_after}
use Rattle.replay_run.proofs.GivenLaws.{HistoryLaws}

pub append-cancel : {X : Type 0} (xs ys zs : List X) → xs ++ ys ≡ xs ++ zs → ys ≡ zs
append-cancel [] ys zs is = is
append-cancel (x ∷ xs) ys zs is = append-cancel xs ys zs cc

module _ (laws : HistoryLaws) (X : Type 0) (by : ℕ → Happening → Trace → List X) where
  -- what a history adds to one before it; each event adds by the trace of its connection
  abbrev pub told_after : History → History → List X
  told_after before [] = []
  told_after before (x ∷ h) = by x.conn x.what (trace_of x.conn before) ++ told_after (before ++ x ∷ []) h

  abbrev pub told_behind : ℕ → Trace → List X
  told_behind conn [] = []
  told_behind conn (last ∷ past) = told_behind conn past ++ by conn last past

  after-append : (b h k : History) → told_after b (h ++ k) ≡ told_after b h ++ told_after (b ++ h) k
  after-append b [] k = ap (λ c. told_after c k) (sym (append-nil b))
  after-append b (x ∷ h) k =
      let now : List X = by x.conn x.what (trace_of x.conn b) in
      ap (λ ys. now ++ ys) (after-append (b ++ x ∷ []) h k ∙ ap (λ c. told_after (b ++ x ∷ []) h ++ told_after c k) (append_assoc b (x ∷ []) h))
      ∙ sym (append_assoc now (told_after (b ++ x ∷ []) h) (told_after (b ++ x ∷ h) k))

  piece-adds : (conn : ℕ) (b : History) (piece : List Happening)
      → told_behind conn (trace_of conn (b ++ map (event_on conn) piece))
      ≡ told_behind conn (trace_of conn b) ++ told_after b (map (event_on conn) piece)
  piece-adds conn b [] = ap (λ h. told_behind conn (trace_of conn h)) (append-nil b) ∙ sym (append-nil (told_behind conn (trace_of conn b)))
  piece-adds conn b (x ∷ piece) =
      let y : ConnectionEvent = event_on conn x in
      let rest : History = map (event_on conn) piece in
      ap (λ h. told_behind conn (trace_of conn h)) (sym (append_assoc b (y ∷ []) rest))
      ∙ piece-adds conn (b ++ y ∷ []) piece
      ∙ ap (λ p. told_behind conn p ++ told_after (b ++ y ∷ []) rest) (laws.one_more conn b y refl)
      ∙ append_assoc (told_behind conn (trace_of conn b)) (by conn x (trace_of conn b)) (told_after (b ++ y ∷ []) rest)

  pub more-told : (conn : ℕ) (h : History) (piece : List Happening) (more : List X)
      → told_behind conn (trace_of conn (h ++ map (event_on conn) piece)) ≡ told_behind conn (trace_of conn h) ++ more
      → told_after [] (h ++ map (event_on conn) piece) ≡ told_after [] h ++ more
  more-told conn h piece more is =
      after-append [] h (map (event_on conn) piece)
      ∙ ap (λ ys. told_after [] h ++ ys)
      (append-cancel (told_behind conn (trace_of conn h)) (told_after h (map (event_on conn) piece)) more
      (sym (piece-adds conn h piece) ∙ is))

module _ (laws : HistoryLaws) (T : Table) where
  frames-after : (b h : History) → frames_after T b h ≡ told_after laws (List ℕ) (frames_sent_by T) b h
  frames-after b [] = refl
  frames-after b (x ∷ h) = ap (λ ys. frames_sent_by T x.conn x.what (trace_of x.conn b) ++ ys) (frames-after (b ++ x ∷ []) h)

  frames-behind : (conn : ℕ) (past : Trace) → frames_of_trace T conn past ≡ told_behind laws (List ℕ) (frames_sent_by T) conn past
  frames-behind conn [] = refl
  frames-behind conn (x ∷ past) = ap (λ ys. ys ++ frames_sent_by T conn x past) (frames-behind conn past)

  pub frames-further : (h k : History) → frames T (h ++ k) ≡ frames T h ++ told_after laws (List ℕ) (frames_sent_by T) h k
  frames-further h k =
      frames-after [] (h ++ k) ∙ after-append laws (List ℕ) (frames_sent_by T) [] h k ∙ ap (λ fs. fs ++ told_after laws (List ℕ) (frames_sent_by T) h k) (sym (frames-after [] h))

  pub frames-more : (conn : ℕ) (h : History) (piece : List Happening) (more : List (List ℕ))
      → frames_of_trace T conn (trace_of conn (h ++ map (event_on conn) piece)) ≡ frames_of_trace T conn (trace_of conn h) ++ more
      → frames T (h ++ map (event_on conn) piece) ≡ frames T h ++ more
  frames-more conn h piece more is =
      frames-after [] (h ++ map (event_on conn) piece)
      ∙ more-told laws (List ℕ) (frames_sent_by T) conn h piece more
      (sym (frames-behind conn (trace_of conn (h ++ map (event_on conn) piece))) ∙ is ∙ ap (λ ys. ys ++ more) (frames-behind conn (trace_of conn h)))
      ∙ ap (λ ys. ys ++ more) (sym (frames-after [] h))

module _ (laws : HistoryLaws) (tenant window : ℕ) where
  abbrev drawn_on : ℕ → Happening → Trace → List ℕ
  drawn_on conn what past = tickets_drawn_by tenant window what past

  tickets-after : (b h : History) → tickets_after tenant window b h ≡ told_after laws ℕ drawn_on b h
  tickets-after b [] = refl
  tickets-after b (x ∷ h) = ap (λ ys. tickets_drawn_by tenant window x.what (trace_of x.conn b) ++ ys) (tickets-after (b ++ x ∷ []) h)

  tickets-behind : (conn : ℕ) (past : Trace) → tickets_of_trace tenant window past ≡ told_behind laws ℕ drawn_on conn past
  tickets-behind conn [] = refl
  tickets-behind conn (x ∷ past) = ap (λ ys. ys ++ tickets_drawn_by tenant window x past) (tickets-behind conn past)

  -- those of a history come before those of what follows it
  pub tickets-further : (h k : History) → tickets tenant window (h ++ k) ≡ tickets tenant window h ++ told_after laws ℕ drawn_on h k
  tickets-further h k =
      tickets-after [] (h ++ k) ∙ after-append laws ℕ drawn_on [] h k ∙ ap (λ ts. ts ++ told_after laws ℕ drawn_on h k) (sym (tickets-after [] h))

  pub tickets-more : (conn : ℕ) (h : History) (piece : List Happening) (more : List ℕ)
      → tickets_of_trace tenant window (trace_of conn (h ++ map (event_on conn) piece)) ≡ tickets_of_trace tenant window (trace_of conn h) ++ more
      → tickets tenant window (h ++ map (event_on conn) piece) ≡ tickets tenant window h ++ more
  tickets-more conn h piece more is =
      tickets-after [] (h ++ map (event_on conn) piece)
      ∙ more-told laws ℕ drawn_on conn h piece more
      (sym (tickets-behind conn (trace_of conn (h ++ map (event_on conn) piece))) ∙ is ∙ ap (λ ys. ys ++ more) (tickets-behind conn (trace_of conn h)))
      ∙ ap (λ ys. ys ++ more) (sym (tickets-after [] h))
