-- What was left of several connections, one after another.
use Rattle.std.proofs.Common.{◌≡◌, List, [], ◌∷◌, ◌++◌, length, Option, None, Some, arith, refl, sym, ap, subst, ◌∙◌, append_assoc, append-nil}
use Rattle.std.specs.Prelude.{MatchOption}
use Rattle.std.specs.List.{AllZip}
use Rattle.mrpc_base.specs.declared.clock.Clock.{Ghosts as ClockMembers}
use Rattle.mrpc_base.specs.declared.link.Link.{Ghosts as LinkMembers}
use Rattle.mrpc_base.specs.declared.tickets.Tickets.{Ghosts as TicketMembers}
use Rattle.tenant_quota.specs.Drawing.{Drawing}
use Rattle.app_stub.specs.declared.port.AppEnd.{AppEnd}
use Rattle.link_queue.specs.Queueing.{QueueLinkState}
use Rattle.link_queue.specs.declared.writer_end.WriterEnd.{WriterEnd}
use Rattle.service_wiring.specs.declared.closed_connection.ClosedConnection.{ClosedConnection}
use Rattle.service_threads.specs.Closings.{AreLeft, IsLeft, Opening}

-- the first of some openings were reconciled, and what is left of the others remains
pub record MeetSome {O X : Type 0} (Left : List O → Type 0) (Served : O → X → Type 0) (openings : List O)
    (met : List X) : Type 0 where
  pub past : List O
  pub rest : List O
  pub all : openings ≡ past ++ rest
  pub served : AllZip Served past met
  pub left : Left rest

-- what holds of an iterator that returns no more items
pub at-end : {X : Type 0} (o : Option X) (P : Type 0) (Q : X → Type 0) → ((x : X) → o ≡ Some x → ⊥)
    → MatchOption o P Q → P
at-end None P Q never cases = cases
at-end (Some x) P Q never cases = absurd (never x refl)

pub empty-list : {X : Type 0} (xs : List X) → length xs ≡ 0 → xs ≡ []
empty-list [] none = refl
empty-list (x ∷ xs) none = absurd (omega (arith, none))

pub zip-push : {O X : Type 0} (Served : O → X → Type 0) (os : List O) (xs : List X) (o : O) (x : X) → AllZip Served os xs
    → Served o x → AllZip Served (os ++ o ∷ []) (xs ++ x ∷ [])
zip-push Served [] [] o x zip here = (here, tt)
zip-push Served [] (y ∷ xs) o x zip here = absurd zip
zip-push Served (p ∷ os) [] o x zip here = absurd zip
zip-push Served (p ∷ os) (y ∷ xs) o x zip here = (zip.0, zip-push Served os xs o x zip.1 here)

module _ {C L : Type 0} (of_clock : ClockMembers C) (of_quotas : TicketMembers (List Drawing))
    (of_link : LinkMembers QueueLinkState) {g : LinkMembers L} where
  -- what is left of the next connection, and of the later ones
  pub record Next (openings : List (Opening C L)) (closed : ClosedConnection) (end : AppEnd) (writer : WriterEnd L g)
      (more : List ClosedConnection) (ends : List AppEnd) (writers : List (WriterEnd L g)) : Type 0 where
    pub o : Opening C L
    pub later : List (Opening C L)
    pub are : openings ≡ o ∷ later
    pub is_left : IsLeft of_clock of_quotas of_link o closed end writer
    pub are_left : AreLeft of_clock of_quotas of_link later more ends writers

  pub next-left : (openings : List (Opening C L)) (closed : ClosedConnection) (end : AppEnd) (writer : WriterEnd L g)
      (more : List ClosedConnection) (ends : List AppEnd) (writers : List (WriterEnd L g))
      → AreLeft of_clock of_quotas of_link openings (closed ∷ more) (end ∷ ends) (writer ∷ writers)
      → Next openings closed end writer more ends writers
  next-left [] closed end writer more ends writers left = absurd left
  next-left (o ∷ openings) closed end writer more ends writers left =
      record { o = o; later = openings; are = refl; is_left = left.0; are_left = left.1 }

  -- if a connection is left, an end and a writer are left with it
  no-end : (openings : List (Opening C L)) (closed : ClosedConnection) (more : List ClosedConnection) (writers : List (WriterEnd L g))
      → AreLeft of_clock of_quotas of_link openings (closed ∷ more) [] writers → ⊥
  no-end [] closed more writers left = left
  no-end (o ∷ openings) closed more writers left = left

  no-writer : (openings : List (Opening C L)) (closed : ClosedConnection) (more : List ClosedConnection) (ends : List AppEnd)
      (writers : List (WriterEnd L g)) → writers ≡ []
      → AreLeft of_clock of_quotas of_link openings (closed ∷ more) ends writers → ⊥
  no-writer [] closed more ends writers none left = left
  no-writer (o ∷ openings) closed more [] writers none left = left
  no-writer (o ∷ openings) closed more (end ∷ ends) [] none left = left
  no-writer (o ∷ openings) closed more (end ∷ ends) (writer ∷ writers) none left = absurd cc

  no-more : (openings : List (Opening C L)) (ends : List AppEnd) (writers : List (WriterEnd L g))
      → AreLeft of_clock of_quotas of_link openings [] ends writers → openings ≡ []
  no-more [] ends writers left = refl
  no-more (o ∷ openings) ends writers left = absurd left

  -- the next connection is reconciled after the earlier ones
  module _ {X : Type 0} (Served : Opening C L → X → Type 0) where
    abbrev pub SoFar : List (Opening C L) → List X → List ClosedConnection → List AppEnd → List (WriterEnd L g) → Type 0
    SoFar openings met closed ends writers =
        MeetSome (λ rest. AreLeft of_clock of_quotas of_link rest closed ends writers) Served openings met

    pub none-met : (openings : List (Opening C L)) (met : List X) (closed closed' : List ClosedConnection)
        (ends ends' : List AppEnd) (writers writers' : List (WriterEnd L g)) → met ≡ [] → closed' ≡ closed
        → ends' ≡ ends → writers' ≡ writers → AreLeft of_clock of_quotas of_link openings closed ends writers
        → SoFar openings met closed' ends' writers'
    none-met openings met closed closed' ends ends' writers writers' none same same-ends same-writers left = record {
      past = [];
      rest = openings;
      all = refl;
      served = subst (λ xs. AllZip Served [] xs) (sym none) tt;
      left = subst (λ cs. AreLeft of_clock of_quotas of_link openings cs ends' writers') (sym same)
          (subst (λ es. AreLeft of_clock of_quotas of_link openings closed es writers') (sym same-ends)
          (subst (λ ws. AreLeft of_clock of_quotas of_link openings closed ends ws) (sym same-writers) left));
    }

    pub some-end : (openings : List (Opening C L)) (met : List X) (one : ClosedConnection) (closed closed' : List ClosedConnection)
        (ends : List AppEnd) (writers : List (WriterEnd L g)) → closed ≡ one ∷ closed' → ends ≡ []
        → SoFar openings met closed ends writers → ⊥
    some-end openings met one closed closed' ends writers same none h = no-end h.rest one closed' writers
        (subst (λ cs. AreLeft of_clock of_quotas of_link h.rest cs [] writers) same
        (subst (λ es. AreLeft of_clock of_quotas of_link h.rest closed es writers) none h.left))

    pub some-writer : (openings : List (Opening C L)) (met : List X) (one : ClosedConnection) (closed closed' : List ClosedConnection)
        (ends : List AppEnd) (writers : List (WriterEnd L g)) → closed ≡ one ∷ closed' → writers ≡ []
        → SoFar openings met closed ends writers → ⊥
    some-writer openings met one closed closed' ends writers same none h = no-writer h.rest one closed' ends writers none
        (subst (λ cs. AreLeft of_clock of_quotas of_link h.rest cs ends writers) same h.left)

    pub next-of : (openings : List (Opening C L)) (met : List X) (one : ClosedConnection) (end : AppEnd)
        (writer : WriterEnd L g) (closed closed' : List ClosedConnection) (ends ends' : List AppEnd)
        (writers writers' : List (WriterEnd L g)) → closed ≡ one ∷ closed' → ends ≡ end ∷ ends'
        → writers ≡ writer ∷ writers' → (h : SoFar openings met closed ends writers)
        → Next h.rest one end writer closed' ends' writers'
    next-of openings met one end writer closed closed' ends ends' writers writers' same same-ends same-writers h =
        next-left h.rest one end writer closed' ends' writers'
        (subst (λ cs. AreLeft of_clock of_quotas of_link h.rest cs (end ∷ ends') (writer ∷ writers')) same
        (subst (λ es. AreLeft of_clock of_quotas of_link h.rest closed es (writer ∷ writers')) same-ends
        (subst (λ ws. AreLeft of_clock of_quotas of_link h.rest closed ends ws) same-writers h.left)))

    pub one-more : (openings : List (Opening C L)) (met met' : List X) (one : ClosedConnection) (end : AppEnd)
        (writer : WriterEnd L g) (x : X) (closed closed' : List ClosedConnection) (ends ends' : List AppEnd)
        (writers writers' : List (WriterEnd L g)) → closed ≡ one ∷ closed' → ends ≡ end ∷ ends'
        → writers ≡ writer ∷ writers' → met' ≡ met ++ x ∷ []
        → ((o : Opening C L) → IsLeft of_clock of_quotas of_link o one end writer → Served o x)
        → SoFar openings met closed ends writers → SoFar openings met' closed' ends' writers'
    one-more openings met met' one end writer x closed closed' ends ends' writers writers' same same-ends same-writers
        pushed serves h =
        let next = next-of openings met one end writer closed closed' ends ends' writers writers' same same-ends
        same-writers h in
        record {
          past = h.past ++ next.o ∷ [];
          rest = next.later;
          all = h.all ∙ ap (λ xs. h.past ++ xs) next.are ∙ sym (append_assoc h.past (next.o ∷ []) next.later);
          served = subst (λ xs. AllZip Served (h.past ++ next.o ∷ []) xs) (sym pushed)
              (zip-push Served h.past met next.o x h.served (serves next.o next.is_left));
          left = next.are_left;
        }

    pub all-met : (openings : List (Opening C L)) (met : List X) (closed : List ClosedConnection) (ends : List AppEnd)
        (writers : List (WriterEnd L g)) → closed ≡ [] → SoFar openings met closed ends writers
        → AllZip Served openings met
    all-met openings met closed ends writers none h =
        subst (λ xs. AllZip Served xs met)
        (sym (h.all ∙ ap (λ xs. h.past ++ xs) (no-more h.rest ends writers
        (subst (λ cs. AreLeft of_clock of_quotas of_link h.rest cs ends writers) none h.left)) ∙ append-nil h.past))
        h.served
