-- The outcomes of connections, and the tickets that their seats hold once they are joined.
use Rattle.std.proofs.Common.{◌≡◌, ℕ, ◌<◌, ◌^◌, List, [], ◌∷◌, ◌++◌, length, map, All, Option, Some, None, refl, sym, ap, append-nil, subst, ◌∙◌, arith}
use Rattle.std.specs.Prelude.{IsPermutation, slice_get}
use Rattle.std.specs.List.{AllZip, flat_map, range_with_len}
use Rattle.std.proofs.lemmas.List.Elements.{All-cons, All-get_or, All-head, All-nil, All-tail, All-weaker}
use Rattle.std.proofs.lemmas.List.Sorted.{IsPermutation-append_comm, IsPermutation-append_right, IsPermutation-refl, IsPermutation-trans, length_permutation}
use Rattle.std.proofs.lemmas.Option.{get_or_from_slice_get, slice_get-get_or, slice_get_within}
use Rattle.mrpc_base.specs.declared.clock.Clock.{Ghosts as ClockMembers}
use Rattle.mrpc_base.specs.declared.link.Link.{Ghosts as LinkMembers}
use Rattle.mrpc_base.specs.declared.tickets.TheConstants.{WINDOWS}
use Rattle.call_history.specs.Tickets.{tickets_of_trace}
use Rattle.conn_core.specs.Connections.{conn_trace}
use Rattle.tenant_quota.specs.Drawing.{AreAllDrawn, AreLater, Drawing, IsPermutationOfRange, QuotaId, all_shares, tickets_of_tenant, kept_half, new_half, quotas_of, tickets_of_seat, tickets_in}
use Rattle.run_plan.specs.declared.plan.Plan.{Plan}
use Rattle.service_threads.specs.Closings.{Opening}
use Rattle.service_threads.specs.Joining.{IsSeatSplit, joined_tickets}
use Rattle.service_threads.specs.Served.{HasServed}
use Rattle.service_threads.specs.declared.reconciling.ReconciledConnection.{ReconciledConnection}
use Rattle.service.specs.Concluding.{WasServedAt, unmatched_of, outcomes_of}
use Rattle.service.specs.Ends.{OpenedEnd}
use Rattle.service.specs.Served.{all_tickets}
use Rattle.service.specs.Starting.{AreStartStates}
use Rattle.service.specs.declared.starting.StartState.{StartState}
use Rattle.service.specs.declared.starting.StartState.TheVariants.{Bound, Unbound}

-- ---- quotas

module _ (kept : (seats : List Drawing) → quotas_of (map kept_half seats) ≡ quotas_of seats)
    (new : (seats : List Drawing) → quotas_of (map new_half seats) ≡ quotas_of seats) where
  -- seats that were split among others, and the remaining ones, are of the same quotas
  pub split-quotas : (whole : List Drawing) (owns : List (List Drawing)) (rest : List Drawing)
      → IsSeatSplit whole owns rest
      → (quotas_of rest ≡ quotas_of whole) × All (λ own. quotas_of own ≡ quotas_of whole) owns
  split-quotas whole [] rest split =
      (ap quotas_of split, All-nil (λ (own : List Drawing). quotas_of own ≡ quotas_of whole))
  split-quotas whole (own ∷ owns) rest split =
      let more = split-quotas (map kept_half whole) owns rest split.1 in (
        more.0 ∙ kept whole,
        All-cons (λ (x : List Drawing). quotas_of x ≡ quotas_of whole) own owns (ap quotas_of split.0 ∙ new whole)
            (All-weaker (λ (x : List Drawing). quotas_of x ≡ quotas_of (map kept_half whole))
            (λ (x : List Drawing). quotas_of x ≡ quotas_of whole) (λ x same. same ∙ kept whole) owns more.1),
      )

pub later-quotas : (quotas : List QuotaId)
    → ((old now : List Drawing) → AreLater old now → quotas_of now ≡ quotas_of old) → (owns laters : List (List Drawing))
    → AllZip AreLater owns laters → All (λ own. quotas_of own ≡ quotas) owns
    → All (λ own. quotas_of own ≡ quotas) laters
later-quotas quotas law [] [] zip all = all
later-quotas quotas law [] (x ∷ laters) zip all = absurd zip
later-quotas quotas law (own ∷ owns) [] zip all = absurd zip
later-quotas quotas law (own ∷ owns) (x ∷ laters) zip all =
    All-cons (λ (y : List Drawing). quotas_of y ≡ quotas) x laters
    (law own x zip.0 ∙ All-head (λ (y : List Drawing). quotas_of y ≡ quotas) own owns all)
    (later-quotas quotas law owns laters zip.1 (All-tail (λ (y : List Drawing). quotas_of y ≡ quotas) own owns all))

-- ---- tickets

-- seats without draws hold no ticket
pub drawn-none : (seats : List Drawing) (tenant window : ℕ) → tenant < length seats
    → All (λ seat. seat.draws ≡ []) seats → tickets_of_tenant seats tenant window ≡ Some []
drawn-none [] tenant window less none = absurd (omega (arith, less))
drawn-none (seat ∷ seats) tenant window less none =
    ap (λ o. tickets_of_seat window o) (slice_get-get_or (seat ∷ seats) tenant seat less)
    ∙ ap (λ draws. Some (tickets_in window draws))
    (All-get_or (λ (d : Drawing). d.draws ≡ []) (seat ∷ seats) tenant seat less none)

-- the tickets of a window of a seat that has all shares are those from 0 on
told-once : (o : Option Drawing) (window : ℕ) (tickets : List ℕ) → ((d : Drawing) → o ≡ Some d → AreAllDrawn WINDOWS d.draws)
    → tickets_of_seat window o ≡ Some tickets → window < WINDOWS → length tickets < 2 ^ 64 → IsPermutationOfRange tickets
told-once None window tickets once told within few = absurd cc
told-once (Some d) window tickets once told within few =
    let same : tickets_in window d.draws ≡ tickets = cc in
    subst (λ ts. IsPermutationOfRange ts) same
    (once d refl window within (subst (λ ts. length ts < 2 ^ 64) (sym same) few))

pub drawn-once : (seats : List Drawing) (tenant window : ℕ) (tickets : List ℕ)
    → All (λ seat. seat.share ≡ all_shares → AreAllDrawn WINDOWS seat.draws) seats
    → All (λ seat. seat.share ≡ all_shares) seats → tickets_of_tenant seats tenant window ≡ Some tickets → window < WINDOWS
    → length tickets < 2 ^ 64 → IsPermutationOfRange tickets
drawn-once seats tenant window tickets once shares told within few =
    told-once (slice_get seats tenant) window tickets
    (λ d is.
    let less = slice_get_within seats tenant d is in
    let at = get_or_from_slice_get seats tenant d d is in
    subst (λ (x : Drawing). x.share ≡ all_shares → AreAllDrawn WINDOWS x.draws) at
    (All-get_or (λ (x : Drawing). x.share ≡ all_shares → AreAllDrawn WINDOWS x.draws) seats tenant d less once)
    (subst (λ (x : Drawing). x.share ≡ all_shares) at
    (All-get_or (λ (x : Drawing). x.share ≡ all_shares) seats tenant d less shares)))
    told within few

-- ---- tickets of several seats

-- tickets of several seats in a row are all of them, in some order
pub told-all : (told : List (List ℕ)) → IsPermutation (joined_tickets [] told) (flat_map (λ tickets. tickets) told)
told-all [] = IsPermutation-refl []
told-all (tickets ∷ told) =
    IsPermutation-trans (joined_tickets [] told ++ tickets) (tickets ++ joined_tickets [] told)
    (tickets ++ flat_map (λ ts. ts) told) (IsPermutation-append_comm (joined_tickets [] told) tickets)
    (IsPermutation-append_right tickets (joined_tickets [] told) (flat_map (λ ts. ts) told) (told-all told))

pub once-too : (a b : List ℕ) → IsPermutation a b → IsPermutationOfRange a → IsPermutationOfRange b
once-too a b moved once =
    let long = length_permutation a b moved in
    subst (λ n. IsPermutation (range_with_len 0 n) b) (sym long)
    (IsPermutation-trans _ a b once moved)

-- joined seats hold the tickets from 0 on, each once
pub once-told : (joined : List Drawing) (tenant window : ℕ) (told : List (List ℕ)) (tickets : List ℕ)
    → All (λ seat. seat.share ≡ all_shares → AreAllDrawn WINDOWS seat.draws) joined
    → All (λ seat. seat.share ≡ all_shares) joined → tickets_of_tenant joined tenant window ≡ Some (joined_tickets [] told)
    → tickets ≡ flat_map (λ ts. ts) told → window < WINDOWS → length tickets < 2 ^ 64 → IsPermutationOfRange tickets
once-told joined tenant window told tickets once shares drawn are within few =
    let moved : IsPermutation (joined_tickets [] told) tickets =
    subst (λ ts. IsPermutation (joined_tickets [] told) ts) (sym are) (told-all told) in
    once-too (joined_tickets [] told) tickets moved
    (drawn-once joined tenant window (joined_tickets [] told) once shares drawn within
    (subst (λ n. n < 2 ^ 64) (length_permutation (joined_tickets [] told) tickets moved) few))

-- ---- the outcomes of connections

-- the tickets of a tenant's window in the history of a reconciled connection
abbrev pub tickets_met : {L : Type 0} → ℕ → ℕ → ReconciledConnection L → List ℕ
tickets_met tenant window m = tickets_of_trace tenant window (conn_trace m.bound.submissions.conn)

module _ {C L : Type 0} (of_clock : ClockMembers C) (of_link : LinkMembers L) (plan : Plan) (clock : C) where
  abbrev pub Ran : Opening C L → ReconciledConnection L → Type 0
  Ran o m = HasServed of_clock of_link o m.bound m.seats m.link

  -- seats of connections with these openings have no draws
  pub record HasSeats (o : Opening C L) : Type 0 where
    pub tenants : length o.begun.seats ≡ length plan.declared.tenants
    pub not_drawn : All (λ seat. seat.draws ≡ []) o.begun.seats

  pub have-seats : (ends : List (OpenedEnd L)) (standings : List (StartState L)) (openings : List (Opening C L))
      → AreStartStates of_link plan clock ends standings openings → All HasSeats openings
  have-seats [] [] openings are = subst (λ os. All HasSeats os) (sym are) (All-nil HasSeats)
  have-seats [] (s ∷ standings) openings are = absurd are
  have-seats (e ∷ ends) [] openings are = absurd are
  have-seats (e ∷ ends) (Unbound conn link why ∷ standings) openings are =
      have-seats ends standings openings are.1
  have-seats (e ∷ ends) (Bound conn ∷ standings) openings are =
      subst (λ os. All HasSeats os) (sym are.2)
      (All-cons HasSeats are.0 are.1
      (record { tenants = are.3.bound.seats; not_drawn = are.3.bound.not_drawn })
      (have-seats ends standings are.1 are.4))

  -- each seat holds the tickets of its connection
  pub each-told : (tenant window : ℕ) → tenant < length plan.declared.tenants → window < WINDOWS
      → (openings : List (Opening C L)) (met : List (ReconciledConnection L)) → All HasSeats openings → AllZip Ran openings met
      → AllZip (λ own tickets. tickets_of_tenant own tenant window ≡ Some tickets) (map (λ m. m.seats) met)
      (map (tickets_met tenant window) met)
  each-told tenant window less within [] [] seats ran = tt
  each-told tenant window less within [] (m ∷ met) seats ran = absurd ran
  each-told tenant window less within (o ∷ openings) [] seats ran = absurd ran
  each-told tenant window less within (o ∷ openings) (m ∷ met) seats ran =
      let has = All-head HasSeats o openings seats in
      let known : tenant < length o.begun.seats = subst (λ n. tenant < n) (sym has.tenants) less in (
        ran.0.drawn tenant window [] known within (drawn-none o.begun.seats tenant window known has.not_drawn),
        each-told tenant window less within openings met (All-tail HasSeats o openings seats) ran.1,
      )

  pub later-seats : (openings : List (Opening C L)) (met : List (ReconciledConnection L)) → AllZip Ran openings met
      → AllZip AreLater (map (λ o. o.begun.seats) openings) (map (λ m. m.seats) met)
  later-seats [] [] ran = tt
  later-seats [] (m ∷ met) ran = absurd ran
  later-seats (o ∷ openings) [] ran = absurd ran
  later-seats (o ∷ openings) (m ∷ met) ran = (ran.0.same_seats, later-seats openings met ran.1)

  -- all reconciled connections are used
  pub none-over : (ends : List (OpenedEnd L)) (standings : List (StartState L)) (met : List (ReconciledConnection L))
      (openings : List (Opening C L)) → AreStartStates of_link plan clock ends standings openings
      → AllZip Ran openings met → unmatched_of standings met ≡ []
  none-over [] [] [] openings are ran = refl
  none-over [] [] (m ∷ met) openings are ran = absurd (subst (λ os. AllZip Ran os (m ∷ met)) are ran)
  none-over [] (s ∷ standings) met openings are ran = absurd are
  none-over (e ∷ ends) [] met openings are ran = absurd are
  none-over (e ∷ ends) (Unbound conn link why ∷ standings) met openings are ran =
      none-over ends standings met openings are.1 ran
  none-over (e ∷ ends) (Bound conn ∷ standings) [] openings are ran = refl
  none-over (e ∷ ends) (Bound conn ∷ standings) (m ∷ met) openings are ran =
      none-over ends standings met are.1 are.4 (subst (λ os. AllZip Ran os (m ∷ met)) are.2 ran).1

  -- so all seats are joined
  pub seats-of-all : (ends : List (OpenedEnd L)) (standings : List (StartState L)) (met : List (ReconciledConnection L))
      (openings : List (Opening C L)) (others : List (List Drawing))
      → AreStartStates of_link plan clock ends standings openings → AllZip Ran openings met
      → others ++ map (λ m. m.seats) (unmatched_of standings met) ≡ map (λ m. m.seats) met
      → others ≡ map (λ m. m.seats) met
  seats-of-all ends standings met openings others are ran same =
      sym (append-nil others)
      ∙ sym (ap (λ (ms : List (ReconciledConnection L)). others ++ map (λ m. m.seats) ms) (none-over ends standings met openings are ran))
      ∙ same

  -- the tickets of all connections are those of the reconciled connections
  pub tickets-of-all : (tenant window : ℕ) (ends : List (OpenedEnd L)) (standings : List (StartState L))
      (met : List (ReconciledConnection L)) (openings : List (Opening C L)) → AreStartStates of_link plan clock ends standings openings
      → AllZip Ran openings met
      → all_tickets tenant window (outcomes_of standings met)
      ≡ flat_map (λ tickets. tickets) (map (tickets_met tenant window) met)
  tickets-of-all tenant window [] [] [] openings are ran = refl
  tickets-of-all tenant window [] [] (m ∷ met) openings are ran =
      absurd (subst (λ os. AllZip Ran os (m ∷ met)) are ran)
  tickets-of-all tenant window [] (s ∷ standings) met openings are ran = absurd are
  tickets-of-all tenant window (e ∷ ends) [] met openings are ran = absurd are
  tickets-of-all tenant window (e ∷ ends) (Unbound conn link why ∷ standings) met openings are ran =
      tickets-of-all tenant window ends standings met openings are.1 ran
  tickets-of-all tenant window (e ∷ ends) (Bound conn ∷ standings) [] openings are ran =
      absurd (subst (λ os. AllZip Ran os []) are.2 ran)
  tickets-of-all tenant window (e ∷ ends) (Bound conn ∷ standings) (m ∷ met) openings are ran =
      ap (λ ts. tickets_met tenant window m ++ ts)
      (tickets-of-all tenant window ends standings met are.1 are.4
      (subst (λ os. AllZip Ran os (m ∷ met)) are.2 ran).1)

  -- each connection was served according to its state
  pub were-served : (ends : List (OpenedEnd L)) (standings : List (StartState L)) (met : List (ReconciledConnection L))
      (openings : List (Opening C L)) → AreStartStates of_link plan clock ends standings openings
      → AllZip Ran openings met → AllZip (WasServedAt of_clock of_link plan clock) ends (outcomes_of standings met)
  were-served [] [] met openings are ran = tt
  were-served [] (s ∷ standings) met openings are ran = absurd are
  were-served (e ∷ ends) [] met openings are ran = absurd are
  were-served (e ∷ ends) (Unbound conn link why ∷ standings) met openings are ran = (
    record {
      served = record {
        app = are.0.app;
        its_app = are.0.its_app;
        number = are.0.number;
        start = e.link;
        is_new = are.0.is_new;
        same_link = are.0.same_link;
        outcome = are.0.refused;
      };
      same_link = are.0.same_link;
    },
    were-served ends standings met openings are.1 ran,
  )
  were-served (e ∷ ends) (Bound conn ∷ standings) [] openings are ran =
      absurd (subst (λ os. AllZip Ran os []) are.2 ran)
  were-served (e ∷ ends) (Bound conn ∷ standings) (m ∷ met) openings are ran =
      let zip = (subst (λ os. AllZip Ran os (m ∷ met)) are.2 ran) in
      let begun = are.3 in
      let same : (first : L) → of_link.since first e.link → of_link.since first m.link = λ first since.
      zip.0.same_link first (begun.same_link first since) in (
        record {
          served = record {
            app = begun.app;
            its_app = begun.its_app;
            number = begun.number;
            start = e.link;
            is_new = begun.is_new;
            same_link = same;
            outcome = record { opening = are.0; seats = m.seats; bound = begun.bound; served = zip.0 };
          };
          same_link = same;
        },
        were-served ends standings met are.1 are.4 zip.1,
      )
