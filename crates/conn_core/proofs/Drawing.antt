-- The tickets that a turn draws.
use Rattle.std.proofs.Common.{◌≡◌, ℕ, ◌<◌, false, ◌&&◌, ◌==◌, cond, inl, inr, List, [], ◌∷◌, ◌++◌, refl, ap, reverse, sym, ◌∙◌, subst}
use Rattle.std.specs.Prelude.{IfSome, IsSomeAnd, Option, Some, None}
use Rattle.std.specs.Option.{option_map_or}
use Rattle.std.proofs.lemmas.Bool.{eq-eqb, ne_eqb, and_from, and_left, and_right, cases_eq}
use Rattle.std.proofs.lemmas.List.{append-nil}
use Rattle.mrpc_base.specs.declared.tickets.TheConstants.{WINDOWS}
use Rattle.engine_core.specs.Chains.{Entry}
use Rattle.engine_core.specs.Turns.{noted_in}
use Rattle.engine_core.specs.Working.{AreTicketsAfterTurn}
use Rattle.engine_core.specs.declared.outcome.Noted.{Noted}
use Rattle.engine_core.specs.declared.outcome.Noted.TheVariants as notes
use Rattle.engine_core.specs.declared.outcome.Outcome.{Outcome}
use Rattle.engine_core.specs.declared.outcome.Outcome.TheVariants.{Passed, Held, Refused, Redacted}
use Rattle.engine_core.specs.declared.policy.Policy.{Policy}
use Rattle.engine_core.specs.declared.policy.Policy.TheVariants.{Access, Rate, Quota, Count, Redact}
use Rattle.call_history.specs.Trace.{Trace, policy_in_trace}
use Rattle.call_history.specs.Transitions.{ConnState, with_note, trace_after_turn}
use Rattle.call_history.specs.Tickets.{is_quota_of, tickets_of_trace}
use Rattle.call_history.specs.declared.happening.Happening.{Happening}
use Rattle.conn_core.specs.Connections.{Connection, conn_trace}
use Rattle.conn_core.specs.ConnectionSteps.{HasDrawnInWindow, HasDrawnTickets}

-- the tickets that a note draws
told : ℕ → ℕ → Policy → Noted → List ℕ
told tenant window policy (notes.Drawn at ticket) = cond ((at == window) && is_quota_of tenant policy) (ticket ∷ []) []
told tenant window policy notes.Nothing = []
told tenant window policy (notes.Charged left) = []
told tenant window policy notes.Counted = []

noted-tickets : (tenant window : ℕ) (name : List ℕ) (seq : ℕ) (policy : Policy) (n : Noted) (past : Trace)
    → policy_in_trace name past ≡ Some policy
    → tickets_of_trace tenant window (with_note name seq n past) ≡ tickets_of_trace tenant window past
    ++ told tenant window policy n
unfolding told
noted-tickets tenant window name seq policy notes.Nothing past is = sym (append-nil (tickets_of_trace tenant window past))
noted-tickets tenant window name seq policy (notes.Charged left) past is = refl
noted-tickets tenant window name seq policy (notes.Drawn at ticket) past is =
    ap (λ p. tickets_of_trace tenant window past ++ cond ((at == window) && option_map_or (is_quota_of tenant) p false)
    (ticket ∷ []) []) is
noted-tickets tenant window name seq policy notes.Counted past is = refl

turned-tickets : (tenant window : ℕ) (e : Entry) (seq : ℕ) (outcome : Outcome) (c : ConnState)
    → policy_in_trace e.name c.past ≡ Some e.policy
    → tickets_of_trace tenant window (trace_after_turn e seq outcome c).past ≡ tickets_of_trace tenant window c.past
    ++ told tenant window e.policy (noted_in outcome)
unfolding told
turned-tickets tenant window e seq (Passed n) c is = noted-tickets tenant window e.name seq e.policy n c.past is
turned-tickets tenant window e seq (Held left cost) c is = sym (append-nil (tickets_of_trace tenant window c.past))
turned-tickets tenant window e seq (Refused n why) c is =
    append-nil (tickets_of_trace tenant window (with_note e.name seq n c.past)) ∙ noted-tickets tenant window e.name seq
    e.policy n c.past is
turned-tickets tenant window e seq Redacted c is = refl

-- ---- the lists of tickets that are known

-- the earlier tickets followed by these, if both lists are known
abbrev Adds : List ℕ → Option (List ℕ) → Option (List ℕ) → Type 0
Adds more drawn drawn' = IfSome drawn' (λ now. IsSomeAnd drawn (λ earlier. now ≡ earlier ++ more))

adds-none : (drawn drawn' : Option (List ℕ)) → drawn' ≡ drawn → Adds [] drawn drawn'
adds-none None None same = tt
adds-none (Some now) None same = tt
adds-none None (Some now) same = absurd cc
adds-none (Some earlier) (Some now) same = let is : now ≡ earlier = cc in is ∙ sym (append-nil earlier)

draws-by : (tenant window : ℕ) (before after : Connection) (more : List ℕ) (drawn drawn' : Option (List ℕ))
    → tickets_of_trace tenant window (conn_trace after) ≡ tickets_of_trace tenant window (conn_trace before) ++ more
    → Adds more drawn drawn' → HasDrawnInWindow tenant window before after drawn drawn'
draws-by tenant window before after more drawn None tickets adds = tt
draws-by tenant window before after more None (Some now) tickets adds = adds
draws-by tenant window before after more (Some earlier) (Some now) tickets adds = (more, tickets, adds)

-- without an event, nothing was drawn
pub draws-unnoted : {Q : Type 0} (Knows : Q → ℕ → Type 0) (drawn_of : Q → ℕ → ℕ → Option (List ℕ)) (Since : Q → Q
    → Type 0) (a b : Connection) (x : Q) → b.happenings ≡ a.happenings → HasDrawnTickets Knows drawn_of Since a b x x
draws-unnoted Knows drawn_of Since a b x same = record {
  drawn = λ tenant window known within.
      draws-by tenant window a b [] (drawn_of x tenant window) (drawn_of x tenant window)
      (ap (λ (hs : List Happening). tickets_of_trace tenant window (reverse hs)) same
      ∙ sym (append-nil (tickets_of_trace tenant window (conn_trace a))))
      (adds-none (drawn_of x tenant window) (drawn_of x tenant window) refl);
  knows = λ tenant known. known;
  since = λ first h. h;
}

-- the draw of a turn, for one tenant and window
adds-told : {Q : Type 0} (Knows : Q → ℕ → Type 0) (drawn_of : Q → ℕ → ℕ → Option (List ℕ)) (Since : Q → Q
    → Type 0) (policy : Policy) (n : Noted) (old new : Q)
    → AreTicketsAfterTurn Knows drawn_of Since policy n old new → (tenant window : ℕ) → Knows old tenant → window < WINDOWS
    → Adds (told tenant window policy n) (drawn_of old tenant window) (drawn_of new tenant window)
unfolding told
adds-told Knows drawn_of Since policy notes.Nothing old new leaves tenant window known within =
    adds-none _ _ (ap (λ q. drawn_of q tenant window) (leaves.undrawn refl))
adds-told Knows drawn_of Since policy (notes.Charged left) old new leaves tenant window known within =
    adds-none _ _ (ap (λ q. drawn_of q tenant window) (leaves.undrawn refl))
adds-told Knows drawn_of Since policy notes.Counted old new leaves tenant window known within =
    adds-none _ _ (ap (λ q. drawn_of q tenant window) (leaves.undrawn refl))
adds-told Knows drawn_of Since (Access p) (notes.Drawn at ticket) old new leaves tenant window known within =
    subst (λ b. Adds (cond b (ticket ∷ []) []) (drawn_of old tenant window) (drawn_of new tenant window))
    (sym (and_right (at == window) false refl))
    (adds-none _ _ (leaves.elsewhere tenant window known within tt))
adds-told Knows drawn_of Since (Rate r) (notes.Drawn at ticket) old new leaves tenant window known within =
    subst (λ b. Adds (cond b (ticket ∷ []) []) (drawn_of old tenant window) (drawn_of new tenant window))
    (sym (and_right (at == window) false refl))
    (adds-none _ _ (leaves.elsewhere tenant window known within tt))
adds-told Knows drawn_of Since Count (notes.Drawn at ticket) old new leaves tenant window known within =
    subst (λ b. Adds (cond b (ticket ∷ []) []) (drawn_of old tenant window) (drawn_of new tenant window))
    (sym (and_right (at == window) false refl))
    (adds-none _ _ (leaves.elsewhere tenant window known within tt))
adds-told Knows drawn_of Since (Redact r) (notes.Drawn at ticket) old new leaves tenant window known within =
    subst (λ b. Adds (cond b (ticket ∷ []) []) (drawn_of old tenant window) (drawn_of new tenant window))
    (sym (and_right (at == window) false refl))
    (adds-none _ _ (leaves.elsewhere tenant window known within tt))
adds-told Knows drawn_of Since (Quota owner per cap) (notes.Drawn at ticket) old new leaves tenant window known within =
    elim (cases_eq at window) [
      | inr other ↦
          subst (λ b. Adds (cond b (ticket ∷ []) []) (drawn_of old tenant window) (drawn_of new tenant window))
          (sym (and_left (at == window) (owner == tenant) (ne_eqb at window other)))
          (adds-none _ _ (leaves.elsewhere tenant window known within (inr (λ same. other (sym same)))))
      | inl same ↦ elim (cases_eq owner tenant) [
        | inr other ↦
            subst (λ b. Adds (cond b (ticket ∷ []) []) (drawn_of old tenant window) (drawn_of new tenant window))
            (sym (and_right (at == window) (owner == tenant) (ne_eqb owner tenant other)))
            (adds-none _ _ (leaves.elsewhere tenant window known within (inl (λ same. other (sym same)))))
        | inl own ↦
            subst (λ b. Adds (cond b (ticket ∷ []) []) (drawn_of old tenant window) (drawn_of new tenant window))
            (sym (and_from (at == window) (owner == tenant) (eq-eqb at window same) (eq-eqb owner tenant own)))
            (subst (λ (w : ℕ). Adds (ticket ∷ []) (drawn_of old tenant w) (drawn_of new tenant w)) same
            (subst (λ (t : ℕ). Adds (ticket ∷ []) (drawn_of old t at) (drawn_of new t at)) own leaves.drawn))
      ]
    ]

pub draws-turned : {Q : Type 0} (Knows : Q → ℕ → Type 0) (drawn_of : Q → ℕ → ℕ → Option (List ℕ)) (Since : Q → Q
    → Type 0) (e : Entry) (seq : ℕ) (outcome : Outcome) (c : ConnState)
    (before after : Connection) (old new : Q) → conn_trace before ≡ c.past → conn_trace after ≡ (trace_after_turn e seq outcome c).past
    → policy_in_trace e.name c.past ≡ Some e.policy
    → AreTicketsAfterTurn Knows drawn_of Since e.policy (noted_in outcome) old new
    → HasDrawnTickets Knows drawn_of Since before after old new
draws-turned Knows drawn_of Since e seq outcome c before after old new before-is after-is policy leaves = record {
  drawn = λ tenant window known within.
      draws-by tenant window before after (told tenant window e.policy (noted_in outcome)) (drawn_of old tenant window)
      (drawn_of new tenant window)
      (ap (tickets_of_trace tenant window) after-is ∙ turned-tickets tenant window e seq outcome c policy
      ∙ ap (λ (p : Trace). tickets_of_trace tenant window p ++ told tenant window e.policy (noted_in outcome))
      (sym before-is))
      (adds-told Knows drawn_of Since e.policy (noted_in outcome) old new leaves tenant window known within);
  knows = leaves.knows;
  since = leaves.since;
}

-- if nothing changes, nothing is drawn
pub draws-none : {Q : Type 0} (Knows : Q → ℕ → Type 0) (drawn_of : Q → ℕ → ℕ → Option (List ℕ)) (Since : Q → Q
    → Type 0) (before after : Connection) (old new : Q)
    → after ≡ before → new ≡ old → HasDrawnTickets Knows drawn_of Since before after old new
draws-none Knows drawn_of Since before after old new same same-tickets = record {
  drawn = λ tenant window known within. draws-by tenant window before after [] (drawn_of old tenant window)
      (drawn_of new tenant window)
      (ap (λ (c : Connection). tickets_of_trace tenant window (conn_trace c)) same ∙ sym
      (append-nil (tickets_of_trace tenant window (conn_trace before))))
      (adds-none _ _ (ap (λ q. drawn_of q tenant window) same-tickets));
  knows = λ tenant known. subst (λ q. Knows q tenant) (sym same-tickets) known;
  since = λ first h. subst (Since first) (sym same-tickets) h;
}
