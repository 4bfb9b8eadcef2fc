-- Results by cases, and facts that are preserved.
use Rattle.std.proofs.Common.{◌≡◌, ℕ, ◌≤◌, inl, inr, Bool, true, false, List, [], ◌++◌, Option, Some, None, Result}
use Rattle.std.proofs.Common.{Ok, Err, OnOk, refl, sym, ap, ◌∙◌, arith, append_assoc, append-nil, ◌+◌, length, take}
use Rattle.std.proofs.Common.{drop, length-append, length-take}
use Rattle.std.specs.Io.KnownBytes.{Appends}
use Rattle.std.proofs.lemmas.List.Elements.{All-weaker}
use Rattle.mrpc_base.specs.Failures.{HasCause, HasRisen}
use Rattle.engine_core.specs.Policies.{KnowsTenantOf}
use Rattle.engine_core.specs.declared.op.Op.{Op}
use Rattle.engine_core.specs.declared.op.Op.TheVariants.{Attach, Detach, Upgrade}
use Rattle.engine_core.specs.declared.policy.Policy.{Policy}
use Rattle.engine_core.specs.declared.policy.Policy.TheVariants.{Access, Count, Quota, Rate, Redact}
use Rattle.conn_core.specs.Connections.{Connection, IsSameConnection, conn_trace}
use Rattle.conn_core.specs.ConnectionSteps.{HasDrawnInWindow, HasDrawnTickets, HasHandedOver, IfPolicy}
use Rattle.call_history.specs.Tickets.{tickets_of_trace}
use Rattle.service_loop.specs.Serving.{AreSameSubmissions}
use Rattle.service_loop.specs.ScheduledOps.{KnowTenants}
use Rattle.service_loop.specs.declared.scheduled_op.ScheduledOp.{ScheduledOp}
use Rattle.service_loop.specs.declared.submissions.Submissions.{Submissions}

-- ---- results

-- what follows from a result without an error
pub ok-then : {A E P Q : Type 0} (r : Result A E) → OnOk r P → (P → Q) → OnOk r Q
ok-then (Ok x) h then = then h
ok-then (Err e) h then = tt

pub untrue : (b : Bool) → (b ≡ true → ⊥) → b ≡ false
untrue true h = absurd (h refl)
untrue false h = refl

-- a buffer that was lent as a whole has its length again
pub lent-back : (n : ℕ) (new lent items : List ℕ) → length new ≡ length lent → lent ≡ items → length items ≡ n
    → length (take n (new ++ drop (length new) items)) ≡ length items
lent-back n new lent items same whole many =
    let long : length lent ≡ length items = ap (λ (xs : List ℕ). length xs) whole in
    let all : length (new ++ drop (length new) items) ≡ length new + length (drop (length new) items) =
    length-append new (drop (length new) items) in
    simp length-take (omega (arith, long, all, same, many))

-- ---- bytes that arrive piece by piece

pub appends-then : (a b c : Option (List ℕ)) (p q : List ℕ) → Appends a b p → Appends b c q → Appends a c (p ++ q)
appends-then None b c p q first second = tt
appends-then (Some xs) None c p q first second = absurd first
appends-then (Some xs) (Some ys) None p q first second = absurd second
appends-then (Some xs) (Some ys) (Some zs) p q first second =
    second ∙ ap (λ ws. ws ++ q) first ∙ append_assoc xs p q

-- ---- frames, tickets and failures, step by step

pub hands-then : (a b c : Connection) (x y z : List (List ℕ)) → HasHandedOver a b x y → HasHandedOver b c y z → HasHandedOver a c x z
hands-then a b c x y z first second = (
  first.0 ++ second.0,
  second.1 ∙ ap (λ fs. fs ++ second.0) first.1 ∙ append_assoc _ first.0 second.0,
  second.2 ∙ ap (λ fs. fs ++ second.0) first.2 ∙ append_assoc x first.0 second.0,
)

draws-one : (t w : ℕ) (a b c : Connection) (x y z : Option (List ℕ)) → HasDrawnInWindow t w a b x y → HasDrawnInWindow t w b c y z
    → HasDrawnInWindow t w a c x z
draws-one t w a b c x y None first second = tt
draws-one t w a b c x None (Some n) first second = absurd second
draws-one t w a b c None (Some m) (Some n) first second = absurd first
draws-one t w a b c (Some e) (Some m) (Some n) first second = (
  first.0 ++ second.0,
  second.1 ∙ ap (λ ts. ts ++ second.0) first.1 ∙ append_assoc (tickets_of_trace t w (conn_trace a)) first.0 second.0,
  second.2 ∙ ap (λ ts. ts ++ second.0) first.2 ∙ append_assoc e first.0 second.0,
)

draws-none : (t w : ℕ) (a b : Connection) (x : Option (List ℕ))
    → tickets_of_trace t w (conn_trace b) ≡ tickets_of_trace t w (conn_trace a) → HasDrawnInWindow t w a b x x
draws-none t w a b None same = tt
draws-none t w a b (Some e) same =
    ([], same ∙ sym (append-nil (tickets_of_trace t w (conn_trace a))), sym (append-nil e))

module _ {Q : Type 0} (Knows : Q → ℕ → Type 0) (drawn_of : Q → ℕ → ℕ → Option (List ℕ)) (Since : Q → Q → Type 0) where
  pub draw-then : (a b c : Connection) (x y z : Q) → HasDrawnTickets Knows drawn_of Since a b x y
      → HasDrawnTickets Knows drawn_of Since b c y z → HasDrawnTickets Knows drawn_of Since a c x z
  draw-then a b c x y z first second = record {
    drawn = λ t w known within. draws-one t w a b c (drawn_of x t w) (drawn_of y t w) (drawn_of z t w)
        (first.drawn t w known within) (second.drawn t w (first.knows t known) within);
    knows = λ t known. second.knows t (first.knows t known);
    since = λ one is. second.since one (first.since one is);
  }

  -- nothing was drawn
  pub draw-none : (a b : Connection) (x : Q)
      → ((t w : ℕ) → tickets_of_trace t w (conn_trace b) ≡ tickets_of_trace t w (conn_trace a))
      → HasDrawnTickets Knows drawn_of Since a b x x
  draw-none a b x same = record {
    drawn = λ t w known within. draws-none t w a b (drawn_of x t w) (same t w);
    knows = λ t known. known;
    since = λ one is. is;
  }

-- whether it ended, from a to b
abbrev pub EndsIn : Bool → Bool → Type 0
EndsIn a b = (a ≡ false) × (b ≡ true)

rose-then : (x y z : ℕ) → HasRisen x y → y ≤ z → HasRisen x z
rose-then x y z (inl less) most = inl (omega (arith, less, most))
rose-then x y z (inr last) most = inr (omega (arith, last, most))

rose-before : (x y z : ℕ) → x ≤ y → HasRisen y z → HasRisen x z
rose-before x y z most (inl less) = inl (omega (arith, less, most))
rose-before x y z most (inr last) = inr last

pub cause-then : (a b c : Bool) (x y z : ℕ) → (a ≡ true → b ≡ true) → (b ≡ true → c ≡ true) → HasCause (EndsIn a b) x y
    → HasCause (EndsIn b c) y z → HasCause (EndsIn a c) x z
cause-then a true c x y z kept stays first second = record {
  rose = λ ends. rose-then x y z (first.rose (ends.0, refl)) second.never_falls;
  stays = λ none. second.stays (λ ends. absurd (let wrong : true ≡ false = ends.0 in cc))
      ∙ first.stays (λ ends. none (ends.0, stays refl));
  never_falls = let one = first.never_falls in let two = second.never_falls in omega (arith, one, two);
}
cause-then true false c x y z kept stays first second =
    absurd (let wrong : false ≡ true = kept refl in cc)
cause-then false false c x y z kept stays first second = record {
  rose = λ ends. rose-before x y z first.never_falls (second.rose (refl, ends.1));
  stays = λ none. second.stays (λ ends. none (refl, ends.1))
      ∙ first.stays (λ ends. absurd (let wrong : false ≡ true = ends.1 in cc));
  never_falls = let one = first.never_falls in let two = second.never_falls in omega (arith, one, two);
}

-- ---- tenants that are known

knows-of : (K M : ℕ → Type 0) → ((t : ℕ) → K t → M t) → (p : Policy) → KnowsTenantOf K p → KnowsTenantOf M p
knows-of K M later (Access a) known = tt
knows-of K M later (Rate r) known = tt
knows-of K M later (Quota tenant per cap) known = later tenant known
knows-of K M later Count known = tt
knows-of K M later (Redact r) known = tt

knows-in : (K M : ℕ → Type 0) → ((t : ℕ) → K t → M t) → (step : Op) → IfPolicy step (KnowsTenantOf K)
    → IfPolicy step (KnowsTenantOf M)
knows-in K M later (Attach at name label policy) known = knows-of K M later policy known
knows-in K M later (Detach name) known = tt
knows-in K M later (Upgrade name label policy) known = knows-of K M later policy known

pub known-later : (K M : ℕ → Type 0) → ((t : ℕ) → K t → M t) → (steps : List ScheduledOp) → KnowTenants K steps
    → KnowTenants M steps
known-later K M later steps known =
    All-weaker (λ (due : ScheduledOp). IfPolicy due.step (KnowsTenantOf K))
    (λ (due : ScheduledOp). IfPolicy due.step (KnowsTenantOf M))
    (λ due. knows-in K M later due.step) steps known

-- ---- constants

pub same-conn : (a b c : Connection) → IsSameConnection a b → IsSameConnection b c → IsSameConnection a c
same-conn a b c ab bc = record { conn = bc.conn ∙ ab.conn; table = bc.table ∙ ab.table; limit = bc.limit ∙ ab.limit }

pub same-calls : (s : Submissions) → AreSameSubmissions s s
same-calls s = record {
  conn = record { conn = refl; table = refl; limit = refl };
  heap = refl;
  ring = refl;
  ring_heap = refl;
  steps = refl;
}

pub calls-then : (a b c : Submissions) → AreSameSubmissions a b → AreSameSubmissions b c → AreSameSubmissions a c
calls-then a b c ab bc = record {
  conn = same-conn a.conn b.conn c.conn ab.conn bc.conn;
  heap = bc.heap ∙ ab.heap;
  ring = bc.ring ∙ ab.ring;
  ring_heap = bc.ring_heap ∙ ab.ring_heap;
  steps = bc.steps ∙ ab.steps;
}
