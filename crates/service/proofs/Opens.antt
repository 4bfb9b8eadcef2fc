-- Links that are opened pair by pair.
use Rattle.std.proofs.Common.{◌≡◌, ℕ, List, [], ◌∷◌, ◌++◌, refl, sym, ap, subst, ◌∙◌, arith}
use Rattle.std.proofs.lemmas.List.{map-append}
use Rattle.std.specs.Global.{Vec}
use Rattle.std.specs.List.{AllZip}
use Rattle.mrpc_base.specs.Failures.{HasCause}
use Rattle.mrpc_base.specs.declared.link.Link.{Ghosts as LinkMembers}
use Rattle.run_plan.specs.declared.plan.Plan.{Plan}
use Rattle.service_loop.specs.declared.scheduled_op.ScheduledOp.{ScheduledOp}
use Rattle.service.specs.Ends.{OpenedEnd, conns_of_ends}
use Rattle.service.specs.Handshakes.{IsHandshakeEnd, AreHandshakeEnds}
use Rattle.service.specs.PreparedRun.{HasScheduledOps}
use Rattle.service.specs.Starting.{HaveScheduledOpsAt}
use Rattle.service.proofs.TwoByTwo.{pairs-push}
use Rattle.service.proofs.Zips.{zip-map, zip-two}
use Rattle.service.specs.declared.handshake.HandshakeEnd.{HandshakeEnd}

module _ {L : Type 0} (of_link : LinkMembers L) (plan : Plan) (pair : L → L → Type 0) where
  -- no end yet
  pub none-greeted : (greeted : List (HandshakeEnd L)) → greeted ≡ [] → AreHandshakeEnds of_link plan pair [] greeted
  none-greeted greeted none = record {
    ends = [];
    are = refl;
    pairs = tt;
    each = subst (λ xs. AllZip (IsHandshakeEnd of_link plan) [] xs) (sym none) tt;
  }

  -- the two ends of one more link
  pub were-more : (conns conns' : List ℕ) (greeted greeted' : List (HandshakeEnd L)) (one other : OpenedEnd L)
      (first second : HandshakeEnd L) → AreHandshakeEnds of_link plan pair conns greeted → IsHandshakeEnd of_link plan one first
      → IsHandshakeEnd of_link plan other second → pair one.link other.link
      → conns' ≡ conns ++ one.conn ∷ other.conn ∷ [] → greeted' ≡ greeted ++ first ∷ second ∷ []
      → AreHandshakeEnds of_link plan pair conns' greeted'
  were-more conns conns' greeted greeted' one other first second h a b are more more' = record {
    ends = h.ends ++ one ∷ other ∷ [];
    are = map-append (λ (e : OpenedEnd L). e.conn) h.ends (one ∷ other ∷ [])
        ∙ ap (λ cs. cs ++ one.conn ∷ other.conn ∷ []) h.are ∙ sym more;
    pairs = pairs-push (λ (e : OpenedEnd L). e.link) pair h.ends one other h.pairs are;
    each = subst (λ xs. AllZip (IsHandshakeEnd of_link plan) (h.ends ++ one ∷ other ∷ []) xs) (sym more')
        (zip-two (IsHandshakeEnd of_link plan) h.ends greeted one other first second h.each a b);
  }

-- the prepared operations are those for the connections of the ends
pub steps-of-ends : {L : Type 0} (plan : Plan) (conns : List ℕ) (ends : List (OpenedEnd L)) (steps steps' : List (Vec ScheduledOp))
    → conns_of_ends ends ≡ conns → steps' ≡ steps → AllZip (λ conn due. HasScheduledOps plan conn due.items) conns steps
    → HaveScheduledOpsAt plan ends steps'
steps-of-ends plan conns ends steps steps' are same zip =
    zip-map (λ (e : OpenedEnd _). e.conn) (λ (conn : ℕ) (due : Vec ScheduledOp). HasScheduledOps plan conn due.items) ends steps'
    (subst (λ ns. AllZip (λ (conn : ℕ) (due : Vec ScheduledOp). HasScheduledOps plan conn due.items) ns steps') (sym are)
    (subst (λ all. AllZip (λ (conn : ℕ) (due : Vec ScheduledOp). HasScheduledOps plan conn due.items) conns all) (sym same) zip))

-- what didn't occur has its cause if the count stays
pub cause-none : (P : Type 0) (before now : ℕ) → (P → ⊥) → now ≡ before → HasCause P before now
cause-none P before now never same =
    record { rose = λ is. absurd (never is); stays = λ _. same; never_falls = omega (arith, same) }
