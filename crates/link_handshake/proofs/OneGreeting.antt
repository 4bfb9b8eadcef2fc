-- A stream binds a connection or leaves it unbound, in at most one way.
use Rattle.std.proofs.Common.{◌≡◌, ◌≢◌, ℕ, List, [], ◌∷◌, Option, Some, None, refl, sym, ap, subst, ◌∙◌}
use Rattle.mrpc_table.specs.declared.table.Table.{Table}
use Rattle.frame_transport.specs.Frames.{HasFaultSoFar, IsFaultUnique, IsSplitUnique}
use Rattle.frame_transport.specs.declared.format.Frame.{Frame}
use Rattle.frame_transport.specs.declared.format.TheConstants.{HELLO}
use Rattle.frame_transport.specs.declared.fault.FeedFault.{FeedFault}
use Rattle.receive_core.specs.ReceiverTraces.{HasFrames}
use Rattle.schema_binding.specs.Agreement.{AreInAgreement, IsAgreementExclusive, IsDisagreementUnique, IsDisagreement}
use Rattle.schema_binding.specs.Hello.{IsFirstFaultyLine, IsFaultyLineUnique, IsHello, IsHelloExclusive, IsHelloUnique}
use Rattle.schema_binding.specs.declared.fault.AgreeFault.{AgreeFault}
use Rattle.message_delivery.specs.declared.arrivals.StreamState.{StreamState}
use Rattle.message_delivery.specs.declared.arrivals.StreamState.TheVariants.{Failed as HasFailed}
use Rattle.link_handshake.specs.Handshake.{HasFirstFrame, IsBound, IsUnbound, bad_hello, cut, disagrees, ended, failed, other_frame}
use Rattle.link_handshake.specs.declared.unbound.Unbound.{Unbound}
use Rattle.link_handshake.specs.declared.unbound.Unbound.TheVariants.{Ended, Cut, Hello, Disagrees}

-- the result of a hello for a connection, which is unique
pub data Tells (T : Table) (service : List ℕ) (f : Frame) (why : Option Unbound) : Type 0 where
  no_hello : f.kind ≢ HELLO → why ≡ Some (Hello 0) → Tells T service f why
  no_table : (line : ℕ) → f.kind ≡ HELLO → IsFirstFaultyLine f.payload line → why ≡ Some (Hello line) → Tells T service f why
  refuses : (said : List ℕ) (theirs : Table) (cause : AgreeFault) → f.kind ≡ HELLO → IsHello f.payload said theirs
      → IsDisagreement T theirs service f.version cause → why ≡ Some (Disagrees cause) → Tells T service f why
  agrees : (said : List ℕ) (theirs : Table) → f.kind ≡ HELLO → IsHello f.payload said theirs
      → AreInAgreement T theirs service f.version → why ≡ None → Tells T service f why

-- what comes before any whole frame
pub data Lacks (stream : List ℕ) (why : Unbound) : Type 0 where
  ends : HasFrames 0 stream [] None → why ≡ Ended → Lacks stream why
  cuts : (first : FeedFault) → HasFrames 0 stream [] (Some first) → why ≡ Cut first → Lacks stream why

-- a stream that hasn't failed has a first frame with a result, or none
pub data Shows (T : Table) (service stream : List ℕ) (fault : Option FeedFault) (why : Option Unbound) : Type 0 where
  by_frame : (f : Frame) → HasFirstFrame stream fault f → Tells T service f why → Shows T service stream fault why
  by_none : (cause : Unbound) → Lacks stream cause → why ≡ Some cause → Shows T service stream fault why

shows : (T : Table) (service stream : List ℕ) (fault : Option FeedFault) (state : StreamState) (why : Unbound)
    → state ≢ HasFailed → IsUnbound T service stream fault state why → Shows T service stream fault (Some why)
shows T service stream fault state why working (failed is because) = absurd (working is)
shows T service stream fault state why working (ended is reads because) = by_none why (ends reads because) refl
shows T service stream fault state why working (cut first reads because) = by_none why (cuts first reads because) refl
shows T service stream fault state why working (other_frame f begins other because) =
    by_frame f begins (no_hello other (ap Some because))
shows T service stream fault state why working (bad_hello f line begins kind bad because) =
    by_frame f begins (no_table line kind bad (ap Some because))
shows T service stream fault state why working (disagrees f theirs cause greeted refused because) =
    by_frame f greeted.first (refuses greeted.service theirs cause greeted.kind greeted.says refused (ap Some because))

shows-bound : (T : Table) (service stream : List ℕ) (fault : Option FeedFault) (hello : Frame)
    → IsBound T service stream fault hello → Shows T service stream fault None
shows-bound T service stream fault hello b =
    by_frame hello b.greeted.first (agrees b.greeted.service b.theirs b.greeted.kind b.greeted.says b.agree refl)

-- one frame has one result
tells-once : IsHelloUnique → IsFaultyLineUnique → IsHelloExclusive → IsAgreementExclusive → IsDisagreementUnique → (T : Table) (service : List ℕ)
    (f : Frame) (why other : Option Unbound) → Tells T service f why → Tells T service f other → why ≡ other
tells-once says bad both agree refuse T service f why other (no_hello a b) (no_hello d e) = b ∙ sym e
tells-once says bad both agree refuse T service f why other (no_hello a b) (no_table line d e g) = absurd (a d)
tells-once says bad both agree refuse T service f why other (no_hello a b) (refuses s t cause d e g h) = absurd (a d)
tells-once says bad both agree refuse T service f why other (no_hello a b) (agrees s t d e g h) = absurd (a d)
tells-once says bad both agree refuse T service f why other (no_table line a b d) (no_hello e g) = absurd (e a)
tells-once says bad both agree refuse T service f why other (no_table line a b d) (no_table more e g h) =
    d ∙ ap (λ n. Some (Hello n)) (bad f.payload line more b g) ∙ sym h
tells-once says bad both agree refuse T service f why other (no_table line a b d) (refuses s t cause e g h i) =
    absurd (both f.payload s t line g b)
tells-once says bad both agree refuse T service f why other (no_table line a b d) (agrees s t e g h i) =
    absurd (both f.payload s t line g b)
tells-once says bad both agree refuse T service f why other (refuses s t cause a b d e) (no_hello g h) = absurd (g a)
tells-once says bad both agree refuse T service f why other (refuses s t cause a b d e) (no_table line g h i) =
    absurd (both f.payload s t line b h)
tells-once says bad both agree refuse T service f why other (refuses s t cause a b d e) (refuses s' t' cause' a' b' d' e') =
    let same : t' ≡ t = (says f.payload s' s t' t b' b).1 in
    let d'' : IsDisagreement T t service f.version cause' =
    subst (λ (u : Table). IsDisagreement T u service f.version cause') same d' in
    e ∙ ap (λ x. Some (Disagrees x)) (refuse T t service f.version cause cause' d d'') ∙ sym e'
tells-once says bad both agree refuse T service f why other (refuses s t cause a b d e) (agrees s' t' a' b' d' e') =
    let same : t' ≡ t = (says f.payload s' s t' t b' b).1 in
    let d'' : AreInAgreement T t service f.version = subst (λ (u : Table). AreInAgreement T u service f.version) same d' in
    absurd (agree T t service f.version cause d'' d)
tells-once says bad both agree refuse T service f why other (agrees s t a b d e) (no_hello g h) = absurd (g a)
tells-once says bad both agree refuse T service f why other (agrees s t a b d e) (no_table line g h i) =
    absurd (both f.payload s t line b h)
tells-once says bad both agree refuse T service f why other (agrees s t a b d e) (refuses s' t' cause a' b' d' e') =
    let same : t' ≡ t = (says f.payload s' s t' t b' b).1 in
    let d'' : IsDisagreement T t service f.version cause =
    subst (λ (u : Table). IsDisagreement T u service f.version cause) same d' in
    absurd (agree T t service f.version cause d d'')
tells-once says bad both agree refuse T service f why other (agrees s t a b d e) (agrees s' t' a' b' d' e') = e ∙ sym e'

-- the remainder of a stream that reads so
end-of : (stream : List ℕ) (frames : List Frame) (fault : Option FeedFault) → HasFrames 0 stream frames fault
    → HasFaultSoFar 0 stream fault
end-of stream frames fault r = record { frames = frames; rest = r.rest; splits = r.splits; first = r.first }

lacks-once : IsFaultUnique → (stream : List ℕ) (why other : Unbound) → Lacks stream why → Lacks stream other → why ≡ other
lacks-once once stream why other (ends a b) (ends d e) = b ∙ sym e
lacks-once once stream why other (ends a b) (cuts first d e) =
    let no : None ≡ Some first = once 0 stream None (Some first) (end-of stream [] None a) (end-of stream [] (Some first) d)
    in absurd cc
lacks-once once stream why other (cuts first a b) (ends d e) =
    let no : None ≡ Some first = once 0 stream None (Some first) (end-of stream [] None d) (end-of stream [] (Some first) a)
    in absurd cc
lacks-once once stream why other (cuts first a b) (cuts second d e) =
    let same : Some first ≡ Some second =
    once 0 stream (Some first) (Some second) (end-of stream [] (Some first) a) (end-of stream [] (Some second) d) in
    let is : first ≡ second = cc in b ∙ ap Cut is ∙ sym e

-- a stream has at most one first frame
first-once : IsSplitUnique → (stream : List ℕ) (fault other : Option FeedFault) (f g : Frame) → HasFirstFrame stream fault f
    → HasFirstFrame stream other g → f ≡ g
first-once once stream fault other f g a b =
    let same : f ∷ a.0 ≡ g ∷ b.0 = (once 0 stream (f ∷ a.0) (g ∷ b.0) a.1.rest b.1.rest a.1.splits b.1.splits).0 in cc

-- or none
never-none : IsSplitUnique → (stream : List ℕ) (fault other : Option FeedFault) (f : Frame) → HasFirstFrame stream fault f
    → HasFrames 0 stream [] other → ⊥
never-none once stream fault other f a b =
    let same : f ∷ a.0 ≡ [] = (once 0 stream (f ∷ a.0) [] a.1.rest b.rest a.1.splits b.splits).0 in absurd cc

frame-or-none : IsSplitUnique → (stream : List ℕ) (fault : Option FeedFault) (f : Frame) (why : Unbound)
    → HasFirstFrame stream fault f → Lacks stream why → ⊥
frame-or-none once stream fault f why begins (ends reads is) = never-none once stream fault None f begins reads
frame-or-none once stream fault f why begins (cuts first reads is) =
    never-none once stream fault (Some first) f begins reads

shows-once : IsFaultUnique → IsSplitUnique
    → ((T : Table) (service : List ℕ) (f : Frame) (why other : Option Unbound) → Tells T service f why
    → Tells T service f other → why ≡ other)
    → (T : Table) (service stream : List ℕ) (fault : Option FeedFault) (why other : Option Unbound)
    → Shows T service stream fault why → Shows T service stream fault other → why ≡ other
shows-once ends-once once tells T service stream fault why other (by_frame f a b) (by_frame g d e) =
    let same : g ≡ f = first-once once stream fault fault g f d a in
    let e' : Tells T service f other = subst (λ (x : Frame). Tells T service x other) same e in
    tells T service f why other b e'
shows-once ends-once once tells T service stream fault why other (by_frame f a b) (by_none cause d e) =
    absurd (frame-or-none once stream fault f cause a d)
shows-once ends-once once tells T service stream fault why other (by_none cause d e) (by_frame f a b) =
    absurd (frame-or-none once stream fault f cause a d)
shows-once ends-once once tells T service stream fault why other (by_none cause a b) (by_none cause' d e) =
    b ∙ ap Some (lacks-once ends-once stream cause cause' a d) ∙ sym e

module _ (ends-once : IsFaultUnique) (once : IsSplitUnique) (says : IsHelloUnique) (bad : IsFaultyLineUnique) (both : IsHelloExclusive)
    (agree : IsAgreementExclusive) (refuse : IsDisagreementUnique) where
  pub bound-or-not : (T : Table) (service stream : List ℕ) (fault : Option FeedFault) (state : StreamState) (hello : Frame)
      (why : Unbound) → state ≢ HasFailed → IsBound T service stream fault hello
      → IsUnbound T service stream fault state why → ⊥
  bound-or-not T service stream fault state hello why working bound unbound =
      let no : None ≡ Some why =
      shows-once ends-once once (tells-once says bad both agree refuse) T service stream fault None (Some why)
      (shows-bound T service stream fault hello bound) (shows T service stream fault state why working unbound) in
      absurd cc

  pub unbound-once : (T : Table) (service stream : List ℕ) (fault : Option FeedFault) (state : StreamState)
      (why other : Unbound) → state ≢ HasFailed → IsUnbound T service stream fault state why
      → IsUnbound T service stream fault state other → why ≡ other
  unbound-once T service stream fault state why other working a b =
      let same : Some why ≡ Some other =
      shows-once ends-once once (tells-once says bad both agree refuse) T service stream fault (Some why) (Some other)
      (shows T service stream fault state why working a) (shows T service stream fault state other working b) in
      cc
