-- A stream that shares a prefix with a drill's hello leaves no connection of a drill unbound.
use Rattle.std.proofs.Common.{◌≡◌, ℕ, ◌^◌, ◌<◌, List, ◌∷◌, ◌++◌, Option, refl, ap, subst}
use Rattle.mrpc_table.specs.declared.table.Table.{Table}
use Rattle.frame_transport.specs.Frames.{IsFaultStable}
use Rattle.frame_transport.specs.declared.fault.FeedFault.{FeedFault}
use Rattle.frame_transport.specs.declared.format.Frame.{Frame}
use Rattle.receive_core.specs.ReceiverTraces.{HasFrames}
use Rattle.schema_binding.specs.Agreement.{IsDisagreement}
use Rattle.schema_binding.specs.Hello.{IsFirstFaultyLine, IsHello, IsHelloExclusive, IsHelloUnique}
use Rattle.message_delivery.specs.declared.arrivals.StreamState.{StreamState}
use Rattle.message_delivery.specs.declared.arrivals.StreamState.TheVariants.{Ended, Failed}
use Rattle.link_handshake.specs.Handshake.{IsUnbound, bad_hello, cut, disagrees, ended, failed, hello_of, other_frame}
use Rattle.link_handshake.specs.declared.unbound.Unbound.{Unbound as Cause}
use Rattle.drill.specs.Drill.{schema}
use Rattle.drill.proofs.Itself.{never-refused}
use Rattle.drill.proofs.DrillSchema.{hello_frame, hello-is, offers, payload, payload-is, prints-once, service}
use Rattle.drill.proofs.Streams.{OneFrame, no-fault, not-none, same-frame}

-- the laws that this depends on
pub record Laws : Type 0 where
  pub stays : IsFaultStable
  pub one_frame : OneFrame
  pub says_once : IsHelloUnique
  pub never_both : IsHelloExclusive

module _ (laws : Laws) (conn : ℕ) (small : conn < 2 ^ 32) (more stream left : List ℕ)
    (begins : stream ++ left ≡ hello_of conn service schema ++ more) where
  is-its : (f : Frame) (fs : List Frame) (fault : Option FeedFault) → HasFrames 0 stream (f ∷ fs) fault → f ≡ hello_frame conn
  is-its f fs fault reads =
      same-frame (hello_frame conn) (hello-is conn small) refl more stream left begins laws.one_frame f fs fault reads

  pub never-unbound : (fault : Option FeedFault) (state : StreamState) (why : Cause) → (state ≡ Failed → ⊥)
      → (state ≡ Ended → stream ≡ hello_of conn service schema ++ more) → IsUnbound schema service stream fault state why → ⊥
  never-unbound fault state why works whole (failed is to) = works is
  never-unbound fault state why works whole (ended is reads to) =
      not-none (hello_frame conn) (hello-is conn small) refl more stream _ (whole is) reads
  never-unbound fault state why works whole (cut first reads to) =
      no-fault (hello_frame conn) (hello-is conn small) refl more stream left begins laws.stays first reads
  never-unbound fault state why works whole (other_frame f (fs, reads) other to) =
      other (ap (λ (g : Frame). g.kind) (is-its f fs fault reads))
  never-unbound fault state why works whole (bad_hello f line (fs, reads) hello bad to) =
      let same : f.payload ≡ payload = ap (λ (g : Frame). g.payload) (is-its f fs fault reads) in
      laws.never_both payload service schema line payload-is (subst (λ (bytes : List ℕ). IsFirstFaultyLine bytes line) same bad)
  never-unbound fault state why works whole (disagrees f theirs cause greeted refuses to) =
      let its = is-its f greeted.first.0 fault greeted.first.1 in
      let says : IsHello payload greeted.service theirs =
      subst (λ (bytes : List ℕ). IsHello bytes greeted.service theirs) (ap (λ (g : Frame). g.payload) its) greeted.says in
      let table : theirs ≡ schema = (laws.says_once payload greeted.service service theirs schema says payload-is).1 in
      never-refused schema service f.version cause offers prints-once (ap (λ (g : Frame). g.version) its)
      (subst (λ (T : Table). IsDisagreement schema T service f.version cause) table refuses)
