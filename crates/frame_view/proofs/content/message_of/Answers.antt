use Rattle.std.proofs.Common.{◌≡◌, ◌∙◌, ℕ, subst, arith}
use Rattle.mrpc_table.specs.Normal.{IsNormal}
use Rattle.frame_transport.specs.Messages.{payload_message}
use Rattle.frame_view.specs.Faults.{IsFaultOfFrame, in_payload}
use Rattle.frame_transport.specs.FramesInPlace.{owned_frame}
use Rattle.wire_decode.specs.Faults.{IsFirstDecodeFault}
use Rattle.wire_decode.specs.Means.{Means}
use Rattle.frame_view.proofs.OnFaults.{on_fault}
use Rattle.frame_view.proofs.content.message_of.Goals as goal

pub returns-in-Ok-clause-content : goal.returns-in-Ok-clause-content
returns-in-Ok-clause-content c =
    let T = c.args.table.now in
    let f = owned_frame c.args.frame.now in
    let message : c.payload_message-message.result ≡ payload_message T f = c.payload_message-message.ensures.place in (
      message,
      record {
        kind = c.requires.call;
        method = c.requires.known;
        known = omega (arith, message, c.payload_message-message.ensures.within);
        means = subst (λ (m : ℕ). Means T m f.payload c.in-Ok.tree) message c.in-Ok.ensures.means;
        normal = subst (λ (m : ℕ). IsNormal T m c.in-Ok.tree) message c.in-Ok.ensures.normal;
      },
    )

pub returns-in-Err-At-clause-fault : goal.returns-in-Err-At-clause-fault
returns-in-Err-At-clause-fault c =
    let T = c.args.table.now in
    let f = owned_frame c.args.frame.now in
    let message : c.payload_message-message.result ≡ payload_message T f = c.payload_message-message.ensures.place in
    let first = rw c.in-Err-At.field-0-is at c.in-Err-At.ensures.fault in
    let here : IsFirstDecodeFault T (payload_message T f) f.payload c.in-Err-At.reason c.in-Err-At.place =
    subst (λ (n : ℕ). IsFirstDecodeFault T n f.payload c.in-Err-At.reason c.in-Err-At.place) message first in
    on_fault _ (IsFaultOfFrame T f) _
    (λ place word is. in_payload c.in-Err-At.reason c.in-Err-At.place c.requires.call c.requires.known here (omega (arith, is.0)) (is.1 ∙ c.word.ensures))
    c.at.ensures.is
