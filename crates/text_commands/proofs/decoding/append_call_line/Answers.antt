use Rattle.std.proofs.Common.{◌≡◌, ◌+◌, ◌∙◌, ◌++◌, List, ℕ, ap, refl, subst}
use Rattle.frame_transport.specs.FramesInPlace.{owned_frame}
use Rattle.text_commands.specs.Decoding.{line_of_call, call_line}
use Rattle.frame_transport.specs.Messages.{payload_message}
use Rattle.wire_base.specs.Encoding.{encoding}
use Rattle.wire_decode.specs.Means.{Means}
use Rattle.wire_decode.specs.Reason.{decode_reason_word}
use Rattle.text_commands.proofs.Decodings.{fault_of_payload}
use Rattle.text_commands.proofs.decoding.append_call_line.Goals as goal

pub returns-in_ok-append_encoded_call-in-Ok-clause-told : goal.returns-in_ok-append_encoded_call-in-Ok-clause-told
returns-in_ok-append_encoded_call-in-Ok-clause-told c =
    let T = c.args.table.now in
    let f = owned_frame c.args.frame.now in
    let message : c.payload_message-message.result ≡ payload_message T f = c.payload_message-message.ensures.place in
    let bytes : c.as_slice.result.now ≡ encoding T (payload_message T f) c.in-Ok.tree =
    c.as_slice.ensures ∙ c.in_ok-encode_into-in-Ok.ensures.written
    ∙ ap (λ (m : ℕ). encoding T m c.in-Ok.tree) message in
    let means : Means T (payload_message T f) f.payload c.in-Ok.tree = subst (λ (m : ℕ). Means T m f.payload c.in-Ok.tree) message c.in-Ok.ensures.means in (
      call_line f (encoding T (payload_message T f) c.in-Ok.tree),
      line_of_call c.in-Ok.tree c.requires.call c.requires.known means refl,
      c.in_ok-append_encoded_call-in-Ok.ensures ∙ ap (λ (bs : List ℕ). c.args.lines.now ++ call_line f bs) bytes,
    )

pub returns-in-Err-At-clause-cut : goal.returns-in-Err-At-clause-cut
returns-in-Err-At-clause-cut c =
    let T = c.args.table.now in
    let f = owned_frame c.args.frame.now in
    let message : c.payload_message-message.result ≡ payload_message T f = c.payload_message-message.ensures.place in
    let first = rw c.in-Err-At.field-0-is at c.in-Err-At.ensures.fault in (
      fault_of_payload T f _ _ c.in-Err-At.reason c.in-Err-At.place _ c.requires.call c.requires.known message first
          (ap (λ (n : ℕ). f.place + (16 + n)) c.in-Err-At.place-is) (c.word.ensures ∙ ap decode_reason_word c.in-Err-At.reason-is),
      refl,
    )
