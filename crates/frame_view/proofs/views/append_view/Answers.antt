use Rattle.std.proofs.Common.{◌∙◌, ◌++◌, ℕ, List, refl, ap, subst, append_assoc}
use Rattle.frame_transport.specs.FramesInPlace.{owned_frame}
use Rattle.frame_transport.specs.Messages.{payload_message}
use Rattle.text_format.specs.Entries.{IsTextOfMessage}
use Rattle.frame_view.specs.Views.{call_head, view_of_call}
use Rattle.frame_view.proofs.views.append_view.Goals as goal

pub returns-in_ok-append_message-in-Call : goal.returns-in_ok-append_message-in-Call
returns-in_ok-append_message-in-Call c =
    let T = c.args.table.now in
    let f = owned_frame c.args.frame.now in
    let content = rw c.in-Call.is at c.requires.content in
    let shown = c.in_ok-append_message-in-Call.ensures in
    let is_text : IsTextOfMessage T (payload_message T f) c.in-Call.tree shown.0 = subst (λ (m : ℕ). IsTextOfMessage T m c.in-Call.tree shown.0) content.0 shown.1 in (
      call_head T f ++ shown.0,
      view_of_call c.in-Call.tree shown.0 content.1 is_text refl,
      shown.2 ∙ ap (λ (bs : List ℕ). bs ++ shown.0) c.in_ok-put_call-in-Call.ensures ∙ append_assoc c.args.lines.now (call_head T f) shown.0,
    )
