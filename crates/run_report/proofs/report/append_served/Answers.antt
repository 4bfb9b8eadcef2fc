use Rattle.std.proofs.Common.{◌≡◌, ◌++◌, ℕ, Bool, ap, ◌∙◌, subst}
use Rattle.std.proofs.lemmas.Result.{on_ok_weaker}
use Rattle.receive_core.specs.ReceiverTraces.{ReceiverTrace}
use Rattle.message_delivery.specs.Arriving.{IsArrivalTrace}
use Rattle.run_report.specs.Prefixes.{served_prefix}
use Rattle.run_report.specs.ConnectionReport.{IsStreamRemainder, not_held_text, pending_call_lines}
use Rattle.run_report.proofs.Telling.{left-any, same-flag}
use Rattle.run_report.proofs.report.append_served.Goals as goal

pub returns : goal.returns
returns c =
    let s = c.args.served.now in
    let a = s.arrivals.now in
    let conn = s.calls.now.conn in
    let n : c.number-conn.result ≡ conn = c.number-conn.ensures in
    let flag : c.ended.result ≡ s.calls.now.ended = same-flag c.ended.result s.calls.now.ended c.ended.ensures in
    let first : c.append_false_reclaims.new.out ≡ served_prefix s ++ not_held_text conn s.not_held.now =
    c.in_ok-append_false_reclaims.ensures ∙ ap (λ k. c.args.out.now ++ not_held_text k s.not_held.now) n
    ∙ ap (λ l. l ++ not_held_text conn s.not_held.now) c.requires.front in
    let left = left-any c.number-conn.result c.ended.result a c.append_false_reclaims.new.out c.append_stream_remainder.new.out
    c.requires.tellable.arriving c.in_ok-append_stream_remainder.ensures in
    let of_conn : (life : ReceiverTrace) → IsArrivalTrace life a → IsStreamRemainder conn c.ended.result life left.0 =
    subst (λ (k : ℕ). (life : ReceiverTrace) → IsArrivalTrace life a → IsStreamRemainder k c.ended.result life left.0) n left.1 in
    let of_both : (life : ReceiverTrace) → IsArrivalTrace life a → IsStreamRemainder conn s.calls.now.ended life left.0 =
    subst (λ (b : Bool). (life : ReceiverTrace) → IsArrivalTrace life a → IsStreamRemainder conn b life left.0) flag of_conn in
    let so_far : c.append_stream_remainder.new.out ≡ served_prefix s ++ not_held_text conn s.not_held.now ++ left.0 =
    left.2 ∙ ap (λ l. l ++ left.0) first in
    on_ok_weaker c.append_pending_calls.result
    (λ last. record { left = left.0; is_remainder = of_both; lines = last ∙ ap (λ l. l ++ pending_call_lines s.calls.now) so_far })
    c.append_pending_calls.ensures
