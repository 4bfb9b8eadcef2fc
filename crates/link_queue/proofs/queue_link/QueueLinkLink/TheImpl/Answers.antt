-- No call changes the two queues or their capacity for frames.
use Rattle.std.proofs.Common.{ap, refl, Some, ◌∙◌}
use Rattle.link_queue.proofs.queue_link.QueueLinkLink.TheImpl.Goals as goal

pub send-tells : goal.send-tells
send-tells g c =
    let same = c.ensures.same in record {
      appended = c.ensures.appended;
      kept = c.ensures.kept;
      same_given = ap (λ l. Some l.given) same;
      same_ended = ap (λ l. l.ended) same;
      same_link = λ first h. (ap (λ l. l.forward) same ∙ h.0, ap (λ l. l.backward) same ∙ h.1, ap (λ l. l.most) same ∙ h.2);
      refused = λ _. tt;
      cause = c.ensures.cause;
    }

pub receive-tells : goal.receive-tells
receive-tells g c =
    let same = c.ensures.same in record {
      count = c.ensures.count;
      appended = c.ensures.appended;
      kept = c.ensures.kept;
      silent = λ is_none. cc;
      ends = c.ensures.ends;
      same_ended = c.ensures.same_ended;
      same_handed = ap (λ l. l.handed) same;
      same_link = λ first h. (ap (λ l. l.forward) same ∙ h.0, ap (λ l. l.backward) same ∙ h.1, ap (λ l. l.most) same ∙ h.2);
      idle = c.ensures.idle;
      end = c.ensures.end;
      cause = c.ensures.cause;
    }

pub finish-tells : goal.finish-tells
finish-tells g c = rw c.ensures (record {
  same_handed = refl;
  same_given = refl;
  same_ended = refl;
  same_faults = refl;
  same_link = λ first h. h;
})
