-- No call changes the ports.
use Rattle.std.proofs.Common.{ap, Some, ◌∙◌}
use Rattle.tcp_fabric.proofs.Known.{keeps-none}
use Rattle.tcp_fabric.proofs.link.SocketLinkLink.TheImpl.Goals as goal

pub send-tells : goal.send-tells
send-tells g c =
    let same = c.ensures.same in record {
      appended = c.ensures.appended;
      kept = c.ensures.kept;
      same_given = ap (λ l. Some l.given) same;
      same_ended = ap (λ l. l.ended) same;
      same_link = λ first h. (ap (λ l. l.local) same ∙ h.0, ap (λ l. l.peer) same ∙ h.1);
      refused = λ _. tt;
      cause = c.ensures.cause;
    }

pub receive-tells : goal.receive-tells
receive-tells g c =
    let same = c.ensures.same in record {
      count = c.ensures.count;
      appended = c.ensures.appended;
      kept = keeps-none c.result c.args.self.now.given c.new.self.now.given _ c.ensures.kept;
      silent = λ is_none. cc;
      ends = c.ensures.ends;
      same_ended = c.ensures.same_ended;
      same_handed = ap (λ l. l.handed) same;
      same_link = λ first h. (ap (λ l. l.local) same ∙ h.0, ap (λ l. l.peer) same ∙ h.1);
      idle = λ is. (rw is at c.ensures.empty, (rw is at c.ensures.kept).1);
      end = λ is. rw is at c.ensures.still_empty;
      cause = c.ensures.cause;
    }

pub finish-tells : goal.finish-tells
finish-tells g c =
    let same = c.ensures.same in record {
      same_handed = ap (λ l. l.handed) same;
      same_given = ap (λ l. Some l.given) same;
      same_ended = ap (λ l. l.ended) same;
      same_faults = ap (λ l. l.failures) same;
      same_link = λ first h. (ap (λ l. l.local) same ∙ h.0, ap (λ l. l.peer) same ∙ h.1);
    }
