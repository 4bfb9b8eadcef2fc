-- `receive` returns `End` and leaves the sink unchanged, so the clauses of all other results hold trivially.
use Rattle.std.proofs.Common.{arith, refl}
use Rattle.frame_transport.proofs.Gained.{sent-later, idle-later}
use Rattle.frame_transport.proofs.byte_link.ByteLinkLink.TheImpl.Goals as goal

pub receive-tells : goal.receive-tells
receive-tells g c =
    let same_faults = c.ensures.same_failures in record {
      count = rw c.ensures.end tt;
      appended = rw c.ensures.end tt;
      kept = rw c.ensures.end refl;
      silent = λ none. none;
      ends = λ _. c.ensures.ended;
      same_ended = λ other. absurd (other c.ensures.end);
      same_handed = c.ensures.same_handed;
      same_link = λ first h. idle-later g.W.Sink.written g.W.Sink.failures first c.args.self.now c.new.self.now h
          c.ensures.same_sink c.ensures.same_handed same_faults c.ensures.untouched;
      idle = λ e. cc;
      end = λ _. tt;
      cause = record { rose = λ e. cc; stays = λ _. same_faults; never_falls = omega (arith, same_faults) };
    }

pub send-tells : goal.send-tells
send-tells g c = record {
  appended = c.ensures.appended;
  kept = c.ensures.kept;
  same_given = refl;
  same_ended = c.ensures.same_ended;
  same_link = λ first h. sent-later g.W.Sink.written g.W.Sink.failures first c.args.self.now c.new.self.now c.args.frame.now c.result h
      c.ensures.same_sink c.ensures.appended c.ensures.kept c.ensures.done c.ensures.counted c.ensures.cause c.ensures.raised
      c.ensures.memory;
  refused = λ failed. record {
    same_sink = c.ensures.same_sink;
    front = c.ensures.front failed;
    rose = c.ensures.cause.rose failed;
    never_falls = c.ensures.cause.never_falls;
  };
  cause = c.ensures.counted;
}

pub finish-tells : goal.finish-tells
finish-tells g c = rw c.ensures (record {
  same_handed = refl;
  same_given = refl;
  same_ended = refl;
  same_faults = refl;
  same_link = λ first h. h;
})
