use Rattle.std.proofs.Common.{arith}
use Rattle.tcp_fabric.proofs.Windows.{window-copied}
use Rattle.tcp_fabric.proofs.read_ahead.ReadAhead.copy_to.Goals as goal

pub returns-clause-next : goal.returns-clause-next
returns-clause-next c =
    window-copied c.args.self.now c.self.inside.room.items c.deref.result.now c.args.buf.now c.copy_from_slice.new.self c.self.inside.start c.min-count.result c.self.inside.end
    c.self.view_is c.deref.ensures.value c.copy_from_slice.ensures.after (omega (arith, c.min-count.ensures, c.self.invariant)) c.self.invariant.1
