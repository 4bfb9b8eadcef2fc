use Rattle.std.proofs.Common.{Option, sym, subst, ◌∙◌}
use Rattle.std.specs.Option.{option_copied}
use Rattle.std.specs.Prelude.{IfSome}
use Rattle.frame_transport.specs.Feed.{FeedState, IsNextFrame}
use Rattle.frame_transport.specs.declared.format.Frame.{Frame}
use Rattle.receive_core.specs.Decoding.{IsReading}
use Rattle.receive_core.specs.Turns.{IsFirstFrame}
use Rattle.receive_core.specs.declared.decoded.Reading.{Reading}
use Rattle.receive_core.proofs.Turned.{dropped_turns, ok_from}
use Rattle.receive_core.proofs.inbound.Inbound.answer.Goals as goal

pub returns-in-Some-Dropped-clause-turns : goal.returns-in-Some-Dropped-clause-turns
returns-in-Some-Dropped-clause-turns g c =
    let T = c.args.table.now in
    let old = c.args.self.now in
    let policy = option_copied c.args.policy in
    let read = subst (λ (o : Option Reading). IfSome o (λ r. (f : Frame) × IsFirstFrame old.fed f × IsReading T old.conn f r)) c.in-Some-Dropped.is c.in_ok-read_first.ensures.some in
    let fates = subst (IsReading T old.conn read.0) c.in-Some-Dropped.field-0-is read.2 in
    let stays = c.read_first.ensures.stays in
    let dropped = c.drop_first.ensures.frame read.0 (subst (λ (fed : FeedState). IsFirstFrame fed read.0) (sym stays.fed) read.1) in
    dropped_turns T policy old c.drop_first.new.self _ read.0 c.in-Some-Dropped.why c.drop_first.result (fates policy old.heap.words)
    (subst (λ (fed : FeedState). IsNextFrame fed read.0 c.drop_first.new.self.fed) stays.fed dropped.1) (c.drop_first.ensures.heap ∙ stays.heap) dropped.0

pub returns-in-Some-Call-clause-turns : goal.returns-in-Some-Call-clause-turns
returns-in-Some-Call-clause-turns g c =
    let T = c.args.table.now in
    let old = c.args.self.now in
    let read = subst (λ (o : Option Reading). IfSome o (λ r. (f : Frame) × IsFirstFrame old.fed f × IsReading T old.conn f r)) c.in-Some-Call.is c.in_ok-read_first.ensures.some in
    ok_from T (option_copied c.args.policy) old c.read_first.new.self c.judge_first.new.self _ _ read.0 c.judge_first.result c.read_first.ensures.stays read.1 c.judge_first.ensures.turns
