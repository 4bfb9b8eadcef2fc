use Rattle.std.proofs.Common.{ap, sym, subst, ◌∷◌, [], ◌++◌, map}
use Rattle.shared_heap.specs.Fresh.{Reading, Writing}
use Rattle.app_stub.specs.EchoStates.{IsReplyPlaced, echo_of}
use Rattle.app_stub.specs.Echoing.{Echo, HasEchoed}
use Rattle.app_stub.specs.Serving.{submission_of}
use Rattle.app_stub.proofs.Copied.{echo_same}
use Rattle.app_stub.proofs.Echoings.{echoed_alone, echoed_reply}
use Rattle.app_stub.proofs.echoes.echo_one.Goals as goal

pub returns-in_ok-reply-in-Some-clause-echoed : goal.returns-in_ok-reply-in-Some-clause-echoed
returns-in_ok-reply-in-Some-clause-echoed g c = λ notices before.
    let T = c.args.table.now in
    let old = c.args.desk.now in
    let mid = c.copied.new.desk in
    let new = c.reply.new.desk in
    let notice = c.args.notice in
    let tree = c.in-Some.tree in
    let calls = map submission_of c.args.outgoing.now.sender.sent in
    let all = map submission_of c.reply.new.sender.sent in
    let same = c.copied.ensures.same in
    let e = echo_same T mid old (ap (λ w. w.heap) same.0) c.copied.ensures.reader same.1 in
    let copies = rw c.in-Some.is at c.in_ok-tree.ensures.copies in
    let reply = c.in_ok-reply-in-Some.ensures.replied in
    let reply' = subst (λ (x : Echo). IsReplyPlaced x notice.method notice.number tree (mid.writer.stores, calls) (new.writer.stores, all)) e reply in
    let reply'' = subst (λ (w : Writing). IsReplyPlaced (echo_of T old) notice.method notice.number tree (w.stores, calls) (new.writer.stores, all)) same.0 reply' in
    let done = echoed_reply (echo_of T old) notices notice tree old.writer.stores new.writer.stores calls all old.reader mid.reader before copies reply'' in
    subst (λ (r : Reading). HasEchoed (echo_of T old) (notices ++ notice ∷ []) new.writer.stores all r) (sym c.reply.ensures.same.1) done

pub returns-in_ok-reply-in-Some-clause-given : goal.returns-in_ok-reply-in-Some-clause-given
returns-in_ok-reply-in-Some-clause-given g c = λ were. c.in_ok-reclaim_block.ensures.given [] were

pub returns-in-None-clause-echoed : goal.returns-in-None-clause-echoed
returns-in-None-clause-echoed g c = λ notices before.
    let T = c.args.table.now in
    let old = c.args.desk.now in
    let mid = c.copied.new.desk in
    let notice = c.args.notice in
    let calls = map submission_of c.args.outgoing.now.sender.sent in
    let copies = rw c.in-None.is at c.in_ok-tree.ensures.copies in
    let done = echoed_alone (echo_of T old) notices notice old.writer.stores calls old.reader mid.reader before copies in
    subst (λ (w : Writing). HasEchoed (echo_of T old) (notices ++ notice ∷ []) w.stores calls mid.reader) (sym c.copied.ensures.same.0) done

pub returns-in-None-clause-given : goal.returns-in-None-clause-given
returns-in-None-clause-given g c = λ were. c.in_ok-reclaim_block.ensures.given [] were
