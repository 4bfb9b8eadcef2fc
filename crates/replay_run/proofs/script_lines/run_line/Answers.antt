use Rattle.std.proofs.Common.{◌≡◌, ◌++◌, ◌∷◌, [], List, refl, sym, subst, None, Some}
use Rattle.std.specs.Prelude.{◌==◌, position, slice_get}
use Rattle.replay_script.specs.Lines.{conn_of}
use Rattle.replay_script.specs.declared.script.ScriptLine.{ScriptLine}
use Rattle.replay_run.specs.Kept.{HasRunSomeLines, IsRunBefore}
use Rattle.replay_run.specs.declared.connection.RunConnection.{RunConnection}
use Rattle.replay_run.proofs.Queued.{open-there}
use Rattle.replay_run.proofs.Arms.{no-out, no-wire}
use Rattle.replay_run.proofs.Ran.{cause-none, not-conn, ran-map, ran-opened}
use Rattle.replay_run.proofs.script_lines.run_line.Goals as goal

pub open_one-requires-clause-least_heap : goal.open_one-requires-clause-least_heap
open_one-requires-clause-least_heap g c = (c.run_follows_script.ensures.words c.args.script.now c.in-Conn.conn c.in-Conn.words c.args.run.now.connections.items c.args.run.now.tickets
    (g.K.Sink.written c.args.out.now) (g.W.Sink.written c.args.wire.now) c.requires.script
    (subst (λ (l : ScriptLine). IsRunBefore c.args.script.now l c.args.run.now.connections.items c.args.run.now.tickets
    (g.K.Sink.written c.args.out.now) (g.W.Sink.written c.args.wire.now)) c.in-Conn.is c.requires.before)).0

pub open_one-requires-clause-greatest_heap : goal.open_one-requires-clause-greatest_heap
open_one-requires-clause-greatest_heap g c = (c.run_follows_script.ensures.words c.args.script.now c.in-Conn.conn c.in-Conn.words c.args.run.now.connections.items c.args.run.now.tickets
    (g.K.Sink.written c.args.out.now) (g.W.Sink.written c.args.wire.now) c.requires.script
    (subst (λ (l : ScriptLine). IsRunBefore c.args.script.now l c.args.run.now.connections.items c.args.run.now.tickets
    (g.K.Sink.written c.args.out.now) (g.W.Sink.written c.args.wire.now)) c.in-Conn.is c.requires.before)).1

pub returns-in-Conn-clause-ran : goal.returns-in-Conn-clause-ran
returns-in-Conn-clause-ran g c = λ b.
    ran-opened _ c.open_one.result
    (λ o. subst (λ (cs : List RunConnection). HasRunSomeLines c.args.script.now (b.lines ++ c.args.line.now ∷ []) cs c.args.run.now.tickets
    b.out (g.K.Sink.written c.args.out.now) b.wire (g.W.Sink.written c.args.wire.now)) (sym o.more)
    (subst (λ (l : ScriptLine). (b : IsRunBefore c.args.script.now l c.args.run.now.connections.items c.args.run.now.tickets (g.K.Sink.written c.args.out.now) (g.W.Sink.written c.args.wire.now))
    → HasRunSomeLines c.args.script.now (b.lines ++ l ∷ []) (c.args.run.now.connections.items ++ o.one
    ∷ []) c.args.run.now.tickets b.out (g.K.Sink.written c.args.out.now) b.wire
    (g.W.Sink.written c.args.wire.now))
    (sym c.in-Conn.is)
    (λ b. c.run_follows_script.ensures.opens c.args.script.now c.in-Conn.conn c.in-Conn.words c.args.run.now.connections.items o.one c.args.run.now.tickets
    (g.K.Sink.written c.args.out.now) (g.W.Sink.written c.args.wire.now) b o.opened o.fresh) b))
    c.open_one.ensures.opened c.open_one.ensures.memory
    (c.run_follows_script.ensures.stops c.args.script.now c.args.line.now c.args.run.now.connections.items c.args.run.now.tickets
    (g.K.Sink.written c.args.out.now) (g.W.Sink.written c.args.wire.now) b)

pub returns-in-Conn-clause-out_cause : goal.returns-in-Conn-clause-out_cause
returns-in-Conn-clause-out_cause g c = cause-none _ _ (no-out c.open_one.result c.open_one.ensures.memory) refl

pub returns-in-Conn-clause-wire_rose : goal.returns-in-Conn-clause-wire_rose
returns-in-Conn-clause-wire_rose g c = λ e. absurd (no-wire c.open_one.result c.open_one.ensures.memory e)

pub open_index-place-requires : goal.open_index-place-requires
open_index-place-requires g c = λ none.
    c.run_follows_script.ensures.is_open c.args.script.now c.args.line.now c.args.run.now.connections.items
    c.args.run.now.tickets (g.K.Sink.written c.args.out.now) (g.W.Sink.written c.args.wire.now)
    c.requires.script c.requires.before (not-conn c.args.line.now (λ conn words e. c.in_default.not-Conn conn words e))
    (subst (λ n. position (λ (d : RunConnection). d.calls.conn == n) c.args.run.now.connections.items ≡ None) c.conn_of.ensures
    (subst (λ (cs : List RunConnection). position (λ (d : RunConnection). d.calls.conn == c.conn_of.result) cs ≡ None) c.deref.ensures.value none))

pub run_and_write-requires : goal.run_and_write-requires
run_and_write-requires g c =
    let found : position (λ (d : RunConnection). d.calls.conn == conn_of c.args.line.now) c.args.run.now.connections.items ≡ Some c.open_index-place.result =
    subst (λ n. position (λ (d : RunConnection). d.calls.conn == n) c.args.run.now.connections.items ≡ Some c.open_index-place.result) c.conn_of.ensures
    (subst (λ (cs : List RunConnection). position (λ (d : RunConnection). d.calls.conn == c.conn_of.result) cs
    ≡ Some c.open_index-place.result) c.deref.ensures.value c.open_index-place.ensures) in
    let at : slice_get c.args.run.now.connections.items c.open_index-place.result ≡ Some c.index_mut.result.now =
    open-there c.args.run.now.connections.items (conn_of c.args.line.now) c.open_index-place.result c.index_mut.result.now found c.index_mut.ensures.value in
    let it = c.run_follows_script.ensures.ready c.args.script.now c.args.line.now c.args.run.now.connections.items
    c.args.run.now.tickets (g.K.Sink.written c.args.out.now) (g.W.Sink.written c.args.wire.now)
    c.open_index-place.result c.index_mut.result.now c.requires.script c.requires.few c.requires.before
    (not-conn c.args.line.now (λ conn words e. c.in_default.not-Conn conn words e)) found at in
    record { valid = c.requires.script.table; on = it.0; ready = it.1; may = it.2; known = it.3 }

pub returns-clause-ran : goal.returns-clause-ran
returns-clause-ran g c =
    let found : position (λ (d : RunConnection). d.calls.conn == conn_of c.args.line.now) c.args.run.now.connections.items ≡ Some c.open_index-place.result =
    subst (λ n. position (λ (d : RunConnection). d.calls.conn == n) c.args.run.now.connections.items ≡ Some c.open_index-place.result) c.conn_of.ensures
    (subst (λ (cs : List RunConnection). position (λ (d : RunConnection). d.calls.conn == c.conn_of.result) cs
    ≡ Some c.open_index-place.result) c.deref.ensures.value c.open_index-place.ensures) in
    let at : slice_get c.args.run.now.connections.items c.open_index-place.result ≡ Some c.index_mut.result.now =
    open-there c.args.run.now.connections.items (conn_of c.args.line.now) c.open_index-place.result c.index_mut.result.now found c.index_mut.ensures.value in
    let it = c.run_follows_script.ensures.ready c.args.script.now c.args.line.now c.args.run.now.connections.items
    c.args.run.now.tickets (g.K.Sink.written c.args.out.now) (g.W.Sink.written c.args.wire.now)
    c.open_index-place.result c.index_mut.result.now c.requires.script c.requires.few c.requires.before
    (not-conn c.args.line.now (λ conn words e. c.in_default.not-Conn conn words e)) found at in
    λ b. ran-map c.run_and_write.result
    (λ done. c.run_follows_script.ensures.goes_on c.args.script.now c.args.line.now c.args.run.now.connections.items
    c.open_index-place.result c.index_mut.result.now c.run_and_write.new.connection c.args.run.now.tickets
    c.run_and_write.new.tickets (g.K.Sink.written c.args.out.now) (g.K.Sink.written c.run_and_write.new.out)
    (g.W.Sink.written c.args.wire.now) (g.W.Sink.written c.run_and_write.new.wire) c.requires.script b it.0 at done)
    (λ broken. c.run_follows_script.ensures.breaks c.args.script.now c.args.line.now c.args.run.now.connections.items
    c.open_index-place.result c.index_mut.result.now c.run_and_write.new.connection c.args.run.now.tickets
    c.run_and_write.new.tickets (g.K.Sink.written c.args.out.now) (g.K.Sink.written c.run_and_write.new.out)
    (g.W.Sink.written c.args.wire.now) (g.W.Sink.written c.run_and_write.new.wire) c.requires.script b it.0 at broken)
    (λ stopped. c.run_follows_script.ensures.stops_at c.args.script.now c.args.line.now c.args.run.now.connections.items
    c.open_index-place.result c.index_mut.result.now c.args.run.now.tickets (g.K.Sink.written c.args.out.now)
    (g.K.Sink.written c.run_and_write.new.out)
    (g.W.Sink.written c.args.wire.now) (g.W.Sink.written c.run_and_write.new.wire) c.requires.script b it.0 at stopped)
    c.run_and_write.ensures.ran
