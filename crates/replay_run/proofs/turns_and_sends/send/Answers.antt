use Rattle.std.proofs.Common.{◌≡◌, refl, rules, inl, inr}
use Rattle.mrpc_base.specs.Failures.{HasCause}
use Rattle.frame_transport.specs.Links.{IsLater, failures_of, sink_of, sink_name}
use Rattle.replay_script.specs.declared.script.ScriptLine.TheVariants.{Send}
use Rattle.conn_core.specs.declared.answers.Sending.TheVariants as F
use Rattle.replay_run.specs.Kept.{IsBrokenOn, IsDoneOn, IsStoppedOn}
use Rattle.replay_run.proofs.Broken.{send-broken, later-itself}
use Rattle.replay_run.proofs.Ended.{fault-free, none-failed, over, refused-cause, send-fine, send-short}
use Rattle.replay_run.proofs.Sent.{with_calls}
use Rattle.replay_run.proofs.turns_and_sends.send.Goals as goal

pub returns-in-Nothing-clause-ran : goal.returns-in-Nothing-clause-ran
returns-in-Nothing-clause-ran g c =
    let later : IsLater g.W.Sink.written g.W.Sink.failures c.new-link.result c.send_ready.new.link =
    c.send_ready.ensures.same_link c.new-link.result
    (later-itself g.W.Sink.written g.W.Sink.failures c.new-link.result) in
    let name : sink_name c.send_ready.new.link ≡ sink_name c.new-link.result = later.same_sink in
    λ tickets s of_script.
    over g.W.Sink.written (IsDoneOn s (Send c.args.connection.now.calls.conn) c.args.connection.now
    (with_calls c.args.connection.now c.send_ready.new.self) tickets tickets)
    c.args.wire.now _ (sink_of c.new-link.result) (sink_of c.send_ready.new.link) c.new-link.ensures.untouched
    (search (rules, name)) (send-fine g.W.Sink.written g.W.Sink.failures s c.args.connection.now c.send_ready.result
    c.send_ready.new.self tickets c.new-link.result c.send_ready.new.link of_script c.requires.rests
    c.send_ready.ensures.same c.is_connection.ensures.same_chain c.in-Nothing.is c.send_ready.ensures.nothing
    c.send_ready.ensures.sent c.send_ready.ensures.as_before c.send_ready.ensures.untouched
    c.send_ready.ensures.handed later c.send_ready.ensures.cause c.new-link.ensures.failures)

pub returns-in-Nothing-clause-cause : goal.returns-in-Nothing-clause-cause
returns-in-Nothing-clause-cause g c =
    let later : IsLater g.W.Sink.written g.W.Sink.failures c.new-link.result c.send_ready.new.link =
    c.send_ready.ensures.same_link c.new-link.result
    (later-itself g.W.Sink.written g.W.Sink.failures c.new-link.result) in
    let name : sink_name c.send_ready.new.link ≡ sink_name c.new-link.result = later.same_sink in
    let fine : c.send_ready.result ≡ F.Failed → ⊥ = λ e. elim (c.in-Nothing.is) [ inl k ↦ cc | inr k ↦ (let h = k.1 in cc) ] in
    let none : failures_of c.send_ready.new.link ≡ 0 =
    none-failed g.W.Sink.written g.W.Sink.failures c.new-link.result c.send_ready.new.link
    c.send_ready.ensures.cause fine c.new-link.ensures.failures in
    over g.W.Sink.failures (HasCause _)
    c.args.wire.now _ (sink_of c.new-link.result) (sink_of c.send_ready.new.link) c.new-link.ensures.untouched
    (search (rules, name))
    (fault-free g.W.Sink.written g.W.Sink.failures (λ e. cc) c.new-link.result c.send_ready.new.link later none)

pub returns-in-Failed-clause-ran : goal.returns-in-Failed-clause-ran
returns-in-Failed-clause-ran g c =
    let later : IsLater g.W.Sink.written g.W.Sink.failures c.new-link.result c.send_ready.new.link =
    c.send_ready.ensures.same_link c.new-link.result
    (later-itself g.W.Sink.written g.W.Sink.failures c.new-link.result) in
    let name : sink_name c.send_ready.new.link ≡ sink_name c.new-link.result = later.same_sink in
    λ tickets s of_script.
    over g.W.Sink.written (IsBrokenOn s (Send c.args.connection.now.calls.conn) c.args.connection.now
    (with_calls c.args.connection.now c.send_ready.new.self) tickets tickets)
    c.args.wire.now _ (sink_of c.new-link.result) (sink_of c.send_ready.new.link) c.new-link.ensures.untouched
    (search (rules, name))
    (send-broken g.W.Sink.written g.W.Sink.failures s c.args.connection.now c.send_ready.new.self tickets
    c.new-link.result c.send_ready.new.link of_script c.requires.rests c.send_ready.ensures.same
    (c.send_ready.ensures.failed c.in-Failed.is) (c.send_ready.ensures.refused c.in-Failed.is))

pub returns-in-Failed-clause-cause : goal.returns-in-Failed-clause-cause
returns-in-Failed-clause-cause g c =
    let later : IsLater g.W.Sink.written g.W.Sink.failures c.new-link.result c.send_ready.new.link =
    c.send_ready.ensures.same_link c.new-link.result
    (later-itself g.W.Sink.written g.W.Sink.failures c.new-link.result) in
    let name : sink_name c.send_ready.new.link ≡ sink_name c.new-link.result = later.same_sink in
    over g.W.Sink.failures (HasCause _)
    c.args.wire.now _ (sink_of c.new-link.result) (sink_of c.send_ready.new.link) c.new-link.ensures.untouched
    (search (rules, name))
    (refused-cause g.W.Sink.written g.W.Sink.failures refl _ c.new-link.result c.send_ready.new.link
    (c.send_ready.ensures.refused c.in-Failed.is).refused)

pub returns-in-Memory-clause-ran : goal.returns-in-Memory-clause-ran
returns-in-Memory-clause-ran g c =
    let later : IsLater g.W.Sink.written g.W.Sink.failures c.new-link.result c.send_ready.new.link =
    c.send_ready.ensures.same_link c.new-link.result
    (later-itself g.W.Sink.written g.W.Sink.failures c.new-link.result) in
    let name : sink_name c.send_ready.new.link ≡ sink_name c.new-link.result = later.same_sink in
    let none : failures_of c.send_ready.new.link ≡ 0 =
    none-failed g.W.Sink.written g.W.Sink.failures c.new-link.result c.send_ready.new.link
    c.send_ready.ensures.cause (λ e. cc) c.new-link.ensures.failures in
    λ tickets s of_script. over g.W.Sink.written (IsStoppedOn s (Send c.args.connection.now.calls.conn) c.args.connection.now)
    c.args.wire.now _ (sink_of c.new-link.result) (sink_of c.send_ready.new.link) c.new-link.ensures.untouched
    (search (rules, name))
    (send-short g.W.Sink.written g.W.Sink.failures s c.args.connection.now c.send_ready.new.self c.new-link.result
    c.send_ready.new.link of_script c.send_ready.ensures.same
    (c.send_ready.ensures.as_before (inr c.in-Memory.is)) c.send_ready.ensures.handed later none)

pub returns-in-Memory-clause-cause : goal.returns-in-Memory-clause-cause
returns-in-Memory-clause-cause g c =
    let later : IsLater g.W.Sink.written g.W.Sink.failures c.new-link.result c.send_ready.new.link =
    c.send_ready.ensures.same_link c.new-link.result
    (later-itself g.W.Sink.written g.W.Sink.failures c.new-link.result) in
    let name : sink_name c.send_ready.new.link ≡ sink_name c.new-link.result = later.same_sink in
    let none : failures_of c.send_ready.new.link ≡ 0 =
    none-failed g.W.Sink.written g.W.Sink.failures c.new-link.result c.send_ready.new.link
    c.send_ready.ensures.cause (λ e. cc) c.new-link.ensures.failures in
    over g.W.Sink.failures (HasCause _)
    c.args.wire.now _ (sink_of c.new-link.result) (sink_of c.send_ready.new.link) c.new-link.ensures.untouched
    (search (rules, name))
    (fault-free g.W.Sink.written g.W.Sink.failures (λ e. cc) c.new-link.result c.send_ready.new.link later none)
