use Rattle.std.proofs.Common.{◌≡◌, refl, rules}
use Rattle.mrpc_base.specs.Failures.{HasCause}
use Rattle.frame_transport.specs.Links.{IsLater, failures_of, sink_of, sink_name}
use Rattle.replay_script.specs.declared.script.ScriptLine.TheVariants.{Drain}
use Rattle.replay_run.specs.Kept.{IsBrokenOn, IsDoneOn, IsStoppedOn}
use Rattle.replay_run.proofs.Broken.{drain-broken, later-itself}
use Rattle.replay_run.proofs.Ended.{drain-cause, drain-fine, drain-short, fault-free, none-failed, over}
use Rattle.replay_run.proofs.Sent.{with_calls}
use Rattle.replay_run.proofs.turns_and_sends.drain.Goals as goal

pub returns-in-Done-clause-ran : goal.returns-in-Done-clause-ran
returns-in-Done-clause-ran g c =
    let later : IsLater g.W.Sink.written g.W.Sink.failures c.new-link.result c.drain.new.link =
    c.drain.ensures.same_link c.new-link.result (later-itself g.W.Sink.written g.W.Sink.failures c.new-link.result)
    in
    let name : sink_name c.drain.new.link ≡ sink_name c.new-link.result = later.same_sink in
    let none : failures_of c.drain.new.link ≡ 0 =
    none-failed g.W.Sink.written g.W.Sink.failures c.new-link.result c.drain.new.link c.drain.ensures.cause
    (λ e. cc) c.new-link.ensures.failures in
    λ s of_script. over g.W.Sink.written (IsDoneOn s (Drain c.args.connection.now.calls.conn) c.args.connection.now
    (with_calls c.args.connection.now c.drain.new.self) c.args.tickets.now c.drain.new.tickets)
    c.args.wire.now _ (sink_of c.new-link.result) (sink_of c.drain.new.link) c.new-link.ensures.untouched
    (search (rules, name)) (drain-fine g.W.Sink.written g.W.Sink.failures s c.args.connection.now c.drain.new.self
    c.args.tickets.now c.drain.new.tickets c.new-link.result c.drain.new.link of_script c.requires.rests
    c.drain.ensures.same (c.drain.ensures.done c.in-Done.is) c.drain.ensures.draws c.drain.ensures.handed later
    none)

pub returns-in-Done-clause-cause : goal.returns-in-Done-clause-cause
returns-in-Done-clause-cause g c =
    let later : IsLater g.W.Sink.written g.W.Sink.failures c.new-link.result c.drain.new.link =
    c.drain.ensures.same_link c.new-link.result (later-itself g.W.Sink.written g.W.Sink.failures c.new-link.result)
    in
    let name : sink_name c.drain.new.link ≡ sink_name c.new-link.result = later.same_sink in
    let none : failures_of c.drain.new.link ≡ 0 =
    none-failed g.W.Sink.written g.W.Sink.failures c.new-link.result c.drain.new.link c.drain.ensures.cause
    (λ e. cc) c.new-link.ensures.failures in
    over g.W.Sink.failures (HasCause _)
    c.args.wire.now _ (sink_of c.new-link.result) (sink_of c.drain.new.link) c.new-link.ensures.untouched
    (search (rules, name))
    (fault-free g.W.Sink.written g.W.Sink.failures (λ e. cc) c.new-link.result c.drain.new.link later none)

pub returns-in-Failed-clause-ran : goal.returns-in-Failed-clause-ran
returns-in-Failed-clause-ran g c =
    let later : IsLater g.W.Sink.written g.W.Sink.failures c.new-link.result c.drain.new.link =
    c.drain.ensures.same_link c.new-link.result (later-itself g.W.Sink.written g.W.Sink.failures c.new-link.result)
    in
    let name : sink_name c.drain.new.link ≡ sink_name c.new-link.result = later.same_sink in
    λ s of_script. over g.W.Sink.written (IsBrokenOn s (Drain c.args.connection.now.calls.conn) c.args.connection.now
    (with_calls c.args.connection.now c.drain.new.self) c.args.tickets.now c.drain.new.tickets)
    c.args.wire.now _ (sink_of c.new-link.result) (sink_of c.drain.new.link) c.new-link.ensures.untouched
    (search (rules, name)) (drain-broken g.W.Sink.written g.W.Sink.failures s c.args.connection.now c.drain.new.self
    c.args.tickets.now c.drain.new.tickets c.new-link.result c.drain.new.link of_script c.requires.rests
    c.drain.ensures.same c.new-link.ensures.failures (c.drain.ensures.failed c.in-Failed.is) c.drain.ensures.draws
    c.drain.ensures.handed)

pub returns-in-Failed-clause-cause : goal.returns-in-Failed-clause-cause
returns-in-Failed-clause-cause g c =
    let later : IsLater g.W.Sink.written g.W.Sink.failures c.new-link.result c.drain.new.link =
    c.drain.ensures.same_link c.new-link.result (later-itself g.W.Sink.written g.W.Sink.failures c.new-link.result)
    in
    let name : sink_name c.drain.new.link ≡ sink_name c.new-link.result = later.same_sink in
    over g.W.Sink.failures (HasCause _)
    c.args.wire.now _ (sink_of c.new-link.result) (sink_of c.drain.new.link) c.new-link.ensures.untouched
    (search (rules, name))
    (drain-cause g.W.Sink.written g.W.Sink.failures refl c.args.connection.now.calls c.drain.new.self
    c.new-link.result c.drain.new.link c.new-link.ensures.failures (c.drain.ensures.failed c.in-Failed.is))

pub returns-in-Memory-clause-ran : goal.returns-in-Memory-clause-ran
returns-in-Memory-clause-ran g c =
    let later : IsLater g.W.Sink.written g.W.Sink.failures c.new-link.result c.drain.new.link =
    c.drain.ensures.same_link c.new-link.result (later-itself g.W.Sink.written g.W.Sink.failures c.new-link.result)
    in
    let name : sink_name c.drain.new.link ≡ sink_name c.new-link.result = later.same_sink in
    let none : failures_of c.drain.new.link ≡ 0 =
    none-failed g.W.Sink.written g.W.Sink.failures c.new-link.result c.drain.new.link c.drain.ensures.cause
    (λ e. cc) c.new-link.ensures.failures in
    λ s of_script. over g.W.Sink.written (IsStoppedOn s (Drain c.args.connection.now.calls.conn) c.args.connection.now)
    c.args.wire.now _ (sink_of c.new-link.result) (sink_of c.drain.new.link) c.new-link.ensures.untouched
    (search (rules, name)) (drain-short g.W.Sink.written g.W.Sink.failures s c.args.connection.now c.drain.new.self
    c.new-link.result c.drain.new.link of_script c.drain.ensures.same (c.drain.ensures.memory c.in-Memory.is)
    c.drain.ensures.handed later none)

pub returns-in-Memory-clause-cause : goal.returns-in-Memory-clause-cause
returns-in-Memory-clause-cause g c =
    let later : IsLater g.W.Sink.written g.W.Sink.failures c.new-link.result c.drain.new.link =
    c.drain.ensures.same_link c.new-link.result (later-itself g.W.Sink.written g.W.Sink.failures c.new-link.result)
    in
    let name : sink_name c.drain.new.link ≡ sink_name c.new-link.result = later.same_sink in
    let none : failures_of c.drain.new.link ≡ 0 =
    none-failed g.W.Sink.written g.W.Sink.failures c.new-link.result c.drain.new.link c.drain.ensures.cause
    (λ e. cc) c.new-link.ensures.failures in
    over g.W.Sink.failures (HasCause _)
    c.args.wire.now _ (sink_of c.new-link.result) (sink_of c.drain.new.link) c.new-link.ensures.untouched
    (search (rules, name))
    (fault-free g.W.Sink.written g.W.Sink.failures (λ e. cc) c.new-link.result c.drain.new.link later none)

pub returns-in-Done-clause-tenants : goal.returns-in-Done-clause-tenants
returns-in-Done-clause-tenants g c = c.drain.ensures.draws.since c.args.tickets.now refl

pub returns-in-Failed-clause-tenants : goal.returns-in-Failed-clause-tenants
returns-in-Failed-clause-tenants g c = c.drain.ensures.draws.since c.args.tickets.now refl

pub returns-in-Memory-clause-tenants : goal.returns-in-Memory-clause-tenants
returns-in-Memory-clause-tenants g c = c.drain.ensures.draws.since c.args.tickets.now refl
