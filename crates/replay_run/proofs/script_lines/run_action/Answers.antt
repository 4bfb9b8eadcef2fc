use Rattle.std.proofs.Common.{◌≡◌, inl, inr, refl, sym, ap, ◌∙◌, subst}
use Rattle.replay_script.specs.Lines.{conn_of, op_in}
use Rattle.replay_script.specs.declared.script.ScriptLine.TheVariants as line
use Rattle.replay_run.proofs.Arms.{IsOperating, change-ran, done-at, may-operate, no-wire, operating-quiet, race-ran, ran-at, store-ran}
use Rattle.replay_run.proofs.Quiet.{IsQuiet}
use Rattle.replay_run.proofs.Ran.{cause-none}
use Rattle.replay_run.proofs.script_lines.run_action.Goals as goal

-- ---- stores and races

pub returns-in-Store-clause-ran : goal.returns-in-Store-clause-ran
returns-in-Store-clause-ran g c =
    let is : c.args.line.now ≡ line.Store c.args.connection.now.calls.conn c.in-Store.place c.in-Store.value =
    c.in-Store.is ∙ ap (λ n. line.Store n c.in-Store.place c.in-Store.value) (sym (ap conn_of c.in-Store.is) ∙ c.requires.on) in
    store-ran c.args.script.now c.args.line.now c.args.connection.now c.args.tickets.now _ c.store.new.heap c.in-Store.place c.in-Store.value c.store.result _ is
    c.requires.ready.rests c.store.ensures.stored c.store.ensures.memory

pub returns-in-Store-clause-cause : goal.returns-in-Store-clause-cause
returns-in-Store-clause-cause g c = cause-none _ _ (no-wire c.store.result c.store.ensures.memory) refl

pub returns-in-Race-clause-ran : goal.returns-in-Race-clause-ran
returns-in-Race-clause-ran g c =
    let is : c.args.line.now ≡ line.Race c.args.connection.now.calls.conn c.in-Race.load c.in-Race.place c.in-Race.value =
    c.in-Race.is ∙ ap (λ n. line.Race n c.in-Race.load c.in-Race.place c.in-Race.value) (sym (ap conn_of c.in-Race.is) ∙ c.requires.on) in
    race-ran c.args.script.now c.args.line.now c.args.connection.now c.args.tickets.now _ c.queue_race.new.heap c.in-Race.load c.in-Race.place c.in-Race.value c.queue_race.result _ is
    c.requires.ready.rests c.queue_race.ensures.listed c.queue_race.ensures.memory

pub returns-in-Race-clause-cause : goal.returns-in-Race-clause-cause
returns-in-Race-clause-cause g c = cause-none _ _ (no-wire c.queue_race.result c.queue_race.ensures.memory) refl

-- ---- changes of a connection

pub returns-in-Submit-clause-ran : goal.returns-in-Submit-clause-ran
returns-in-Submit-clause-ran g c =
    let is : c.args.line.now ≡ line.Submit c.args.connection.now.calls.conn c.in-Submit.method c.in-Submit.number c.in-Submit.addr =
    c.in-Submit.is ∙ ap (λ n. line.Submit n c.in-Submit.method c.in-Submit.number c.in-Submit.addr) (sym (ap conn_of c.in-Submit.is) ∙ c.requires.on) in
    change-ran c.args.script.now c.args.line.now c.args.connection.now c.args.tickets.now _ c.submit.new.connection c.submit.result _
    (λ s l. l ≡ line.Submit c.args.connection.now.calls.conn c.in-Submit.method c.in-Submit.number c.in-Submit.addr)
    (subst IsQuiet (sym is) tt) c.requires.ready.of_script is c.submit.ensures.does c.submit.ensures.keeps c.submit.ensures.memory

pub returns-in-Submit-clause-cause : goal.returns-in-Submit-clause-cause
returns-in-Submit-clause-cause g c = cause-none _ _ (no-wire c.submit.result c.submit.ensures.memory) refl

pub operate_by-requires-clause-may : goal.operate_by-requires-clause-may
operate_by-requires-clause-may g c =
    let kind : IsOperating c.args.line.now = elim (c.in-Attach.is) [
      | inl p ↦ subst IsOperating (sym p.4) tt
      | inr (inl p) ↦ subst IsOperating (sym p.2) tt
      | inr (inr p) ↦ subst IsOperating (sym p.3) tt
    ] in
    may-operate c.args.script.now c.args.line.now c.args.connection.now kind c.requires.may

pub returns-in-Attach-clause-ran : goal.returns-in-Attach-clause-ran
returns-in-Attach-clause-ran g c =
    let kind : IsOperating c.args.line.now = elim (c.in-Attach.is) [
      | inl p ↦ subst IsOperating (sym p.4) tt
      | inr (inl p) ↦ subst IsOperating (sym p.2) tt
      | inr (inr p) ↦ subst IsOperating (sym p.3) tt
    ] in
    change-ran c.args.script.now c.args.line.now c.args.connection.now c.args.tickets.now _ c.operate_by.new.connection c.operate_by.result _
    (λ s l. op_in s.declared.policies l ≡ op_in c.args.script.now.declared.policies c.args.line.now)
    (operating-quiet c.args.line.now kind) c.requires.ready.of_script refl c.operate_by.ensures.does c.operate_by.ensures.keeps c.operate_by.ensures.memory

pub returns-in-Attach-clause-cause : goal.returns-in-Attach-clause-cause
returns-in-Attach-clause-cause g c = cause-none _ _ (no-wire c.operate_by.result c.operate_by.ensures.memory) refl

pub returns-in-Moment-clause-ran : goal.returns-in-Moment-clause-ran
returns-in-Moment-clause-ran g c =
    let is : c.args.line.now ≡ line.Moment c.args.connection.now.calls.conn c.in-Moment.ms =
    c.in-Moment.is ∙ ap (λ n. line.Moment n c.in-Moment.ms) (sym (ap conn_of c.in-Moment.is) ∙ c.requires.on) in
    change-ran c.args.script.now c.args.line.now c.args.connection.now c.args.tickets.now _ c.advance_clock.new.connection c.advance_clock.result _
    (λ s l. l ≡ line.Moment c.args.connection.now.calls.conn c.in-Moment.ms)
    (subst IsQuiet (sym is) tt) c.requires.ready.of_script is c.advance_clock.ensures.does c.advance_clock.ensures.keeps c.advance_clock.ensures.memory

pub returns-in-Moment-clause-cause : goal.returns-in-Moment-clause-cause
returns-in-Moment-clause-cause g c = cause-none _ _ (no-wire c.advance_clock.result c.advance_clock.ensures.memory) refl

-- ---- turns, sends, drains

pub returns-in-Turn-clause-ran : goal.returns-in-Turn-clause-ran
returns-in-Turn-clause-ran g c =
    let is : c.args.line.now ≡ line.Turn c.args.connection.now.calls.conn c.in-Turn.at =
    c.in-Turn.is ∙ ap (λ n. line.Turn n c.in-Turn.at) (sym (ap conn_of c.in-Turn.is) ∙ c.requires.on) in
    done-at c.args.script.now c.args.line.now (line.Turn c.args.connection.now.calls.conn c.in-Turn.at) c.args.connection.now c.turn.new.connection c.args.tickets.now c.turn.new.tickets _ _
    is (c.turn.ensures (g.W.Sink.written c.args.wire.now) c.args.script.now c.requires.ready.of_script)

pub returns-in-Turn-clause-cause : goal.returns-in-Turn-clause-cause
returns-in-Turn-clause-cause g c = cause-none _ _ (λ e. cc) refl

pub returns-in-Turn-clause-tenants : goal.returns-in-Turn-clause-tenants
returns-in-Turn-clause-tenants g c = (c.turn.ensures (g.W.Sink.written c.args.wire.now) c.args.script.now c.requires.ready.of_script).draws.same

pub returns-in-Send-clause-ran : goal.returns-in-Send-clause-ran
returns-in-Send-clause-ran g c =
    let is : c.args.line.now ≡ line.Send c.args.connection.now.calls.conn = c.in-Send.is ∙ ap line.Send (sym (ap conn_of c.in-Send.is) ∙ c.requires.on) in
    ran-at c.args.script.now c.args.line.now line.Send c.args.connection.now c.send.new.connection c.args.tickets.now c.args.tickets.now (g.W.Sink.written c.args.wire.now)
    (g.W.Sink.written c.send.new.wire) c.send.result c.requires.ready.of_script is (c.send.ensures.ran c.args.tickets.now)

pub returns-in-Drain-clause-ran : goal.returns-in-Drain-clause-ran
returns-in-Drain-clause-ran g c =
    let is : c.args.line.now ≡ line.Drain c.args.connection.now.calls.conn = c.in-Drain.is ∙ ap line.Drain (sym (ap conn_of c.in-Drain.is) ∙ c.requires.on) in
    ran-at c.args.script.now c.args.line.now line.Drain c.args.connection.now c.drain.new.connection c.args.tickets.now c.drain.new.tickets (g.W.Sink.written c.args.wire.now)
    (g.W.Sink.written c.drain.new.wire) c.drain.result c.requires.ready.of_script is c.drain.ensures.ran
