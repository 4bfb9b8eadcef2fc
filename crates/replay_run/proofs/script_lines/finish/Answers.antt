use Rattle.std.proofs.Common.{◌≡◌, List, OnErr, map, refl, subst}
use Rattle.replay_run.specs.Kept.{IsPrefixWritten, open_connection_of}
use Rattle.replay_run.specs.PendingLines.{all_stands_lines}
use Rattle.replay_run.specs.declared.connection.RunConnection.{RunConnection}
use Rattle.replay_run.proofs.Counted.{below-none}
use Rattle.replay_run.proofs.script_lines.finish.Goals as goal

pub loop-tenant-init : goal.loop-tenant-init
loop-tenant-init g c = record { same = refl; counted = below-none c.args.run.now.tickets }

pub returns-clause-front : goal.returns-clause-front
returns-clause-front g c =
    let same : c.deref.result.now ≡ c.args.run.now.connections.items = cc in
    subst (λ (cs : List RunConnection). OnErr c.write_pending_calls.result (IsPrefixWritten (g.K.Sink.written c.args.out.now) (g.K.Sink.written c.write_pending_calls.new.out) (all_stands_lines (map open_connection_of cs))))
    same c.write_pending_calls.ensures.front
