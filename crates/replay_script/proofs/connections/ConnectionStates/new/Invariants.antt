use Rattle.std.proofs.Common.{◌≡◌, All, length}
use Rattle.replay_script.specs.Keeping.{IsClosedConnection}
use Rattle.replay_script.proofs.connections.ConnectionStates.new.Given as goal

abbrev pub invariant-loop : goal.invariant-loop
invariant-loop l = (length l.connections.items ≡ l.counter) × All IsClosedConnection l.connections.items
