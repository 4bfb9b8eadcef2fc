-- A short history leaves room in all numbers.
use Rattle.std.proofs.Common.{◌+◌, ◌<◌, ◌≤◌, ◌^◌, length, arith}
use Rattle.std.specs.Prelude.{All}
use Rattle.std.proofs.lemmas.List.Elements.{All-weaker}
use Rattle.engine_core.specs.Engines.{EngineParts}
use Rattle.call_history.specs.Trace.{taken}
use Rattle.conn_core.specs.Connections.{Connection, conn_trace}
use Rattle.tests_calls.specs.Connection.{HasCounterRoom}

pub young : (c : Connection) → length (taken (conn_trace c)) ≤ length c.happenings
    → c.chain.attached ≤ length c.happenings
    → All (λ e. e.entry.version ≤ length c.happenings) c.chain.engines
    → length c.happenings < 1000 → HasCounterRoom c
young c calls attachments versions few = record {
  calls = omega (arith, few, calls);
  attachments = omega (arith, few, attachments);
  versions = All-weaker (λ (e : EngineParts). e.entry.version ≤ length c.happenings)
      (λ (e : EngineParts). e.entry.version + 1 < 2 ^ 32)
      (λ e version. omega (arith, few, version)) c.chain.engines versions;
}
