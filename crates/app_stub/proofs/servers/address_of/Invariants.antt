use Rattle.std.proofs.Common.{◌≡◌, drop}
use Rattle.app_program.specs.Programs.{reply_address}
use Rattle.app_stub.proofs.servers.address_of.Given as goal

abbrev pub invariant-loop-line : goal.invariant-loop-line
invariant-loop-line l = reply_address (drop l.line-index l.line-items) ≡ reply_address l.line-items
