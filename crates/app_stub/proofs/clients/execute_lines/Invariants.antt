use Rattle.std.proofs.Common.{◌≡◌, take, map}
use Rattle.app_program.specs.Programs.{program_stores, program_submits, program_reclaims}
use Rattle.app_stub.specs.Serving.{submission_of}
use Rattle.app_stub.proofs.clients.execute_lines.Given as goal

abbrev pub invariant-loop-line : goal.invariant-loop-line
invariant-loop-line g l =
    (l.writer.heap ≡ l.initial.writer.heap) × (l.outgoing.sender.heap ≡ l.initial.outgoing.sender.heap)
    × (l.outgoing.sender.ring ≡ l.initial.outgoing.sender.ring)
    × (l.outgoing.reclaims.ring ≡ l.initial.outgoing.reclaims.ring)
    × (l.writer.stores ≡ program_stores (take l.line-index l.line-items))
    × (map submission_of l.outgoing.sender.sent ≡ program_submits 0 (take l.line-index l.line-items))
    × (l.outgoing.reclaims.sent ≡ program_reclaims (take l.line-index l.line-items))
