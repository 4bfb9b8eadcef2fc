use Rattle.std.proofs.Common.{arith}
use Rattle.app_stub.proofs.Parting.{place_in_heap, slices_apart}
use Rattle.app_stub.proofs.slices.slices_suffice.Goals as goal

pub returns-clause-in_heap : goal.returns-clause-in_heap
returns-clause-in_heap c = place_in_heap

pub returns-clause-apart : goal.returns-clause-apart
returns-clause-apart c = slices_apart

pub returns-clause-unused : goal.returns-clause-unused
returns-clause-unused c = λ heap ring sent taken k place waits copied before one other.
    slices_apart heap ring k sent place before (omega (arith, waits, copied)) one other
