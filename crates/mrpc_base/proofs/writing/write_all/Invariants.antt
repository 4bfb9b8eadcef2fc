use Rattle.std.proofs.Common.{◌≡◌, ◌≤◌, ◌-◌, ℕ, List, Option, length, take}
use Rattle.std.specs.Io.KnownBytes.{Appends}
use Rattle.mrpc_base.proofs.writing.write_all.Given as goal

-- this many of the bytes were written
pub record IsWritten {K : Type 0} (written : K → Option (List ℕ)) (failures : K → ℕ) (old new : K) (bytes : List ℕ) (done : ℕ) : Type 0 where
  pub within : done ≤ length bytes
  pub front : Appends (written old) (written new) (take done bytes)
  pub no_fault : failures new ≡ failures old
  pub untouched : done ≡ 0 → new ≡ old

abbrev pub invariant-loop-done : goal.invariant-loop-done
invariant-loop-done g l = IsWritten g.K.Sink.written g.K.Sink.failures l.fn.out l.out l.bytes l.done

abbrev pub decreases-loop-done : goal.decreases-loop-done
decreases-loop-done g l = length l.bytes - l.done
