-- The results that bytes with a meaning cannot have.
use Rattle.std.proofs.Common.{◌≡◌, ℕ, List, refl}
use Rattle.mrpc_table.specs.Node.{Node}
use Rattle.mrpc_table.specs.declared.table.Table.{Table}
use Rattle.wire_decode.specs.declared.fault.DecodeFault.{DecodeFault}
use Rattle.wire_decode.specs.declared.fault.DecodeFault.TheVariants.{At, Memory}
use Rattle.wire_decode.specs.declared.fault.DecodeReason.{DecodeReason}
use Rattle.wire_decode.specs.MergedMessage.{IsMergedMessage}
use Rattle.wire_decode.specs.FaultWalk.{IsFaultReached}
use Rattle.wire_decode.specs.Faults.{OnDecodeFault}
use Rattle.mrpc_table.specs.Normal.{fields_of}

-- bytes don't have both
abbrev pub NotBoth : Type 0
NotBoth = (T : Table) (msg : ℕ) (bytes : List ℕ) (t : Node) (reason : DecodeReason) (place : ℕ) → IsMergedMessage T msg bytes t → IsFaultReached T 31 (fields_of T msg) bytes 0 reason place → ⊥

pub only-memory : NotBoth → (T : Table) (msg : ℕ) (bytes : List ℕ) (t : Node) (f : DecodeFault) → IsMergedMessage T msg bytes t
    → OnDecodeFault (IsFaultReached T 31 (fields_of T msg) bytes 0) f → f ≡ Memory
only-memory not_both T msg bytes t Memory m h = refl
only-memory not_both T msg bytes t (At reason place) m h = absurd (not_both T msg bytes t reason place m h)
