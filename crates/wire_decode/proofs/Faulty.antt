-- A fault under another relation.
use Rattle.std.proofs.Common.{ℕ}
use Rattle.wire_decode.specs.declared.fault.DecodeFault.{DecodeFault}
use Rattle.wire_decode.specs.declared.fault.DecodeFault.TheVariants.{At, Memory}
use Rattle.wire_decode.specs.declared.fault.DecodeReason.{DecodeReason}
use Rattle.wire_decode.specs.Faults.{OnDecodeFault}

pub faults_as : (P Q : DecodeReason → ℕ → Type 0) (f : DecodeFault) → OnDecodeFault P f → ((r : DecodeReason) (p : ℕ) → P r p → Q r p) → OnDecodeFault Q f
faults_as P Q Memory h to = tt
faults_as P Q (At r p) h to = to r p h
