-- An operation that its chain accepts fails only out of memory.
use Rattle.std.proofs.Common.{◌≢◌, refl}
use Rattle.std.specs.Prelude.{IsSomeAnd}
use Rattle.engine_core.specs.Chains.{Chain, Refusal, IsRejection, full, no_place, no_such, other_kind, taken}
use Rattle.engine_core.specs.declared.op.Op.{Op}
use Rattle.chain_upgrade.specs.Chains.{refusal_in}
use Rattle.chain_upgrade.specs.declared.fault.ChainFault.{ChainFault}
use Rattle.chain_upgrade.specs.declared.fault.ChainFault.TheVariants.{At, ChainFull, Memory, NoSuch, OtherKind, Taken}

pub no-fault : (chain : Chain) (step : Op) (fault : ChainFault) → fault ≢ Memory → (fault ≢ Memory → IsSomeAnd (refusal_in fault) (IsRejection chain step))
    → ((refusal : Refusal) → IsRejection chain step refusal → ⊥) → ⊥
no-fault chain step (NoSuch name) other refused free = free (no_such name) (refused other)
no-fault chain step (Taken name) other refused free = free (taken name) (refused other)
no-fault chain step (At position) other refused free = free (no_place position) (refused other)
no-fault chain step (ChainFull engines) other refused free = free (full engines) (refused other)
no-fault chain step (OtherKind name) other refused free = free (other_kind name) (refused other)
no-fault chain step Memory other refused free = absurd (other refl)
