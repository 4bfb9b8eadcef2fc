-- Properties of faults.
use Rattle.std.proofs.Common.{ℕ, List}
use Rattle.frame_view.specs.Faults.{OnFault}
use Rattle.frame_view.specs.declared.fault.ReadFault.{ReadFault}
use Rattle.frame_view.specs.declared.fault.ReadFault.TheVariants.{At, Memory}

-- what follows from a property of a fault, holds for it
pub on_fault : (P Q : ℕ → List ℕ → Type 0) (fault : ReadFault) → ((place : ℕ) (word : List ℕ) → P place word → Q place word) → OnFault P fault → OnFault Q fault
on_fault P Q (At place word) then h = then place word.now h
on_fault P Q Memory then h = tt
