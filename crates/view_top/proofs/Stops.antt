-- Why a view ends.
use Rattle.std.proofs.Common.{◌≡◌, ℕ, List, Result, Err, IfErr, Bor, sym, subst}
use Rattle.std.proofs.lemmas.Result.{IfErr-at_err}
use Rattle.frame_view.specs.Faults.{OnFault}
use Rattle.frame_view.specs.declared.fault.ReadFault.{ReadFault}
use Rattle.frame_view.specs.declared.fault.ReadFault.TheVariants.{At, Memory}
use Rattle.frame_view.specs.Written.{OnViewError}
use Rattle.frame_view.specs.declared.views.ViewError.{ViewError}
use Rattle.frame_view.specs.declared.views.ViewError.TheVariants.{Read, Out}

pub fault_weaker : (P Q : ℕ → List ℕ → Type 0) → ((place : ℕ) (word : List ℕ) → P place word → Q place word) → (fault : ReadFault)
    → OnFault P fault → OnFault Q fault
fault_weaker P Q more (At place word) h = more place word.now h
fault_weaker P Q more Memory h = tt

pub out_alone : (P : ℕ → List ℕ → Type 0) (stop : ViewError) → stop ≡ Out → OnViewError P stop
out_alone P stop is = subst (OnViewError P) (sym is) tt

pub stop_at : {X : Type 0} (P : ℕ → List ℕ → Type 0) (r : Result X ViewError) (stop : ViewError) (fault : ReadFault) (place : ℕ) (word : Bor (List ℕ))
    → r ≡ Err stop → stop ≡ Read fault → fault ≡ At place word → IfErr r (OnViewError P) → P place word.now
stop_at P r stop fault place word told reads is h = subst (OnFault P) is (subst (OnViewError P) reads (IfErr-at_err (OnViewError P) told h))
