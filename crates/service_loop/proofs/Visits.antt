-- The outcome of the rounds of a visit.
use Rattle.std.proofs.Common.{◌≡◌, ◌≢◌, ◌↔◌, Bool, true, false, sym, ◌∙◌}
use Rattle.service_loop.specs.declared.visit_summary.VisitOutcome.{VisitOutcome}
use Rattle.service_loop.specs.declared.visit_summary.VisitOutcome.TheVariants.{Busy, Memory}
use Rattle.service_loop.proofs.Cases.{untrue}

-- it didn't run out of memory
pub not-memory : (memory : Bool) (x : VisitOutcome) → ((memory ≡ true) ↔ (x ≡ Memory)) → memory ≡ false → x ≢ Memory
not-memory memory x wanting has is = let wrong : true ≡ false = sym (wanting.1 is) ∙ has in absurd cc

pub busy-has : (memory : Bool) (x : VisitOutcome) → ((memory ≡ true) ↔ (x ≡ Memory)) → x ≡ Busy → memory ≡ false
busy-has memory x wanting busy =
    untrue memory (λ is. absurd (let wrong : Busy ≡ Memory = sym busy ∙ wanting.0 is in cc))

pub busy-not : (x : VisitOutcome) → x ≡ Busy → x ≢ Memory
busy-not x busy is = let wrong : Busy ≡ Memory = sym busy ∙ is in absurd cc
