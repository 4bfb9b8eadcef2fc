-- One of several operations that change a chain.
use Rattle.std.proofs.Common.{◌≡◌, List, [], ◌∷◌, ◌++◌, map, Option, Some, refl}
use Rattle.engine_core.specs.Chains.{Chain, HasChanged}
use Rattle.engine_core.specs.declared.op.Op.{Op}
use Rattle.run_plan.specs.Chains.{IsChangedBy}
use Rattle.run_plan.specs.declared.operator.StepLine.{StepLine}

pub middle : (f : StepLine → Option Op) (front back : List StepLine) (line : StepLine) (ops : List Op) (start end : Chain)
    → map f (front ++ line ∷ back) ≡ map Some ops → IsChangedBy start ops end
    → (done : List Op) × (op : Op) × (before after : Chain) × (map f front ≡ map Some done) × (f line ≡ Some op)
    × IsChangedBy start done before × HasChanged before op after
middle f [] back line [] start end same change = absurd cc
middle f [] back line (op ∷ ops) start end same change = ([], op, start, change.0, refl, cc, refl, change.1)
middle f (x ∷ front) back line [] start end same change = absurd cc
middle f (x ∷ front) back line (op ∷ ops) start end same change =
    let behind : map f (front ++ line ∷ back) ≡ map Some ops = cc in
    let rest = middle f front back line ops change.0 end behind change.2 in
    let first : f x ≡ Some op = cc in
    let fronts : map f front ≡ map Some rest.0 = rest.4 in
    (op ∷ rest.0, rest.1, rest.2, rest.3, cc, rest.5, (change.0, change.1, rest.6), rest.7)
