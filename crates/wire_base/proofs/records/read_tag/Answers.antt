use Rattle.std.proofs.Common.{◌%◌, ◌/◌, ◌≢◌, refl, arith, ⊎_elim}
use Rattle.wire_base.specs.Records.{IsWireType, tag_range, number_zero, wire_type}
use Rattle.wire_base.proofs.records.read_tag.Goals as goal

pub returns-then-tag-clause-fault : goal.returns-then-tag-clause-fault
returns-then-tag-clause-fault c = tag_range c.in_ok-tag.tag c.in_ok-tag.start refl refl c.in_ok-tag.ensures.found c.if-tag.true

pub returns-then-tag-lt8-clause-fault : goal.returns-then-tag-lt8-clause-fault
returns-then-tag-lt8-clause-fault c = number_zero c.in_ok-tag.tag c.in_ok-tag.start refl refl c.in_ok-tag.ensures.found c.if-tag.false (omega arith)

pub returns-in_default-clause-fault : goal.returns-in_default-clause-fault
returns-in_default-clause-fault c =
    let tag = c.in_ok-tag.tag in
    let numbered : tag / 8 ≢ 0 = omega arith in
    let unknown : IsWireType (tag % 8) → ⊥ = λ h. ⊎_elim (λ e. omega (arith, e)) (⊎_elim (λ e. omega (arith, e)) (⊎_elim (λ e. omega (arith, e)) (λ e. omega (arith, e)))) h in
    wire_type tag c.in_ok-tag.start refl refl (record { stands = c.in_ok-tag.ensures.found; small = c.if-tag.false; numbered = numbered }) unknown
