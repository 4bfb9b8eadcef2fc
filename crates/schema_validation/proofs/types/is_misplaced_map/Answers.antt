-- A map may only have the label `Plain`, and be in no oneof.
use Rattle.std.proofs.Common.{refl, sym, ◌∙◌}
use Rattle.schema_validation.specs.Members
use Rattle.schema_validation.proofs.FieldForms.{is_plain, isnt_plain, misplaced_in_oneof, in_some_oneof}
use Rattle.schema_validation.proofs.types.is_misplaced_map.Goals as goal

pub returns-then-ne : goal.returns-then-ne
returns-then-ne c = (
  λ t. Members.labelled c.in-Map.key c.in-Map.value c.in-Map.is
      (isnt_plain c.args.field.now.label (sym c.ne.ensures ∙ c.if-ne.true)),
  λ m. c.if-ne.true,
)

pub returns-else-ne : goal.returns-else-ne
returns-else-ne c =
    let plain = is_plain c.args.field.now.label (sym c.ne.ensures ∙ c.if-ne.false) in (
      λ t. misplaced_in_oneof c.args.field.now c.in-Map.key c.in-Map.value c.in-Map.is (sym c.is_some.ensures ∙ t),
      λ m. c.is_some.ensures ∙ in_some_oneof c.args.field.now c.in-Map.key c.in-Map.value c.in-Map.is plain m,
    )

pub returns-in-NestedMap : goal.returns-in-NestedMap
returns-in-NestedMap c = (λ t. Members.nested c.in-NestedMap.key c.in-NestedMap.is, λ m. refl)
