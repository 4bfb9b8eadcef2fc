use Rattle.std.proofs.Common.{sym, subst}
use Rattle.proto_ast.specs.declared.file.FieldType.{FieldType}
use Rattle.schema_validation.specs.declared.first.FirstViolation.{FirstViolation}
use Rattle.schema_validation.specs.Members.{IsMisplacedMap, IsNoType, IsKeyViolation, IsTypeViolation}
use Rattle.schema_validation.specs.Recording.{HasRecorded}
use Rattle.schema_validation.specs.declared.reason.ResolveReason.TheVariants.{MapPlace}
use Rattle.schema_validation.proofs.Meetings.{meets_then, meets_as, meets_when}
use Rattle.schema_validation.proofs.Typed.{KindOffends, type_to, type_from}
use Rattle.schema_validation.proofs.messages.note_types.Goals as goal
use Rattle.schema_validation.proofs.messages.note_types.Goals.{in-Named, in-Map, in-NestedMap}

pub returns : goal.returns
returns c scope h =
    let f = c.args.field.now in
    let F = c.args.scopes.now in
    let file = c.args.file in
    let kind : HasRecorded (KindOffends F file scope f.kind) c.args.first.now c.match-field.first =
    elim c.match-field.branch [
      | in-Named w ↦
          subst (λ (b : FirstViolation). HasRecorded (KindOffends F file scope f.kind) c.args.first.now b) (sym w.first-is)
          (subst (λ (k : FieldType). HasRecorded (KindOffends F file scope k) c.args.first.now w.note_type.new.first)
          (sym w.in-Named.is)
          (w.note_type.ensures scope h))
      | in-Map w ↦
          subst (λ (b : FirstViolation). HasRecorded (KindOffends F file scope f.kind) c.args.first.now b) (sym w.first-is)
          (subst (λ (k : FieldType). HasRecorded (KindOffends F file scope k) c.args.first.now w.note_type-in-Map.new.first)
          (sym w.in-Map.is)
          (meets_then (IsKeyViolation F file scope w.in-Map.key) (IsNoType F file scope w.in-Map.value) c.args.first.now
          w.note_key.new.first
          w.note_type-in-Map.new.first (w.note_key.ensures scope h) (w.note_type-in-Map.ensures scope h)))
      | in-NestedMap w ↦
          subst (λ (b : FirstViolation). HasRecorded (KindOffends F file scope f.kind) c.args.first.now b) (sym w.first-is)
          (subst (λ (k : FieldType). HasRecorded (KindOffends F file scope k) c.args.first.now w.note_key-in-NestedMap.new.first)
          (sym w.in-NestedMap.is)
          (w.note_key-in-NestedMap.ensures scope h))
    ] in
    meets_as _ (IsTypeViolation F file scope f) c.args.first.now c.note_if.new.self
    (meets_then _ _ _ _ _ kind
    (meets_when (IsMisplacedMap f) c.is_misplaced_map.result MapPlace f.name.span c.match-field.first c.note_if.new.self
    c.is_misplaced_map.ensures.0 c.is_misplaced_map.ensures.1 c.note_if.ensures))
    (type_to F file scope f) (type_from F file scope f)
