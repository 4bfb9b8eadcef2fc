use Rattle.std.proofs.Common.{◌≡◌, Bool, cond, refl, subst, ap, ◌∙◌}
use Rattle.std.specs.Prelude.{Some, not}
use Rattle.mrpc_table.specs.Names.{is_short_full}
use Rattle.schema_validation.specs.Recording.{first_violation_of}
use Rattle.schema_validation.specs.declared.reason.ResolveReason.TheVariants.{Limit}
use Rattle.schema_validation.proofs.Serving.{meets_package, meets_no_package}
use Rattle.schema_validation.proofs.services.note_package.Goals as goal

pub returns-in-Some : goal.returns-in-Some
returns-in-Some c =
    let w = c.in-Some.package in
    let found : c.note_if.new.self.found
    ≡ cond (not (is_short_full w.name))
    (Some (first_violation_of c.args.first.now.found (record { reason = Limit; span = w.span }))) c.args.first.now.found =
    subst (λ (b : Bool). c.note_if.new.self.found
    ≡ cond (not b) (Some (first_violation_of c.args.first.now.found (record { reason = Limit; span = w.span })))
    c.args.first.now.found)
    (c.is_short_full-long.ensures ∙ ap is_short_full c.as_slice.ensures) c.note_if.ensures in
    meets_package c.args.head.now w c.args.first.now c.note_if.new.self c.in-Some.is found

pub returns-in_default : goal.returns-in_default
returns-in_default c = meets_no_package c.args.head.now c.args.first.now c.args.first.now c.in_default.is refl
