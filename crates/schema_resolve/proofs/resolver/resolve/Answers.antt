use Rattle.std.proofs.Common.{◌≡◌, ◌∙◌, sym, subst}
use Rattle.proto_ast.specs.Joined.{Joined, alone}
use Rattle.proto_ast.specs.Together.{IsFormed, IsOrdered}
use Rattle.schema_validation.specs.Violations.{offends}
use Rattle.schema_resolve.specs.Tables.{IsTableOf}
use Rattle.schema_resolve.specs.Resolving.{HasNoViolation}
use Rattle.schema_resolve.proofs.Answering.{stands_behind, is_alone}
use Rattle.schema_resolve.proofs.resolver.resolve.Goals as goal

pub new-requires : goal.new-requires
new-requires c =
    let F = c.args.file.now in
    let same : c.new-files.result ≡ alone F =
    is_alone F c.new-files.result _ _ _ _ c.new-files.ensures (c.as_slice.ensures ∙ c.in_ok-heads.ensures)
    c.as_slice-2.ensures c.as_slice-3.ensures c.as_slice-4.ensures in
    stands_behind c.new-files.result
    (subst IsFormed (sym same) c.requires.formed)

pub first_violation-requires-clause-formed : goal.first_violation-requires-clause-formed
first_violation-requires-clause-formed c =
    let F = c.args.file.now in
    let same : c.new-files.result ≡ alone F =
    is_alone F c.new-files.result _ _ _ _ c.new-files.ensures (c.as_slice.ensures ∙ c.in_ok-heads.ensures)
    c.as_slice-2.ensures c.as_slice-3.ensures c.as_slice-4.ensures in
    subst IsFormed (sym same) c.requires.formed

pub first_violation-requires-clause-ordered : goal.first_violation-requires-clause-ordered
first_violation-requires-clause-ordered c =
    let F = c.args.file.now in
    let same : c.new-files.result ≡ alone F =
    is_alone F c.new-files.result _ _ _ _ c.new-files.ensures (c.as_slice.ensures ∙ c.in_ok-heads.ensures)
    c.as_slice-2.ensures c.as_slice-3.ensures c.as_slice-4.ensures in
    subst IsOrdered (sym same) c.requires.ordered

pub table_of-requires-clause-formed : goal.table_of-requires-clause-formed
table_of-requires-clause-formed c =
    let F = c.args.file.now in
    let same : c.new-files.result ≡ alone F =
    is_alone F c.new-files.result _ _ _ _ c.new-files.ensures (c.as_slice.ensures ∙ c.in_ok-heads.ensures)
    c.as_slice-2.ensures c.as_slice-3.ensures c.as_slice-4.ensures in
    subst IsFormed (sym same) c.requires.formed

pub table_of-requires-clause-ordered : goal.table_of-requires-clause-ordered
table_of-requires-clause-ordered c =
    let F = c.args.file.now in
    let same : c.new-files.result ≡ alone F =
    is_alone F c.new-files.result _ _ _ _ c.new-files.ensures (c.as_slice.ensures ∙ c.in_ok-heads.ensures)
    c.as_slice-2.ensures c.as_slice-3.ensures c.as_slice-4.ensures in
    subst IsOrdered (sym same) c.requires.ordered

pub table_of-requires-clause-clean : goal.table_of-requires-clause-clean
table_of-requires-clause-clean c =
    let F = c.args.file.now in
    let same : c.new-files.result ≡ alone F =
    is_alone F c.new-files.result _ _ _ _ c.new-files.ensures (c.as_slice.ensures ∙ c.in_ok-heads.ensures)
    c.as_slice-2.ensures c.as_slice-3.ensures c.as_slice-4.ensures in
    subst HasNoViolation (sym same) (λ q s o. c.in-None.ensures q s (offends o))

pub returns-in-Some-clause-only : goal.returns-in-Some-clause-only
returns-in-Some-clause-only c = λ t r.
    absurd (r.clean c.in-Some.offence.reason c.in-Some.offence.span c.in-Some.ensures.offence)

pub returns-clause-only : goal.returns-clause-only
returns-clause-only c = λ t r.
    let F = c.args.file.now in
    let same : c.new-files.result ≡ alone F =
    is_alone F c.new-files.result _ _ _ _ c.new-files.ensures (c.as_slice.ensures ∙ c.in_ok-heads.ensures)
    c.as_slice-2.ensures c.as_slice-3.ensures c.as_slice-4.ensures in
    let u = c.in_ok-table_of-in-None.field-0 in
    let P : Joined → Type 0 = λ J. IsTableOf J u in
    c.resolved_table_is_unique.ensures (alone F) u t c.requires.ordered
    (subst P same c.in_ok-table_of-in-None.ensures) r.table
