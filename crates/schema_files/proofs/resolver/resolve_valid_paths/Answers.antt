use Rattle.std.proofs.Common.{◌<◌, ◌∙◌, List, length, sym, ap, subst, arith}
use Rattle.std.proofs.lemmas.Result.{err_from_is_err_and}
use Rattle.proto_set.specs.Named.{files_of}
use Rattle.proto_set.specs.Reaching.{HaveDistinctPaths}
use Rattle.proto_set.specs.declared.set.ParsedFile.{ParsedFile}
use Rattle.proto_set.specs.Joining.{joined}
use Rattle.proto_set.specs.declared.linked_file.LinkedFile.{LinkedFile}
use Rattle.schema_resolve.specs.Resolving.{AreResolvedTogether}
use Rattle.schema_files.specs.Joined.{AreReadAs}
use Rattle.schema_files.proofs.Sizes.{parts_most}
use Rattle.schema_files.proofs.Taken.{as_many, some_members}
use Rattle.schema_files.proofs.Whole.{own_paths, join_up, resolves_all, memory_only}
use Rattle.schema_files.proofs.resolver.resolve_valid_paths.Goals as goal

pub returns-in_err-members-clause-only : goal.returns-in_err-members-clause-only
returns-in_err-members-clause-only c = λ t R.
    let p = err_from_is_err_and c.from_residual.result c.from_residual.ensures.1 in
    rw (p.1, p.2)
    (memory_only c.table_or_files_fault.ensures.never_both (files_of c.args.files.now) t R
    c.in_err-members.field-0.0 c.in_err-members.ensures.fault)

pub reached-requires-clause-some : goal.reached-requires-clause-some
reached-requires-clause-some c =
    subst (λ (xs : List ParsedFile). 0 < length xs) (sym c.as_slice.ensures.value)
    (some_members c.args.files.now c.in_ok-members.members.items c.requires.some c.in_ok-members.ensures.read)

pub reached-requires-clause-few : goal.reached-requires-clause-few
reached-requires-clause-few c =
    omega (
      arith,
      c.requires.few,
      as_many c.args.files.now c.in_ok-members.members.items c.in_ok-members.ensures.read,
      ap (λ (xs : List ParsedFile). length xs) c.as_slice.ensures.value,
    )

pub reached-requires-clause-distinct : goal.reached-requires-clause-distinct
reached-requires-clause-distinct c =
    subst HaveDistinctPaths (sym c.as_slice.ensures.value)
    (own_paths (files_of c.args.files.now) c.in_ok-members.members.items c.in_ok-members.ensures.read
    c.requires.right)

pub returns-in_err-reach-clause-only : goal.returns-in_err-reach-clause-only
returns-in_err-reach-clause-only c = λ t R.
    let files = c.args.files.now in
    let p = err_from_is_err_and c.from_residual-in_err-reach.result c.from_residual-in_err-reach.ensures.1 in
    rw (p.1, p.2)
    (memory_only c.table_or_files_fault.ensures.never_both (files_of files) t R c.in_err-reach.field-0.0
    (c.in_err-reach.ensures.fault (files_of files)
    (subst (λ (ms : List ParsedFile). AreReadAs (files_of files) ms) (sym c.as_slice.ensures.value)
    c.in_ok-members.ensures.read)))

pub resolve_linked-requires-clause-small : goal.resolve_linked-requires-clause-small
resolve_linked-requires-clause-small c =
    let most = parts_most c.args.files.now c.in_ok-members.members.items c.in_ok-reach.reach c.in_ok-parts.parts.items
    c.in_ok-reach.ensures.reach.order.once c.in_ok-parts.ensures in
    omega (arith, most, c.requires.small)

pub resolve_linked-requires-clause-sound : goal.resolve_linked-requires-clause-sound
resolve_linked-requires-clause-sound c =
    let files = c.args.files.now in
    let j = join_up (files_of files) c.in_ok-members.members.items c.as_slice.result.now c.in_ok-reach.reach
    c.in_ok-parts.parts.items c.as_slice.ensures.value c.in_ok-members.ensures.read c.in_ok-reach.ensures.reach
    c.in_ok-parts.ensures in
    c.joined_is_well_placed.ensures (files_of files) c.in_ok-parts.parts.items j.joins

pub returns-clause-resolves : goal.returns-clause-resolves
returns-clause-resolves c =
    let files = c.args.files.now in
    let j = join_up (files_of files) c.in_ok-members.members.items c.as_slice.result.now c.in_ok-reach.reach
    c.in_ok-parts.parts.items c.as_slice.ensures.value c.in_ok-members.ensures.read c.in_ok-reach.ensures.reach
    c.in_ok-parts.ensures in
    resolves_all (files_of files) c.in_ok-parts.parts.items c.requires.right j.joins c.resolve_linked.result
    c.resolve_linked.ensures.resolves

pub returns-clause-only : goal.returns-clause-only
returns-clause-only c = λ t R.
    let files = c.args.files.now in
    let ps = c.in_ok-parts.parts.items in
    let j = join_up (files_of files) c.in_ok-members.members.items c.as_slice.result.now c.in_ok-reach.reach ps
    c.as_slice.ensures.value c.in_ok-members.ensures.read c.in_ok-reach.ensures.reach c.in_ok-parts.ensures in
    c.resolve_linked.ensures.only t
    (subst (λ (xs : List LinkedFile). AreResolvedTogether (joined xs) t)
    (c.join_is_unique.ensures (files_of files) R.parts ps R.joins j.joins) R.resolves)

pub returns-clause-fault : goal.returns-clause-fault
returns-clause-fault c =
    let files = c.args.files.now in
    let j = join_up (files_of files) c.in_ok-members.members.items c.as_slice.result.now c.in_ok-reach.reach
    c.in_ok-parts.parts.items c.as_slice.ensures.value c.in_ok-members.ensures.read c.in_ok-reach.ensures.reach
    c.in_ok-parts.ensures in
    c.resolve_linked.ensures.fault (files_of files) j.joins (j.order ∙ sym c.as_slice-2.ensures)
