use Rattle.std.proofs.Common.{◌<◌, ◌∙◌, ℕ, List, length, ap, sym, subst}
use Rattle.proto_ast.specs.Together.{IsFormed, IsOrdered}
use Rattle.proto_set.specs.Joining.{sizes_of}
use Rattle.proto_set.specs.Texts.{IsInTextOf}
use Rattle.proto_set.specs.declared.linked_file.LinkedFile.{LinkedFile}
use Rattle.schema_files.proofs.Standing.{found_first, if_some, not_behind, some_unless, stands_fault}
use Rattle.schema_files.proofs.resolver.resolve_linked.Goals as goal

pub resolve_together-requires-clause-formed : goal.resolve_together-requires-clause-formed
resolve_together-requires-clause-formed c =
    subst IsFormed (sym (c.files.ensures ∙ c.in_ok-union.ensures))
    (c.joined_is_ordered.ensures.formed c.args.parts.items c.requires.sound)

pub resolve_together-requires-clause-ordered : goal.resolve_together-requires-clause-ordered
resolve_together-requires-clause-ordered c =
    subst IsOrdered (sym (c.files.ensures ∙ c.in_ok-union.ensures))
    (c.joined_is_ordered.ensures.ordered c.args.parts.items c.requires.sound)

pub unwrap-place-requires : goal.unwrap-place-requires
unwrap-place-requires c =
    let ps = c.args.parts.items in
    let e = c.in-Err-At in
    let found = found_first c.files.result ps e.field-0 e.reason e.start e.field-0-2 e.line
    (c.files.ensures ∙ c.in_ok-union.ensures) e.field-0-is e.ensures.offence in
    some_unless c.file_at.result c.file_at.ensures.none
    (not_behind c.violations_have_spans.ensures c.offset_is_in_one_file.ensures.own ps e.reason e.start e.line
    c.as_slice-in-Err-At.result.now c.requires.sound found
    (c.as_slice-in-Err-At.ensures.value ∙ c.in_ok-sizes.ensures
    ∙ ap (λ (xs : List LinkedFile). sizes_of xs) c.as_slice.ensures.value))

pub returns-in-Err-At-clause-fault : goal.returns-in-Err-At-clause-fault
returns-in-Err-At-clause-fault c = λ files joins is.
    let ps = c.args.parts.items in
    let e = c.in-Err-At in
    let place = c.unwrap-place.result in
    let sizes = c.as_slice-in-Err-At.result.now in
    let found = found_first c.files.result ps e.field-0 e.reason e.start e.field-0-2 e.line
    (c.files.ensures ∙ c.in_ok-union.ensures) e.field-0-is e.ensures.offence in
    stands_fault files ps joins c.args.order.now sizes e.reason e.start e.line place is
    (c.as_slice-in-Err-At.ensures.value ∙ c.in_ok-sizes.ensures
    ∙ ap (λ (xs : List LinkedFile). sizes_of xs) c.as_slice.ensures.value) c.requires.count found
    (if_some (λ (k : ℕ). IsInTextOf sizes k e.start) c.file_at.result place c.unwrap-place.ensures
    c.file_at.ensures.found)
    (if_some (λ (k : ℕ). k < length sizes) c.file_at.result place c.unwrap-place.ensures c.file_at.ensures.there)
