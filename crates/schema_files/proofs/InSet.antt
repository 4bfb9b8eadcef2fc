-- The first fault of a set is in one of its files.
use Rattle.std.proofs.Common.{◌≡◌, ℕ, ◌<◌, List, length, sym, ◌∙◌, subst, arith}
use Rattle.std.proofs.lemmas.Option.{slice_get_within, same_Some}
use Rattle.proto_set.specs.Bundle.{BundledFile as PackedFile}
use Rattle.schema_files.specs.Joined.{IsReadAs}
use Rattle.schema_files.specs.Resolving.{HasFilesFault, unread, import_at_fault, unresolved}
use Rattle.schema_files.specs.declared.fault.FilesReason.{FilesReason}
use Rattle.schema_files.proofs.Lists.{some_at, zip_length}

pub fault_within : (files : List PackedFile) (file line : ℕ) (q : FilesReason) → HasFilesFault files file line q
    → file < length files
fault_within files file line q (unread f r s at h before e) = slice_get_within files file f at
fault_within files file line q (import_at_fault members r s read h e) =
    omega (
      arith,
      zip_length IsReadAs files members read,
      slice_get_within members file h.import_at.member h.import_at.member_at,
    )
fault_within files file line q (unresolved ps r s k joins first in_text at e) =
    let l : k < length ps = omega (arith, joins.parts.count, slice_get_within joins.reach.order k file at) in
    let p = some_at ps k l in
    let part = joins.parts.each k p.0 p.1 in
    let same : part.i ≡ file = same_Some part.i file (sym part.at ∙ at) in
    subst (λ (i : ℕ). i < length files) same (slice_get_within files part.i part.packed part.packed_at)
