-- The linked files of a set are valid.
use Rattle.std.proofs.Common.{◌≡◌, ℕ, ◌<◌, List, length, sym, subst, arith}
use Rattle.std.specs.Prelude.{slice_get, Some, Contains}
use Rattle.std.proofs.lemmas.Option.{slice_get_within}
use Rattle.proto_set.specs.Bundle.{BundledFile as PackedFile}
use Rattle.proto_ast.specs.Order.{IsFormed, IsOrdered}
use Rattle.proto_ast.specs.Within.{IsWithin}
use Rattle.proto_ast.specs.declared.file.File.{File}
use Rattle.proto_schema.specs.Faults.{IsProtoTextOf}
use Rattle.proto_set.specs.Importing.{itself}
use Rattle.proto_set.specs.Reaching.{IsReach}
use Rattle.proto_set.specs.declared.set.ParsedFile.{ParsedFile}
use Rattle.proto_set.specs.declared.set.ImportClosure.{ImportClosure}
use Rattle.proto_set.specs.WellPlaced.{IsWellPlaced, AreWellPlaced}
use Rattle.proto_set.specs.declared.linked_file.LinkedFile.{LinkedFile}
use Rattle.schema_files.specs.Joined.{IsReadAs, AreReadAs, IsAtIndex, AreLinkedFiles}
use Rattle.schema_files.proofs.Lists.{some_at, held, place_of, all_held, once, zip_at, zip_length}
use Rattle.schema_files.proofs.Taken.{seen_at}

-- the laws of every file that was read
pub record AreTexts : Type 0 where
  pub formed : (t : List ℕ) (F : File) → IsProtoTextOf t F → IsFormed F
  pub ordered : (t : List ℕ) (F : File) → IsProtoTextOf t F → IsOrdered F
  pub within : (t : List ℕ) (F : File) → IsProtoTextOf t F → IsWithin (length t) F

pub part_sound : AreTexts → (files : List PackedFile) (members : List ParsedFile) (reach : ImportClosure) (ps : List LinkedFile)
    → AreReadAs files members → IsReach members reach → AreLinkedFiles files members reach ps → (k : ℕ) (p : LinkedFile)
    → slice_get ps k ≡ Some p → IsWellPlaced (length ps) k p
part_sound texts files members reach ps read reached h k p at =
    let P = h.each k p at in
    let reads : IsProtoTextOf P.packed.1 P.member.file =
    (zip_at IsReadAs files members P.i P.packed P.member read P.packed_at P.member_at).text in
    let of : IsProtoTextOf P.packed.1 p.file = subst (λ (F : File). IsProtoTextOf P.packed.1 F) (sym P.says) reads in
    let own = place_of P.seen P.i (((seen_at members reach k P.i P.seen reached P.at P.seen_at).those P.i).1 itself) in
    let same : length P.seen ≡ length p.sees = zip_length (IsAtIndex reach.order) P.seen p.sees P.sees in
    record {
      formed = texts.formed P.packed.1 p.file of;
      ordered = texts.ordered P.packed.1 p.file of;
      within = subst (λ (n : ℕ). IsWithin n p.file) (sym P.size)
          (texts.within P.packed.1 p.file of);
      itself =
          let l : own.0 < length p.sees = omega (arith, same, slice_get_within P.seen own.0 P.i own.1) in
          let y = some_at p.sees own.0 l in
          let stands : slice_get reach.order y.0 ≡ Some P.i =
          zip_at (IsAtIndex reach.order) P.seen p.sees own.0 P.i y.0 P.sees own.1 y.1 in
          let here : y.0 ≡ k = once reach.order y.0 k P.i reached.order.once stands P.at in
          subst (Contains p.sees) here (held p.sees own.0 y.0 y.1);
      there = all_held (λ j. j < length ps) p.sees (λ y c.
          let n = place_of p.sees y c in
          let l : n.0 < length P.seen = omega (arith, same, slice_get_within p.sees n.0 y n.1) in
          let x = some_at P.seen n.0 l in
          let stands : slice_get reach.order y ≡ Some x.0 =
          zip_at (IsAtIndex reach.order) P.seen p.sees n.0 x.0 y P.sees x.1 n.1 in
          omega (arith, h.count, slice_get_within reach.order y x.0 stands));
    }

pub parts_sound : AreTexts → (files : List PackedFile) (members : List ParsedFile) (reach : ImportClosure) (ps : List LinkedFile)
    → AreReadAs files members → IsReach members reach → AreLinkedFiles files members reach ps → AreWellPlaced ps
parts_sound texts files members reach ps read reached h = record {
  each = part_sound texts files members reach ps read reached h;
}
