use Rattle.std.proofs.Common.{◌≡◌, ◌<◌, ℕ, length, ap, arith, refl, sym, subst}
use Rattle.std.specs.Prelude.{Some, slice_get}
use Rattle.proto_ast.specs.declared.file.EnumDecl.{EnumDecl}
use Rattle.proto_ast.specs.Joined.{enclosing_of_enum}
use Rattle.proto_ast.specs.declared.joined.Enclosing.{Enclosing}
use Rattle.schema_validation.specs.Recording.{HasRecorded}
use Rattle.schema_validation.specs.Lengths.{IsLongName, IsKeptHome}
use Rattle.schema_validation.proofs.Meetings.{meets_next, meets_elements, item_at}
use Rattle.schema_validation.proofs.FullLengths.{enum_home_kept}
use Rattle.schema_validation.proofs.lines.Lengths.note_enums.Goals as goal

pub loop-i-preserved : goal.loop-i-preserved
loop-i-preserved c =
    let xs = c.args.files.now.enums in
    let l : c.loop-i.i < length xs = omega (arith, ap length c.enums-all.ensures, c.loop-i-test.true) in
    let at : slice_get xs c.loop-i.i ≡ Some c.index-all-i.result =
    item_at c.enums-all.result.now xs c.loop-i.i c.index-all-i.result c.enums-all.ensures l c.index-all-i.is in
    meets_next xs (λ (i : ℕ) (e : EnumDecl). IsLongName c.args.self.now (enclosing_of_enum e) e.name) c.loop-i.i
    c.index-all-i.result c.args.first.now c.loop-i.first c.note_full.new.first at c.loop-i.invariant
    (subst (λ (h : Enclosing). HasRecorded (IsLongName c.args.self.now h c.index-all-i.result.name) c.loop-i.first
    c.note_full.new.first) c.enclosing.ensures c.note_full.ensures)

pub returns : goal.returns
returns c =
    let xs = c.args.files.now.enums in
    let e : c.loop-i.i ≡ length xs =
    omega (arith, ap length c.enums-all.ensures, c.loop-i-test.false, c.loop-i.auto.i-end) in
    meets_elements xs (λ (i : ℕ) (e : EnumDecl). IsLongName c.args.self.now (enclosing_of_enum e) e.name) c.loop-i.i
    c.args.first.now c.loop-i.first e c.loop-i.invariant

pub note_full-requires : goal.note_full-requires
note_full-requires c =
    let F = c.args.files.now in
    let x = c.index-all-i.result in
    let l : c.loop-i.i < length F.enums = omega (arith, ap length c.enums-all.ensures, c.loop-i-test.true) in
    let at : slice_get F.enums c.loop-i.i ≡ Some x =
    item_at c.enums-all.result.now F.enums c.loop-i.i x c.enums-all.ensures l c.index-all-i.is in
    subst (IsKeptHome c.args.self.now) (sym c.enclosing.ensures)
    (enum_home_kept F (length F.messages) (length F.enums) c.args.self.now c.requires.lengths c.requires.formed
    c.loop-i.i x at refl)
