use Rattle.std.proofs.Common.{◌≡◌, ℕ, ◌<◌, length, ap, subst, sym, arith}
use Rattle.std.specs.Prelude.{Some, slice_get}
use Rattle.proto_ast.specs.declared.file.EnumDecl.{EnumDecl}
use Rattle.proto_ast.specs.Joined.{Joined, enclosing_of_enum}
use Rattle.proto_ast.specs.declared.joined.Enclosing.{Enclosing}
use Rattle.schema_symbols.specs.Numbers.{AreWellNested, IsEnclosing}
use Rattle.schema_validation.specs.Recording.{HasRecorded}
use Rattle.schema_validation.specs.Entries.{IsPackageNamed}
use Rattle.schema_validation.proofs.Formed.{stand_behind, enum_place}
use Rattle.schema_validation.proofs.Meetings.{meets_start, meets_next, meets_elements, item_at}
use Rattle.schema_validation.proofs.names.note_enum_packages.Goals as goal

pub loop-i-init : goal.loop-i-init
loop-i-init c = meets_start _ _

pub note_package_name-requires-clause-behind : goal.note_package_name-requires-clause-behind
note_package_name-requires-clause-behind c =
    subst AreWellNested (sym c.requires.scopes) (stand_behind c.args.files.now c.requires.formed)

pub note_package_name-requires-clause-place : goal.note_package_name-requires-clause-place
note_package_name-requires-clause-place c =
    let F = c.args.files.now in
    let i = c.loop-i.i in
    let x = c.index-enums-i.result in
    let l : i < length F.enums = omega (arith, ap length c.enums-enums.ensures, c.loop-i-test.true) in
    let at : slice_get F.enums i ≡ Some x =
    item_at c.enums-enums.result.now F.enums i x c.enums-enums.ensures l c.index-enums-i.is in
    subst (IsEnclosing c.args.scopes.now) (sym c.enclosing.ensures)
    (subst (λ (G : Joined). IsEnclosing G (enclosing_of_enum x)) (sym c.requires.scopes)
    (enum_place F (stand_behind F c.requires.formed) i x at))

pub loop-i-preserved : goal.loop-i-preserved
loop-i-preserved c =
    let F = c.args.files.now in
    let i = c.loop-i.i in
    let x = c.index-enums-i.result in
    let l : i < length F.enums = omega (arith, ap length c.enums-enums.ensures, c.loop-i-test.true) in
    let at : slice_get F.enums i ≡ Some x =
    item_at c.enums-enums.result.now F.enums i x c.enums-enums.ensures l c.index-enums-i.is in
    meets_next F.enums (λ (j : ℕ) (x : EnumDecl). IsPackageNamed F (enclosing_of_enum x) x.name) i x c.args.first.now
    c.loop-i.first c.note_package_name.new.first at c.loop-i.invariant
    (subst (λ (G : Joined). HasRecorded (IsPackageNamed G (enclosing_of_enum x) x.name) c.loop-i.first
    c.note_package_name.new.first)
    c.requires.scopes
    (subst (λ (h : Enclosing). HasRecorded (IsPackageNamed c.args.scopes.now h x.name) c.loop-i.first
    c.note_package_name.new.first) c.enclosing.ensures c.note_package_name.ensures))

pub returns : goal.returns
returns c =
    let F = c.args.files.now in
    let e : c.loop-i.i ≡ length F.enums =
    omega (arith, ap length c.enums-enums.ensures, c.loop-i-test.false, c.loop-i.auto.i-end) in
    meets_elements F.enums (λ (j : ℕ) (x : EnumDecl). IsPackageNamed F (enclosing_of_enum x) x.name) c.loop-i.i
    c.args.first.now c.loop-i.first e c.loop-i.invariant
