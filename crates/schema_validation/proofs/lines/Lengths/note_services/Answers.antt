use Rattle.std.proofs.Common.{◌≡◌, ◌<◌, ℕ, length, ap, arith}
use Rattle.std.specs.Prelude.{Some, slice_get}
use Rattle.proto_ast.specs.declared.file.ServiceDecl.{ServiceDecl}
use Rattle.proto_ast.specs.declared.joined.Enclosing.TheVariants as home
use Rattle.schema_validation.specs.Lengths.{IsLongName}
use Rattle.schema_validation.proofs.Meetings.{meets_next, meets_elements, item_at}
use Rattle.schema_validation.proofs.Formed.{service_file}
use Rattle.schema_validation.proofs.FullLengths.{file_kept}
use Rattle.schema_validation.proofs.lines.Lengths.note_services.Goals as goal

pub loop-i-preserved : goal.loop-i-preserved
loop-i-preserved c =
    let xs = c.args.files.now.services in
    let l : c.loop-i.i < length xs = omega (arith, ap length c.services-all.ensures, c.loop-i-test.true) in
    let at : slice_get xs c.loop-i.i ≡ Some c.index-all-i.result =
    item_at c.services-all.result.now xs c.loop-i.i c.index-all-i.result c.services-all.ensures l c.index-all-i.is in
    meets_next xs (λ (i : ℕ) (x : ServiceDecl). IsLongName c.args.self.now (home.File x.file) x.name) c.loop-i.i
    c.index-all-i.result c.args.first.now c.loop-i.first c.note_full.new.first at c.loop-i.invariant
    c.note_full.ensures

pub returns : goal.returns
returns c =
    let xs = c.args.files.now.services in
    let e : c.loop-i.i ≡ length xs =
    omega (arith, ap length c.services-all.ensures, c.loop-i-test.false, c.loop-i.auto.i-end) in
    meets_elements xs (λ (i : ℕ) (x : ServiceDecl). IsLongName c.args.self.now (home.File x.file) x.name) c.loop-i.i
    c.args.first.now c.loop-i.first e c.loop-i.invariant

pub note_full-requires : goal.note_full-requires
note_full-requires c =
    let F = c.args.files.now in
    let x = c.index-all-i.result in
    let l : c.loop-i.i < length F.services = omega (arith, ap length c.services-all.ensures, c.loop-i-test.true) in
    let at : slice_get F.services c.loop-i.i ≡ Some x =
    item_at c.services-all.result.now F.services c.loop-i.i x c.services-all.ensures l c.index-all-i.is in
    file_kept F (length F.messages) (length F.enums) c.args.self.now c.requires.lengths x.file
    (service_file F c.requires.formed c.loop-i.i x at)
