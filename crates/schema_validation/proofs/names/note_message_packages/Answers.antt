use Rattle.std.proofs.Common.{◌≡◌, ℕ, ◌<◌, length, ap, subst, sym, arith}
use Rattle.std.specs.Prelude.{Some, slice_get}
use Rattle.proto_ast.specs.declared.file.MessageDecl.{MessageDecl}
use Rattle.proto_ast.specs.Joined.{Joined, enclosing_of}
use Rattle.proto_ast.specs.declared.joined.Enclosing.{Enclosing}
use Rattle.schema_symbols.specs.Numbers.{AreWellNested, IsEnclosing}
use Rattle.schema_validation.specs.Recording.{HasRecorded}
use Rattle.schema_validation.specs.Entries.{IsPackageNamed}
use Rattle.schema_validation.proofs.Formed.{stand_behind, message_place}
use Rattle.schema_validation.proofs.Meetings.{meets_start, meets_next, meets_elements, item_at}
use Rattle.schema_validation.proofs.names.note_message_packages.Goals as goal

pub loop-i-init : goal.loop-i-init
loop-i-init c = meets_start _ _

pub note_package_name-requires-clause-behind : goal.note_package_name-requires-clause-behind
note_package_name-requires-clause-behind c =
    subst AreWellNested (sym c.requires.scopes) (stand_behind c.args.files.now c.requires.formed)

pub note_package_name-requires-clause-place : goal.note_package_name-requires-clause-place
note_package_name-requires-clause-place c =
    let F = c.args.files.now in
    let i = c.loop-i.i in
    let x = c.index-messages-i.result in
    let l : i < length F.messages = omega (arith, ap length c.messages-messages.ensures, c.loop-i-test.true) in
    let at : slice_get F.messages i ≡ Some x =
    item_at c.messages-messages.result.now F.messages i x c.messages-messages.ensures l c.index-messages-i.is in
    subst (IsEnclosing c.args.scopes.now) (sym c.enclosing.ensures)
    (subst (λ (G : Joined). IsEnclosing G (enclosing_of x)) (sym c.requires.scopes)
    (message_place F (stand_behind F c.requires.formed) i x at))

pub loop-i-preserved : goal.loop-i-preserved
loop-i-preserved c =
    let F = c.args.files.now in
    let i = c.loop-i.i in
    let x = c.index-messages-i.result in
    let l : i < length F.messages = omega (arith, ap length c.messages-messages.ensures, c.loop-i-test.true) in
    let at : slice_get F.messages i ≡ Some x =
    item_at c.messages-messages.result.now F.messages i x c.messages-messages.ensures l c.index-messages-i.is in
    meets_next F.messages (λ (j : ℕ) (x : MessageDecl). IsPackageNamed F (enclosing_of x) x.name) i x c.args.first.now
    c.loop-i.first c.note_package_name.new.first at c.loop-i.invariant
    (subst (λ (G : Joined). HasRecorded (IsPackageNamed G (enclosing_of x) x.name) c.loop-i.first c.note_package_name.new.first)
    c.requires.scopes
    (subst (λ (h : Enclosing). HasRecorded (IsPackageNamed c.args.scopes.now h x.name) c.loop-i.first
    c.note_package_name.new.first) c.enclosing.ensures c.note_package_name.ensures))

pub returns : goal.returns
returns c =
    let F = c.args.files.now in
    let e : c.loop-i.i ≡ length F.messages =
    omega (arith, ap length c.messages-messages.ensures, c.loop-i-test.false, c.loop-i.auto.i-end) in
    meets_elements F.messages (λ (j : ℕ) (x : MessageDecl). IsPackageNamed F (enclosing_of x) x.name) c.loop-i.i
    c.args.first.now c.loop-i.first e c.loop-i.invariant
