use Rattle.std.proofs.Common.{◌≡◌, ℕ, ◌+◌, ◌<◌, length, sym, ap, subst, arith}
use Rattle.std.specs.Prelude.{Some, slice_get}
use Rattle.proto_ast.specs.declared.file.ServiceDecl.{ServiceDecl}
use Rattle.proto_ast.specs.Joined.{Joined}
use Rattle.proto_ast.specs.declared.joined.Enclosing.TheVariants as home
use Rattle.schema_symbols.specs.Numbers.{AreWellNested, IsEnclosing}
use Rattle.schema_validation.specs.Entries.{IsEntryOfService, HasAddedEntries, HasNumber, entries_of}
use Rattle.schema_validation.proofs.Meetings.{item_at}
use Rattle.schema_validation.proofs.Formed.{stand_behind, service_file}
use Rattle.schema_validation.proofs.EntryLists.{adds_next, adds_all, numbers_next, numbers_all}
use Rattle.schema_validation.proofs.names.add_services.Goals as goal

pub add_service-requires-clause-behind : goal.add_service-requires-clause-behind
add_service-requires-clause-behind c =
    subst AreWellNested (sym c.requires.scopes) (stand_behind c.args.files.now c.requires.formed)

pub add_service-requires-clause-home : goal.add_service-requires-clause-home
add_service-requires-clause-home c =
    let F = c.args.files.now in
    let x = c.index-services-i.result in
    let l : c.loop-i.i < length F.services = omega (arith, ap length c.services-services.ensures, c.loop-i-test.true) in
    let at : slice_get F.services c.loop-i.i ≡ Some x =
    item_at c.services-services.result.now F.services c.loop-i.i x
    c.services-services.ensures l c.index-services-i.is in
    subst (λ (G : Joined). IsEnclosing G (home.File x.file)) (sym c.requires.scopes) (service_file F c.requires.formed
    c.loop-i.i x at)

pub loop-i-preserved : goal.loop-i-preserved
loop-i-preserved c =
    let F = c.args.files.now in
    let x = c.index-services-i.result in
    let l : c.loop-i.i < length F.services = omega (arith, ap length c.services-services.ensures, c.loop-i-test.true) in
    let at : slice_get F.services c.loop-i.i ≡ Some x =
    item_at c.services-services.result.now F.services c.loop-i.i x
    c.services-services.ensures l c.index-services-i.is in
    record {
      numbers =
          numbers_next F F.services (λ (s : ServiceDecl). home.File s.file) c.loop-i.i x at c.loop-i.invariant.numbers
          (subst (λ (G : Joined). (k : ℕ) × HasNumber G (home.File x.file) k) c.requires.scopes
          c.in_ok-add_service.ensures.number);
      names = adds_next F.services (IsEntryOfService F) c.loop-i.i x _ _ _ at c.loop-i.invariant.names
          (subst (λ (G : Joined). HasAddedEntries (IsEntryOfService G c.loop-i.i x)
          (entries_of c.loop-i.names.items) (entries_of c.add_service.new.names.items))
          c.requires.scopes (c.in_ok-add_service.ensures.names c.loop-i.i (ap (λ (n : ℕ). n + c.loop-i.i)
          c.count.ensures.is)));
    }

pub returns-clause-numbers : goal.returns-clause-numbers
returns-clause-numbers c =
    let F = c.args.files.now in
    let e : c.loop-i.i ≡ length F.services =
    omega (arith, ap length c.services-services.ensures, c.loop-i-test.false, c.loop-i.auto.i-end) in
    numbers_all F F.services (λ (s : ServiceDecl). home.File s.file) c.loop-i.i e c.loop-i.invariant.numbers

pub returns-clause-names : goal.returns-clause-names
returns-clause-names c =
    let F = c.args.files.now in
    let e : c.loop-i.i ≡ length F.services =
    omega (arith, ap length c.services-services.ensures, c.loop-i-test.false, c.loop-i.auto.i-end) in
    adds_all F.services (IsEntryOfService F) c.loop-i.i _ _ e c.loop-i.invariant.names
