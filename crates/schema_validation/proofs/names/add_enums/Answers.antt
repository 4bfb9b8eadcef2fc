use Rattle.std.proofs.Common.{◌≡◌, ℕ, ◌<◌, length, sym, ap, subst, arith}
use Rattle.std.specs.Prelude.{Some, slice_get}
use Rattle.proto_ast.specs.Joined.{Joined, enclosing_of_enum}
use Rattle.schema_symbols.specs.Numbers.{IsEnclosing}
use Rattle.schema_validation.specs.Entries.{IsEntryOfEnum, HasAddedEntries, HasNumber, entries_of}
use Rattle.schema_validation.proofs.Meetings.{item_at}
use Rattle.schema_validation.proofs.Formed.{enum_place}
use Rattle.schema_validation.proofs.EntryLists.{adds_next, adds_all, numbers_next, numbers_all}
use Rattle.schema_validation.proofs.names.add_enums.Goals as goal

pub add_enum-requires-clause-home : goal.add_enum-requires-clause-home
add_enum-requires-clause-home c =
    let F = c.args.files.now in
    let x = c.index-enums-i.result in
    let l : c.loop-i.i < length F.enums = omega (arith, ap length c.enums-enums.ensures, c.loop-i-test.true) in
    let at : slice_get F.enums c.loop-i.i ≡ Some x =
    item_at c.enums-enums.result.now F.enums c.loop-i.i x
    c.enums-enums.ensures l c.index-enums-i.is in
    subst (λ (G : Joined). IsEnclosing G (enclosing_of_enum x)) (sym c.requires.scopes) (enum_place F c.requires.behind
    c.loop-i.i x at)

pub loop-i-preserved : goal.loop-i-preserved
loop-i-preserved c =
    let F = c.args.files.now in
    let x = c.index-enums-i.result in
    let l : c.loop-i.i < length F.enums = omega (arith, ap length c.enums-enums.ensures, c.loop-i-test.true) in
    let at : slice_get F.enums c.loop-i.i ≡ Some x =
    item_at c.enums-enums.result.now F.enums c.loop-i.i x
    c.enums-enums.ensures l c.index-enums-i.is in
    record {
      numbers = numbers_next F F.enums enclosing_of_enum c.loop-i.i x at c.loop-i.invariant.numbers
          (subst (λ (G : Joined). (k : ℕ) × HasNumber G (enclosing_of_enum x) k) c.requires.scopes
          c.in_ok-add_enum.ensures.number);
      names = adds_next F.enums (IsEntryOfEnum F) c.loop-i.i x _ _ _ at c.loop-i.invariant.names
          (subst (λ (G : Joined). HasAddedEntries (IsEntryOfEnum G c.loop-i.i x)
          (entries_of c.loop-i.names.items) (entries_of c.add_enum.new.names.items))
          c.requires.scopes (c.in_ok-add_enum.ensures.names c.loop-i.i));
    }

pub returns-clause-numbers : goal.returns-clause-numbers
returns-clause-numbers c =
    let F = c.args.files.now in
    let e : c.loop-i.i ≡ length F.enums =
    omega (arith, ap length c.enums-enums.ensures, c.loop-i-test.false, c.loop-i.auto.i-end) in
    numbers_all F F.enums enclosing_of_enum c.loop-i.i e c.loop-i.invariant.numbers

pub returns-clause-names : goal.returns-clause-names
returns-clause-names c =
    let F = c.args.files.now in
    let e : c.loop-i.i ≡ length F.enums =
    omega (arith, ap length c.enums-enums.ensures, c.loop-i-test.false, c.loop-i.auto.i-end) in
    adds_all F.enums (IsEntryOfEnum F) c.loop-i.i _ _ e c.loop-i.invariant.names
