use Rattle.std.proofs.Common.{◌≤◌, Some, None, length, take, sym, subst}
use Rattle.proto_ast.specs.Joined.{Joined, package_at}
use Rattle.schema_symbols.specs.Numbers.{IsScopeNumber}
use Rattle.schema_symbols.specs.Deepest.{IsDeepest, IsVisibleNameAt, larger_of}
use Rattle.schema_symbols.proofs.FindLemmas.{deepest_larger, decides_package, none_package}
use Rattle.schema_symbols.proofs.symbol_table.SymbolTable.decisive_prefix.Goals as goal

pub prefix-requires-clause-depth : goal.prefix-requires-clause-depth
prefix-requires-clause-depth c =
    let deepest : IsDeepest (IsVisibleNameAt c.args.self.now c.args.file c.args.its_file c.args.name.now) (larger_of c.next_part_prefix-own.result c.busy_prefix.result) =
    deepest_larger c.args.self.now c.args.file c.args.its_file c.args.name.now c.next_part_prefix-own.result c.busy_prefix.result c.next_part_prefix-own.ensures c.busy_prefix.ensures in
    let some : IsDeepest (IsVisibleNameAt c.args.self.now c.args.file c.args.its_file c.args.name.now) (Some c.in-Some.depth) =
    subst (IsDeepest (IsVisibleNameAt c.args.self.now c.args.file c.args.its_file c.args.name.now)) (sym c.in-Some.ensures) deepest in
    subst (λ (F : Joined). c.in-Some.depth ≤ length (package_at F c.args.its_file)) (sym c.self.view_is) some.0.within

pub returns-in-Some : goal.returns-in-Some
returns-in-Some c =
    let deepest : IsDeepest (IsVisibleNameAt c.args.self.now c.args.file c.args.its_file c.args.name.now) (larger_of c.next_part_prefix-own.result c.busy_prefix.result) =
    deepest_larger c.args.self.now c.args.file c.args.its_file c.args.name.now c.next_part_prefix-own.result c.busy_prefix.result c.next_part_prefix-own.ensures c.busy_prefix.ensures in
    let some : IsDeepest (IsVisibleNameAt c.args.self.now c.args.file c.args.its_file c.args.name.now) (Some c.in-Some.depth) =
    subst (IsDeepest (IsVisibleNameAt c.args.self.now c.args.file c.args.its_file c.args.name.now)) (sym c.in-Some.ensures) deepest in
    let number : IsScopeNumber c.args.self.now (take c.in-Some.depth (package_at c.args.self.now c.args.its_file)) c.prefix.result =
    subst (λ (F : Joined). IsScopeNumber F (take c.in-Some.depth (package_at F c.args.its_file)) c.prefix.result) c.self.view_is c.prefix.ensures.number in
    (take c.in-Some.depth (package_at c.args.self.now c.args.its_file), number, decides_package c.args.self.now c.args.file c.args.its_file c.args.name.now c.in-Some.depth some.0 some.1)

pub returns-in-None : goal.returns-in-None
returns-in-None c =
    let deepest : IsDeepest (IsVisibleNameAt c.args.self.now c.args.file c.args.its_file c.args.name.now) (larger_of c.next_part_prefix-own.result c.busy_prefix.result) =
    deepest_larger c.args.self.now c.args.file c.args.its_file c.args.name.now c.next_part_prefix-own.result c.busy_prefix.result c.next_part_prefix-own.ensures c.busy_prefix.ensures in
    let none : IsDeepest (IsVisibleNameAt c.args.self.now c.args.file c.args.its_file c.args.name.now) None =
    subst (IsDeepest (IsVisibleNameAt c.args.self.now c.args.file c.args.its_file c.args.name.now)) (sym c.in-None.ensures) deepest in
    none_package c.args.self.now c.args.file c.args.its_file c.args.name.now none
