use Rattle.std.proofs.Common.{◌≡◌, ◌+◌, ◌<◌, length, take, get_or, sym, ◌∙◌, subst, arith}
use Rattle.std.proofs.lemmas.List.{get_or_default}
use Rattle.proto_ast.specs.Joined.{package_at}
use Rattle.schema_symbols.specs.Numbers.{IsScopeNumber, prefixes_before}
use Rattle.schema_symbols.proofs.ScopeLemmas.{front_small, number_small}
use Rattle.schema_symbols.proofs.PlaceLemmas.{kept_places, package_known, package_small, front_known}
use Rattle.schema_symbols.proofs.scope_indices.ScopeIndices.prefix.Goals as goal

pub overflow_add-index : goal.overflow_add-index
overflow_add-index c =
    let k = kept_places c.self.inside c.self.view_is c.self.invariant in
    let p = package_known k.its_packages c.args.file c.index.result.now c.requires.file c.index.ensures in
    omega (arith, p.starts, c.requires.depth, package_small c.args.self.now c.args.file c.requires.file k.few)

pub index-requires-2 : goal.index-requires-2
index-requires-2 c =
    let k = kept_places c.self.inside c.self.view_is c.self.invariant in
    let p = package_known k.its_packages c.args.file c.index.result.now c.requires.file c.index.ensures in
    omega (arith, p.starts, front_small c.args.self.now c.args.file c.args.depth c.requires.file c.requires.depth, k.numbers.count, c.self.inside.numbering.numbers.ok.0)

pub returns-clause-number : goal.returns-clause-number
returns-clause-number c =
    let k = kept_places c.self.inside c.self.view_is c.self.invariant in
    let p = package_known k.its_packages c.args.file c.index.result.now c.requires.file c.index.ensures in
    let l : c.index.result.now.start + c.args.depth < length c.self.inside.numbering.numbers.items =
    omega (arith, p.starts, front_small c.args.self.now c.args.file c.args.depth c.requires.file c.requires.depth, k.numbers.count) in
    let is : c.index-2.result.now ≡ get_or c.self.inside.numbering.numbers.items (c.index.result.now.start + c.args.depth) 0 =
    c.index-2.ensures ∙ get_or_default c.self.inside.numbering.numbers.items (c.index.result.now.start + c.args.depth) c.index-2.result.now 0 l in
    let place : c.index.result.now.start + c.args.depth ≡ prefixes_before c.args.self.now c.args.file + c.args.depth = omega (arith, p.starts) in
    subst (IsScopeNumber c.args.self.now (take c.args.depth (package_at c.args.self.now c.args.file))) (sym is)
    (front_known c.args.file c.args.depth (c.index.result.now.start + c.args.depth) k c.requires.file c.requires.depth place)

pub returns-clause-small : goal.returns-clause-small
returns-clause-small c =
    let k = kept_places c.self.inside c.self.view_is c.self.invariant in
    let p = package_known k.its_packages c.args.file c.index.result.now c.requires.file c.index.ensures in
    let l : c.index.result.now.start + c.args.depth < length c.self.inside.numbering.numbers.items =
    omega (arith, p.starts, front_small c.args.self.now c.args.file c.args.depth c.requires.file c.requires.depth, k.numbers.count) in
    let is : c.index-2.result.now ≡ get_or c.self.inside.numbering.numbers.items (c.index.result.now.start + c.args.depth) 0 =
    c.index-2.ensures ∙ get_or_default c.self.inside.numbering.numbers.items (c.index.result.now.start + c.args.depth) c.index-2.result.now 0 l in
    let place : c.index.result.now.start + c.args.depth ≡ prefixes_before c.args.self.now c.args.file + c.args.depth = omega (arith, p.starts) in
    let number : IsScopeNumber c.args.self.now (take c.args.depth (package_at c.args.self.now c.args.file)) c.index-2.result.now =
    subst (IsScopeNumber c.args.self.now (take c.args.depth (package_at c.args.self.now c.args.file))) (sym is)
    (front_known c.args.file c.args.depth (c.index.result.now.start + c.args.depth) k c.requires.file c.requires.depth place) in
    number_small number
