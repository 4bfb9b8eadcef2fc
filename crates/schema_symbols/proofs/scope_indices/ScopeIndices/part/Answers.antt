use Rattle.std.proofs.Common.{◌<◌, length, arith}
use Rattle.proto_ast.specs.Joined.{package_at}
use Rattle.schema_symbols.proofs.ListParts.{part_get, parts_length}
use Rattle.schema_symbols.proofs.PlaceLemmas.{kept_places, package_known}
use Rattle.schema_symbols.proofs.scope_indices.ScopeIndices.part.Goals as goal

pub index-requires-2 : goal.index-requires-2
index-requires-2 c =
    let k = kept_places c.self.inside c.self.view_is c.self.invariant in
    let p = package_known k.its_packages c.args.file c.index.result.now c.requires.file c.index.ensures in
    omega (arith, c.requires.place, c.index.result.now.parts.ok.0, parts_length c.index.result.now.parts.items (package_at c.args.self.now c.args.file) p.its_parts)

pub returns : goal.returns
returns c =
    let k = kept_places c.self.inside c.self.view_is c.self.invariant in
    let p = package_known k.its_packages c.args.file c.index.result.now c.requires.file c.index.ensures in
    let l : c.args.place < length c.index.result.now.parts.items =
    omega (arith, c.requires.place, parts_length c.index.result.now.parts.items (package_at c.args.self.now c.args.file) p.its_parts) in
    part_get c.index.result.now.parts.items (package_at c.args.self.now c.args.file) p.its_parts c.args.place c.index-2.result.now l c.index-2.ensures
