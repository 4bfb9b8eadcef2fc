use Rattle.std.proofs.Common.{arith}
use Rattle.proto_ast.specs.Joined.{package_at}
use Rattle.schema_symbols.proofs.ListParts.{parts_length}
use Rattle.schema_symbols.proofs.PlaceLemmas.{kept_places, package_known, package_small}
use Rattle.schema_symbols.proofs.scope_indices.ScopeIndices.depth.Goals as goal

pub returns-clause-is : goal.returns-clause-is
returns-clause-is c =
    let k = kept_places c.self.inside c.self.view_is c.self.invariant in
    let p = package_known k.its_packages c.args.file c.index.result.now c.requires c.index.ensures in
    omega (arith, c.len.ensures, c.index.result.now.parts.ok.0, parts_length c.index.result.now.parts.items (package_at c.args.self.now c.args.file) p.its_parts)

pub returns-clause-few : goal.returns-clause-few
returns-clause-few c =
    let k = kept_places c.self.inside c.self.view_is c.self.invariant in
    let p = package_known k.its_packages c.args.file c.index.result.now c.requires c.index.ensures in
    omega (
      arith,
      c.len.ensures,
      c.index.result.now.parts.ok.0,
      parts_length c.index.result.now.parts.items (package_at c.args.self.now c.args.file) p.its_parts,
      package_small c.args.self.now c.args.file c.requires k.few,
    )
