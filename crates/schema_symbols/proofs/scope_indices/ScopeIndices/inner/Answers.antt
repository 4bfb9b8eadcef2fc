use Rattle.std.proofs.Common.{◌∙◌}
use Rattle.schema_symbols.proofs.PlaceLemmas.{kept_places, inner_known}
use Rattle.schema_symbols.proofs.scope_indices.ScopeIndices.inner.Goals as goal

pub returns : goal.returns
returns c outer n =
    let k = kept_places c.self.inside c.self.view_is c.self.invariant in
    inner_known k.numbers n c.args.name.now c.copied.result (c.copied.ensures ∙ c.get.ensures)
