use Rattle.std.proofs.Common.{◌≡◌, refl, arith}
use Rattle.std.specs.Prelude.{nat_lt}
use Rattle.schema_symbols.specs.Numbers.{all_prefix_count}
use Rattle.schema_symbols.proofs.PlaceLemmas.{kept_places, is_front_iff}
use Rattle.schema_symbols.proofs.scope_indices.ScopeIndices.is_prefix.Goals as goal

pub returns : goal.returns
returns c full some number =
    let k = kept_places c.self.inside c.self.view_is c.self.invariant in
    let n : c.len.result ≡ all_prefix_count c.args.self.now = omega (arith, c.len.ensures, c.self.inside.depths.ok.0, k.its_depths.count) in
    is_front_iff c.args.scope c.len.result (nat_lt c.args.scope c.len.result) n refl some number
