use Rattle.std.proofs.Common.{◌∙◌, sym, arith}
use Rattle.scenario_entries.proofs.Linking.{large_is, small_is}
use Rattle.scenario_entries.proofs.chain.chain_position.Goals as goal

pub returns-in-Large : goal.returns-in-Large
returns-in-Large c = record {
  place = λ at same.
      let large = large_is at (sym c.in-Large.is ∙ same) in
      let few = c.ranges.entries in
      omega (arith, large, few);
  within = tt;
}

pub returns-then-position-entries : goal.returns-then-position-entries
returns-then-position-entries c = record {
  place = λ at same. (let is = small_is at c.in-Small.position (sym c.in-Small.is ∙ same) in (omega (arith, is), omega (arith, is)));
  within = omega arith;
}

pub returns-else-position-entries : goal.returns-else-position-entries
returns-else-position-entries c = record {
  place = λ at same. (let is = small_is at c.in-Small.position (sym c.in-Small.is ∙ same) in omega (arith, is));
  within = tt;
}
