-- all cuts so far are above the index
use Rattle.std.proofs.Common.{◌≡◌, ◌+◌, drop}
use Rattle.chain_upgrade.specs.Cuts.{position_at}
use Rattle.chain_upgrade.proofs.cuts.Cuts.position.Given as goal

abbrev pub invariant-loop-cut : goal.invariant-loop-cut
invariant-loop-cut l = record {
  counted : l.position ≡ l.cut-index;
  rest : position_at l.place l.self.behind ≡ l.cut-index + position_at l.place (drop l.cut-index l.self.behind);
}
