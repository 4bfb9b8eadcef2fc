-- the cuts so far are without the call, and the others are unchanged
use Rattle.std.proofs.Common.{◌≡◌, ◌-◌, length, take, drop, map, max, min}
use Rattle.chain_upgrade.proofs.cuts.Cuts.remove_call.Given as goal

abbrev pub invariant-loop-cut : goal.invariant-loop-cut
invariant-loop-cut l = record {
  changed : take l.cut-index l.cut-items ≡ map (λ cut. max (min cut l.place) (cut - 1)) (take l.cut-index l.initial.cut-items);
  others : drop l.cut-index l.cut-items ≡ drop l.cut-index l.initial.cut-items;
  many : length l.cut-items ≡ 8;
  first : length l.initial.cut-items ≡ 8;
}
