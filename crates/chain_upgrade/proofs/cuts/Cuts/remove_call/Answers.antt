use Rattle.std.proofs.Common.{◌-◌, max, min, ℕ, ◌∙◌, arith}
use Rattle.std.proofs.lemmas.List.{length-set}
use Rattle.chain_upgrade.proofs.Clocks.{changed-one-more, others-one-more}
use Rattle.chain_upgrade.proofs.cuts.Cuts.remove_call.Goals as goal

pub loop-cut-preserved : goal.loop-cut-preserved
loop-cut-preserved c = record {
  changed = changed-one-more (λ (cut : ℕ). max (min cut c.args.place) (cut - 1)) c.loop-cut.cut-items c.args.self.now.behind c.loop-cut.cut-index 0 c.without.result
      (omega (arith, c.loop-cut.invariant.many, c.loop-cut-test.true)) (omega (arith, c.loop-cut.invariant.first, c.loop-cut-test.true))
      c.loop-cut.invariant.changed c.loop-cut.invariant.others c.without.ensures;
  others = others-one-more c.loop-cut.cut-items c.args.self.now.behind c.loop-cut.cut-index c.without.result c.loop-cut.invariant.others;
  many = length-set c.loop-cut.cut-items c.loop-cut.cut-index c.without.result ∙ c.loop-cut.invariant.many;
  first = c.loop-cut.invariant.first;
}
