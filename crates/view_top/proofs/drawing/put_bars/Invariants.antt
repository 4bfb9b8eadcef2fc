use Rattle.std.proofs.Common.{◌≡◌, ◌++◌, drop, map}
use Rattle.view_top.specs.Drawing.{bars_text}
use Rattle.view_top.specs.DrawingData.{bar}
use Rattle.view_top.proofs.drawing.put_bars.Given as goal

abbrev pub invariant-loop-bar : goal.invariant-loop-bar
invariant-loop-bar l = record {
  lane : l.lane ≡ l.bar-index;
  text : l.picture ++ bars_text l.bar-index (map bar (drop l.bar-index l.bars)) ≡ l.fn.picture ++ bars_text 0 (map bar l.bars);
}
