use Rattle.std.proofs.Common.{◌≡◌, ◌++◌, drop, map}
use Rattle.view_top.specs.Drawing.{ticks_text}
use Rattle.view_top.specs.DrawingData.{tick}
use Rattle.view_top.proofs.drawing.put_ticks.Given as goal

abbrev pub invariant-loop-mark : goal.invariant-loop-mark
invariant-loop-mark l = record {
  label : l.label ≡ l.mark-index;
  text : l.picture ++ ticks_text l.below l.mark-index (map tick (drop l.mark-index l.marks)) ≡ l.fn.picture ++ ticks_text l.below 0 (map tick l.marks);
}
