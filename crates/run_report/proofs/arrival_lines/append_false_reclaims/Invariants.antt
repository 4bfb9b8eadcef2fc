use Rattle.std.proofs.Common.{◌≡◌, ◌++◌, take}
use Rattle.std.specs.List.{flat_map}
use Rattle.mrpc_table.specs.Text.{line}
use Rattle.run_report.specs.Lines.{not_held_words}
use Rattle.run_report.proofs.arrival_lines.append_false_reclaims.Given as goal

abbrev pub invariant-loop-block : goal.invariant-loop-block
invariant-loop-block l = l.out ≡ l.fn.out ++ flat_map (λ block. line (not_held_words l.fn.conn block)) (take l.block-index l.fn.blocks)
