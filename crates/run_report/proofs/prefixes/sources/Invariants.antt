use Rattle.std.proofs.Common.{◌≡◌, All, map, take}
use Rattle.run_report.specs.Prefixes.{CanMakePrefix, expected_for, expected_by}
use Rattle.run_report.proofs.prefixes.sources.Given as goal

abbrev pub invariant-loop-one : goal.invariant-loop-one
invariant-loop-one l = (map expected_by l.sources.items ≡ map (expected_for l.with_text) (take l.one-index l.shown)) × All CanMakePrefix l.sources.items
