use Rattle.std.proofs.Common.{◌≡◌, ◌*◌, ◌≤◌, ◌^◌}
use Rattle.schema_validation.specs.Lengths.{HasLinesBefore, rpcs_before}
use Rattle.schema_validation.proofs.lines.add_methods.Given as goal

abbrev pub invariant-loop-i : goal.invariant-loop-i
invariant-loop-i l = record {
  covers : HasLinesBefore l.fn.files 2 l.i 0 l.lines.items;
  before : l.before ≡ rpcs_before l.fn.files l.i;
  few : l.before ≤ l.i * 2 ^ 64;
}
