use Rattle.std.proofs.Common.{ap, ◌∙◌}
use Rattle.schema_validation.specs.Ranges.{extended_from}
use Rattle.schema_validation.proofs.Places.{keeps_ranges}
use Rattle.schema_validation.proofs.numbers.Reserved.new.Goals as goal

pub returns : goal.returns
returns c =
    keeps_ranges c.args.ranges.now c.in_ok-sorted.sorted.items (record { ranges = c.in_ok-reached.reached })
    c.in_ok-sorted.ensures
    (c.in_ok-reached.ensures ∙ ap (extended_from 0) c.as_slice.ensures.value)
