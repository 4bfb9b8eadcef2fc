use Rattle.std.proofs.Common.{◌<◌, leb-true, le-leb, arith}
use Rattle.std.proofs.lemmas.Bool.Decides.{nat_tests}
use Rattle.schema_validation.proofs.Places.{search_finds, search_found}
use Rattle.schema_validation.proofs.numbers.Reserved.has.Goals as goal

pub returns-then-low-gt0 : goal.returns-then-low-gt0
returns-then-low-gt0 c ranges n keeps is small =
    let ends = c.as_slice-ranges.result.now in
    let low = c.count_starting_by-low.result in (
      λ t. search_found ranges c.args.self.now ends low c.args.place n keeps c.as_slice-ranges.ensures.value is
          c.count_starting_by-low.ensures.within c.count_starting_by-low.ensures.parts c.if-low-gt0.true (leb-true _ _ t),
      λ r. le-leb _ _ (search_finds ranges c.args.self.now ends low c.args.place n keeps c.as_slice-ranges.ensures.value
          is c.count_starting_by-low.ensures.within c.count_starting_by-low.ensures.parts small r).1,
    )

pub returns-else-low-gt0 : goal.returns-else-low-gt0
returns-else-low-gt0 c ranges n keeps is small =
    let ends = c.as_slice-ranges.result.now in
    let low = c.count_starting_by-low.result in (
      λ t. absurd (grind (arith, nat_tests)),
      λ r.
          let found : 0 < low = (search_finds ranges c.args.self.now ends low c.args.place n keeps
          c.as_slice-ranges.ensures.value is c.count_starting_by-low.ensures.within c.count_starting_by-low.ensures.parts small r).0 in
          absurd (omega arith),
    )
