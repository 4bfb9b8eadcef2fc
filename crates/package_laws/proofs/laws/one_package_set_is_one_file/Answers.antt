use Rattle.std.proofs.Common.{◌≡◌, List, subst}
use Rattle.proto_set.specs.Joining.{joined}
use Rattle.proto_set.specs.WellPlaced.{AreWellPlaced}
use Rattle.proto_set.specs.declared.linked_file.LinkedFile.{LinkedFile}
use Rattle.schema_resolve.specs.Resolving.{AreResolvedTogether}
use Rattle.package_laws.proofs.laws.one_package_set_is_one_file.Goals as goal

pub returns-clause-one_file : goal.returns-clause-one_file
returns-clause-one_file c files ps G T joins one r =
    let same : r.parts ≡ ps = c.join_is_unique.ensures files r.parts ps r.joins joins in
    let sound : AreWellPlaced ps = c.joined_is_well_placed.ensures files ps joins in
    c.one_package_is_one_file.ensures.one_file (joined ps) G T (c.joined_is_ordered.ensures.formed ps sound)
    (c.joined_is_ordered.ensures.ordered ps sound) one
    (subst (λ (xs : List LinkedFile). AreResolvedTogether (joined xs) T) same r.resolves)

pub returns-clause-several : goal.returns-clause-several
returns-clause-several c files ps G T right joins one r =
    let sound : AreWellPlaced ps = c.joined_is_well_placed.ensures files ps joins in
    record {
      paths = right;
      parts = ps;
      joins = joins;
      resolves = c.one_package_is_one_file.ensures.several (joined ps) G T (c.joined_is_ordered.ensures.formed ps sound)
          (c.joined_is_ordered.ensures.ordered ps sound) one r;
    }
