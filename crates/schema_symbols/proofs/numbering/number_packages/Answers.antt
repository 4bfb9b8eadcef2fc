use Rattle.std.proofs.Common.{◌+◌, sym, subst}
use Rattle.schema_symbols.specs.Numbered.{ArePackages}
use Rattle.schema_symbols.proofs.NumberLemmas.{more_packages}
use Rattle.schema_symbols.proofs.numbering.number_packages.Goals as goal

pub loop-file-preserved : goal.loop-file-preserved
loop-file-preserved c = record {
  all = subst (ArePackages c.args.files.now (c.loop-file.file + 1)) (sym c.in_ok-push.ensures.items)
      (more_packages c.loop-file.file c.loop-file.packages.items c.in_ok-number_package.field-0
      c.loop-file.invariant.all c.in_ok-number_package.ensures.package);
  numbered = c.in_ok-number_package.ensures.numbers;
  its_depths = c.in_ok-number_package.ensures.depths;
}
