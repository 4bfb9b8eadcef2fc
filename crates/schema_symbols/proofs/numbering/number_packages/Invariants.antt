use Rattle.schema_symbols.specs.Numbers.{prefixes_before}
use Rattle.schema_symbols.specs.Numbered.{HasNumberedScopes, AreDepths, ArePackages}
use Rattle.schema_symbols.proofs.numbering.number_packages.Given as goal

abbrev pub invariant-loop-file : goal.invariant-loop-file
invariant-loop-file l = record {
  all : ArePackages l.fn.files l.file l.packages.items;
  numbered : HasNumberedScopes l.fn.files (prefixes_before l.fn.files l.file) l.numbering;
  its_depths : AreDepths l.fn.files (prefixes_before l.fn.files l.file) l.depths.items;
}
