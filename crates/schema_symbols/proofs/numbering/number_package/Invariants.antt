use Rattle.std.proofs.Common.{◌+◌, take}
use Rattle.proto_ast.specs.Joined.{package_at}
use Rattle.schema_symbols.specs.Numbers.{IsScopeNumber, prefixes_before}
use Rattle.schema_symbols.specs.Numbered.{HasNumberedScopes, AreDepths}
use Rattle.schema_symbols.proofs.numbering.number_package.Given as goal

abbrev pub invariant-loop-n : goal.invariant-loop-n
invariant-loop-n l = record {
  numbered : HasNumberedScopes l.fn.files (prefixes_before l.fn.files l.fn.file + l.n + 1) l.numbering;
  its_number : IsScopeNumber l.fn.files (take l.n (package_at l.fn.files l.fn.file)) l.number;
  its_depths : AreDepths l.fn.files (prefixes_before l.fn.files l.fn.file + l.n + 1) l.depths.items;
}
