use Rattle.std.proofs.Common.{◌<◌, [], length, arith}
use Rattle.schema_symbols.proofs.NumberLemmas.{root_number}
use Rattle.schema_symbols.proofs.FindLemmas.{found_absolute}
use Rattle.schema_symbols.proofs.symbol_table.SymbolTable.find.Goals as goal

pub returns-in-Some : goal.returns-in-Some
returns-in-Some c scope h =
    let some : 0 < length c.args.self.now.heads = omega (arith, c.requires.file) in
    found_absolute c.args.self.now c.args.file scope c.args.name.now c.in-Some.full.now c.find_in.result c.in-Some.ensures (c.find_in.ensures [] (root_number c.args.self.now some))
