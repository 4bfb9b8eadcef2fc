use Rattle.schema_symbols.specs.Types.{declared_in}
use Rattle.schema_symbols.proofs.TypeLemmas.{no_types}
use Rattle.schema_symbols.proofs.symbol_table.SymbolTable.new.Goals as goal

pub add_messages-requires-clause-types : goal.add_messages-requires-clause-types
add_messages-requires-clause-types c = no_types (declared_in c.new-types.result) c.new-types.ensures
