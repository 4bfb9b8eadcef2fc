-- The code's own: the invariant of the symbol table.
use Rattle.std.specs.Prelude.{length}
use Rattle.proto_ast.specs.Joined.{Joined}
use Rattle.schema_symbols.specs.Numbers.{AreWellNested}
use Rattle.schema_symbols.specs.Types.{KnowsTypes, declared_in}
use Rattle.schema_symbols.specs.Below.{AreBusy}
use Rattle.schema_symbols.specs.declared.symbol_table.SymbolTable.TheInside.{Inside}

pub record IsSymbolTableOf (F : Joined) (s : Inside) : Type 0 where
  pub behind : AreWellNested F
  pub its_types : KnowsTypes F (length F.messages) (length F.enums) (declared_in s.types)
  pub its_fronts : AreBusy F (length F.heads) s.busy.items

abbrev pub AreScopes : Inside → Type 0
AreScopes s = IsSymbolTableOf s.places s
