use Rattle.schema_symbols.proofs.OnlyOne.{name_one}
use Rattle.schema_symbols.proofs.laws.reference_is_unique.Goals as goal

pub returns : goal.returns
returns c F file scope name a b f g starts m n = name_one starts m n
