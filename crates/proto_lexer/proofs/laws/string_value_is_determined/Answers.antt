use Rattle.proto_lexer.proofs.Escapes.{some_value, one_value}
use Rattle.proto_lexer.proofs.laws.string_value_is_determined.Goals as goal

pub returns : goal.returns
returns c = record { some = some_value; one = one_value }
