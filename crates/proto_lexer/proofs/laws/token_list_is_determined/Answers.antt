use Rattle.proto_lexer.proofs.NextLemmas.{a_list, one_list}
use Rattle.proto_lexer.proofs.laws.token_list_is_determined.Goals as goal

pub returns : goal.returns
returns c = record { some = a_list; one = one_list }
