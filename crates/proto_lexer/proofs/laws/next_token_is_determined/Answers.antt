use Rattle.proto_lexer.proofs.NextLemmas.{next_exists, one_token}
use Rattle.proto_lexer.proofs.laws.next_token_is_determined.Goals as goal

pub returns : goal.returns
returns c = record { some = next_exists; one = one_token }
