use Rattle.proto_set.proofs.Decimals.{number_of-decimal_word, decimal_word-printed}
use Rattle.proto_set.proofs.bundle_laws.decimal_is_round_trip.Goals as goal

pub returns : goal.returns
returns c = record { read = number_of-decimal_word; printed = decimal_word-printed }
