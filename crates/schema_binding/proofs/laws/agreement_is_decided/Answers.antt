use Rattle.schema_binding.proofs.Answering.{never_both, refuse_once, agree_or_refuse}
use Rattle.schema_binding.proofs.laws.agreement_is_decided.Goals as goal

pub returns : goal.returns
returns c = record { never_both = never_both; once = refuse_once; never_neither = agree_or_refuse }
