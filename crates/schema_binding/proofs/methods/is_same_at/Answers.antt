use Rattle.schema_binding.proofs.Signatures.{both_at}
use Rattle.schema_binding.proofs.methods.is_same_at.Goals as goal

pub returns-in-Some-method_at : goal.returns-in-Some-method_at
returns-in-Some-method_at c =
    both_at c.args.ours.now c.args.theirs.now c.args.service.now c.args.index c.in-Some.our.now c.in-Some-method_at.their.now c.is_same_method.result
    c.in-Some.ensures.method c.in-Some-method_at.ensures.method (c.is_same_method.ensures c.args.index)
