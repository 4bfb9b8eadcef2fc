use Rattle.proto_ast.specs.Joined.{alone}
use Rattle.schema_resolve.proofs.OneOffence.{one_offence_of}
use Rattle.schema_resolve.proofs.laws.file_violation_is_unique.Goals as goal

pub returns : goal.returns
returns c = λ F q r s t ordered a b.
    one_offence_of F q r s t (λ p u x y f g. c.first_violation_is_unique.ensures (alone F) p u x y ordered f g) a b
