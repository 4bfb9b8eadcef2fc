use Rattle.schema_resolve.proofs.OneTable.{one_text_of, starts_apart}
use Rattle.schema_resolve.proofs.same_text.table_text_is_determined.Goals as goal

pub returns : goal.returns
returns c = λ F T U ordered a b.
    one_text_of F T U
    (λ file scope name s t f g m n. c.reference_is_unique.ensures F file scope name s t f g (starts_apart F ordered) m n) a b
