use Rattle.std.proofs.Common.{sym, ap, ◌∙◌, [], ◌∷◌}
use Rattle.mrpc_table.specs.View.{content_of}
use Rattle.wire_decode.specs.Merged.{values_in}
use Rattle.wire_decode.proofs.Gathering.{values-many}
use Rattle.wire_decode.proofs.gather.values_of.Goals as goal

pub returns-in-Many : goal.returns-in-Many
returns-in-Many c = sym (values-many c.in-Many.values.items) ∙ sym (ap (λ x. values_in (content_of x ∷ [])) c.in-Many.is)
