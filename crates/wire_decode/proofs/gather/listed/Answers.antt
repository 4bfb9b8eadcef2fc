use Rattle.std.proofs.Common.{ap, ◌∙◌, [], ◌∷◌, ◌++◌}
use Rattle.mrpc_table.specs.View.{content_of}
use Rattle.wire_decode.specs.Merged.{values_in}
use Rattle.wire_decode.proofs.Gathering.{values-many}
use Rattle.wire_decode.proofs.gather.listed.Goals as goal

pub returns : goal.returns
returns c =
    values-many c.in_ok-values.values.items ∙ c.in_ok-values.ensures ∙ ap (λ is. is ++ values_in (content_of c.args.content ∷ [])) c.in_ok-values_of.ensures
