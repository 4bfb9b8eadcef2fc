use Rattle.std.proofs.Common.{sym, ap, ◌∙◌, [], ◌∷◌, ◌++◌, map}
use Rattle.mrpc_table.specs.View.{content_of, item_of}
use Rattle.wire_decode.specs.Merged.{values_in}
use Rattle.wire_decode.proofs.Gathering.{values-many, map-behind}
use Rattle.wire_decode.proofs.gather.appended.Goals as goal

pub returns-in_ok-append-in-Many : goal.returns-in_ok-append-in-Many
returns-in_ok-append-in-Many c =
    ap (map item_of) c.in_ok-append-in-Many.ensures.items
    ∙ map-behind c.args.values.items c.in-Many.more.items
    ∙ ap (λ is. map item_of c.args.values.items ++ is) (sym (values-many c.in-Many.more.items) ∙ sym (ap (λ x. values_in (content_of x ∷ [])) c.in-Many.is))
