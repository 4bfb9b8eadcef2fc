use Rattle.std.proofs.Common.{ap, sym, ◌∙◌}
use Rattle.std.specs.Option.{option_map}
use Rattle.mrpc_table.specs.View.{content_of}
use Rattle.graph_form.specs.Forgotten.{with_field}
use Rattle.graph_copy.specs.Makes.{insert_all}
use Rattle.graph_copy.proofs.Inserting.{insert_last}
use Rattle.graph_copy.proofs.build.keep.Goals as goal

pub returns-in_ok-push : goal.returns-in_ok-push
returns-in_ok-push c = λ t.
    ap (λ fs. insert_all fs t) c.in_ok-push.ensures.items ∙ insert_last c.args.found.now.items c.args.number c.in-Some.content t
    ∙ ap (λ o. insert_all c.args.found.now.items (with_field c.args.number (option_map content_of o) t)) (sym c.in-Some.is)
