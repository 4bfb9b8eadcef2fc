use Rattle.std.proofs.Common.{sym, ◌∙◌, rules, tests}
use Rattle.std.specs.Str.{bytes_eq}
use Rattle.std.proofs.lemmas.Iterator.{YieldsList-from_slice}
use Rattle.std.proofs.lemmas.Iterator.Consumers.{count_from_yields_List, YieldsList-from_filter}
use Rattle.schema_binding.proofs.Signatures.{as_many}
use Rattle.schema_binding.proofs.methods.count_methods.Goals as goal

pub returns : goal.returns
returns c =
    count_from_yields_List c.filter-of_service.result c.count.result c.count.ensures.ran
    (YieldsList-from_filter _ (λ m. bytes_eq m.service c.args.service.now)
    (YieldsList-from_slice c.args.table.now.methods cc) c.filter-of_service.ensures.closure
    (λ x b q k. search (rules, tests)))
    ∙ sym (as_many c.args.table.now c.args.service.now 0 c.args.table.now.methods)
