use Rattle.std.proofs.Common.{◌∙◌, ap, sym, List, ℕ}
use Rattle.table_text.specs.LineTests.{is_below}
use Rattle.table_text.proofs.LastLemmas.{falls_last}
use Rattle.table_text.proofs.draft.is_below_last_enum.Goals as goal

pub returns-in-Some : goal.returns-in-Some
returns-in-Some c =
    c.is_below.ensures ∙ ap (λ (n : List ℕ). is_below c.args.name.now n) c.as_slice.ensures
    ∙ falls_last (λ e. e.name) c.args.name.now c.args.enums.now c.in-Some.last.now (sym c.in-Some.ensures.value)
