use Rattle.std.proofs.Common.{ℕ, List, Bor}
use Rattle.schema_symbols.proofs.children.Children.remove.Goals as goal

pub returns-clause-others : goal.returns-clause-others
returns-clause-others g c k other =
    let q : ℕ × Bor (List ℕ) = (k, record { ref_ptr = (0, 0); now = other }) in
    c.remove.ensures.updates.0 q
