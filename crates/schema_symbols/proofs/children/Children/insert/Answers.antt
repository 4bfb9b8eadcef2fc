use Rattle.std.proofs.Common.{ℕ, List, Bor}
use Rattle.schema_symbols.proofs.children.Children.insert.Goals as goal

pub returns : goal.returns
returns g c k other =
    let q : ℕ × Bor (List ℕ) = (k, record { ref_ptr = (0, 0); now = other }) in
    c.in_ok-insert.ensures.updates.0 q
