use Rattle.std.proofs.Common.{ℕ, List, Bor}
use Rattle.schema_symbols.proofs.parts.put_last.Goals as goal

pub returns : goal.returns
returns c q =
    let key : Bor (List ℕ) = record { ref_ptr = (0, 0); now = q } in
    c.in_ok-insert.ensures.updates.0 key
