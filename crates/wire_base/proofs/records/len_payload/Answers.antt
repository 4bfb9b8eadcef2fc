use Rattle.std.proofs.lemmas.Result.{err_from_is_err_and}
use Rattle.wire_base.proofs.records.len_payload.Goals as goal

pub returns-in_err-first-clause-fault : goal.returns-in_err-first-clause-fault
returns-in_err-first-clause-fault c =
    let same = err_from_is_err_and c.from_residual.result c.from_residual.ensures.1 in
    rw (same.1, same.2) c.in_err-first.ensures.fault
