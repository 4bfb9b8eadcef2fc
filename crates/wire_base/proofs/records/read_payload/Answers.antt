use Rattle.std.proofs.Common.{◌≡◌, ℕ, subst, sym}
use Rattle.std.specs.Result.{IfErr}
use Rattle.wire_base.specs.Records.{HasNoPayloadAt}
use Rattle.wire_base.proofs.records.read_payload.Goals as goal

pub returns-in-2-clause-fault : goal.returns-in-2-clause-fault
returns-in-2-clause-fault c =
    subst (λ (w : ℕ). IfErr c.len_payload.result (λ f. (f.place ≡ c.args.start) × HasNoPayloadAt c.args.bytes.now c.args.start w f.reason)) (sym c.in-2.is) c.len_payload.ensures.fault
