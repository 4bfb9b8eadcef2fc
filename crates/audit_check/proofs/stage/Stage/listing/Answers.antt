use Rattle.audit_check.proofs.Stages.{stage_at}
use Rattle.audit_check.proofs.stage.Stage.listing.Goals as goal

pub first_listing-requires : goal.first_listing-requires
first_listing-requires c =
    let k = c.requires.known in
    let now = stage_at k.0 k.1 k.2 k.3 c.args.self c.in-Events.connections c.in-Events.is k.4 in now.knows.few

pub returns-in-Events : goal.returns-in-Events
returns-in-Events c T limit h told stage line =
    c.first_listing.ensures T limit h told (stage_at T limit h told c.args.self c.in-Events.connections c.in-Events.is stage) line
