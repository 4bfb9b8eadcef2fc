use Rattle.audit_rules.proofs.Telling.{told-none}
use Rattle.audit_rules.proofs.pending_lines.listing_can_start.Goals as goal

pub returns : goal.returns
returns c = λ T past checker settled knows. told-none T past checker settled knows
