use Rattle.std.proofs.Common.{refl}
use Rattle.audit_check.proofs.progress.TextProgress.new.Goals as goal

pub returns : goal.returns
returns c T = record {
  happenings = refl;
  stands = refl;
  stage = record { untold = refl; knows = c.in_ok-new.ensures.knows T; same_limit = c.in_ok-new.ensures.limit; prefixes = λ conn. tt };
}
