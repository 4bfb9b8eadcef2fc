use Rattle.std.proofs.Common.{false}
use Rattle.drill.proofs.plan.plan.Goals as goal

pub returns : goal.returns
returns c = λ i. record {
  service = c.in_ok-service.ensures i;
  loads = 1024;
  workers = 2;
  weighted = false;
  table = c.in_ok-table.ensures i;
  declared = c.in_ok-declared.ensures i;
  applications = c.in_ok-applications.ensures i;
  links = c.in_ok-links.ensures i;
  operators = c.new.ensures i;
}
