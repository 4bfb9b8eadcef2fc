use Rattle.std.proofs.Common.{subst}
use Rattle.graph_form.specs.Placed.{IsValidWord}
use Rattle.graph_copy.specs.Expected.{layout_role}
use Rattle.graph_copy.proofs.walk.Walk.lead.Goals as goal

pub lead_link-requires-clause-fine : goal.lead_link-requires-clause-fine
lead_link-requires-clause-fine c = subst (λ r. IsValidWord c.args.table.now c.args.self.now.size (layout_role c.args.table.now r) c.args.value) c.in-Link.is c.requires.fine

pub lead_case-requires-clause-fine : goal.lead_case-requires-clause-fine
lead_case-requires-clause-fine c = subst (λ r. IsValidWord c.args.table.now c.args.self.now.size (layout_role c.args.table.now r) c.args.value) c.in-Case.is c.requires.fine
