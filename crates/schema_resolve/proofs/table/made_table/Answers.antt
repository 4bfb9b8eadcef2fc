use Rattle.schema_resolve.proofs.table.made_table.Goals as goal

pub returns : goal.returns
returns c = record {
  plan = c.in_ok-plan.plan;
  is_plan = c.in_ok-plan.ensures.plan;
  messages_are = c.in_ok-messages.ensures;
  enums_are = c.in_ok-enums.ensures;
  methods_are = c.in_ok-methods.ensures;
}
