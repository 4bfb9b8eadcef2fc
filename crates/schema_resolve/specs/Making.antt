-- The code's own: a table as it is made of files, by the indices of names.
use Rattle.mrpc_table.specs.declared.table.Table.{Table}
use Rattle.proto_ast.specs.Joined.{Joined}
use Rattle.schema_validation.specs.Methods.{rpcs_of}
use Rattle.schema_validation.specs.Correspondence.{AreCorrespondingInOrder}
use Rattle.schema_resolve.specs.Placing.{IsTablePlan}
use Rattle.schema_resolve.specs.InOrder.{IsEnumAt, AreMethods}
use Rattle.schema_resolve.specs.Joining.{IsMessageAt}
use Rattle.schema_resolve.specs.declared.plan.TablePlan.{TablePlan}

pub record IsMadeTable (F : Joined) (T : Table) : Type 0 where
  pub plan : TablePlan
  pub is_plan : IsTablePlan F plan
  pub messages_are : AreCorrespondingInOrder (IsMessageAt F plan) plan.messages.order.items T.messages
  pub enums_are : AreCorrespondingInOrder (IsEnumAt F plan) plan.enums.order.items T.enums
  pub methods_are : AreMethods F plan (rpcs_of F) T.methods
