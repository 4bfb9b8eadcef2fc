use Rattle.proto_ast.specs.Joined.{alone}
use Rattle.schema_validation.specs.Violations.{offends}
use Rattle.schema_resolve.proofs.TableExists.{table_exists, none_of_all, no_offence}
use Rattle.schema_resolve.proofs.laws.table_or_violation.Goals as goal

pub returns : goal.returns
returns c = record {
  not_neither = λ F formed ordered no_table no_first.
      let none = no_offence F no_first in
      table_exists (alone F) formed ordered
      (λ q s is. none q s (offends is)) (λ T. no_table T.0 (record { table = T.1.table; clean = none }));
  not_neither_of_all = λ F formed ordered no_table no_first.
      table_exists F formed ordered (none_of_all F no_first) (λ T. no_table T.0 T.1);
  not_both = λ F T q s resolves has. resolves.clean q s has.offence;
  not_both_of_all = λ F T q s resolves has. resolves.clean q s has.offence;
}
