use Rattle.std.proofs.Common.{List, ℕ, Option, sym, subst}
use Rattle.mrpc_table.specs.declared.table.Table.{Table}
use Rattle.toml.specs.View.{table_view}
use Rattle.scenario.specs.Applications.{HasTable, IsTableIn}
use Rattle.scenario_reader.proofs.Owning.{own_without}
use Rattle.scenario_reader.proofs.own.own_in.Goals as goal

pub returns-in_default-2-clause-read : goal.returns-in_default-2-clause-read
returns-in_default-2-clause-read c = λ all T above.
    let none = subst (λ (o : Option Table). IsTableIn c.as_bytes.result.now o) c.in_default-2.is c.in_ok-table.ensures.table in
    own_without all (table_view c.args.entry.now) c.in-Some.text.now (sym c.in-Some.ensures)
    (λ U has. none U (subst (λ (t : List ℕ). HasTable t U) (sym c.as_bytes.ensures.value) has))

pub returns-in-Err-clause-read : goal.returns-in-Err-clause-read
returns-in-Err-clause-read c = λ all T above.
    let has =
    subst (λ (t : List ℕ). HasTable t c.in-Some-2.table) c.as_bytes.ensures.value
    (subst (λ (o : Option Table). IsTableIn c.as_bytes.result.now o) c.in-Some-2.is c.in_ok-table.ensures.table) in
    rw c.in-Err.is at (c.in_ok-read.ensures all T c.in-Some.text.now above (sym c.in-Some.ensures) has)

pub returns-in-Ok-clause-read : goal.returns-in-Ok-clause-read
returns-in-Ok-clause-read c = λ all T above.
    let has =
    subst (λ (t : List ℕ). HasTable t c.in-Some-2.table) c.as_bytes.ensures.value
    (subst (λ (o : Option Table). IsTableIn c.as_bytes.result.now o) c.in-Some-2.is c.in_ok-table.ensures.table) in
    rw c.in-Ok.is at (c.in_ok-read.ensures all T c.in-Some.text.now above (sym c.in-Some.ensures) has)
