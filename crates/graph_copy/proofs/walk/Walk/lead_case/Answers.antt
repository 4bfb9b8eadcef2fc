use Rattle.std.proofs.Common.{◌≡◌, Some}
use Rattle.mrpc_table.specs.Normal.{fields_of, field_at}
use Rattle.mrpc_table.specs.declared.table.Field.{Field}
use Rattle.graph_form.specs.declared.reason.Reason.TheVariants.{Case}
use Rattle.graph_copy.proofs.walk.Walk.lead_case.Goals as goal

pub returns-in-None-clause-expected : goal.returns-in-None-clause-expected
returns-in-None-clause-expected c =
    let none = c.in-None.ensures in
    absurd (c.requires.fine Case (c.if-value-eq0.false, λ (f : Field) (at : field_at (fields_of c.args.table.now c.args.message) c.args.value ≡ Some f) is. cc (none, at)))
