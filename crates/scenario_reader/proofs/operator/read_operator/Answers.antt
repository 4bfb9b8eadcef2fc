use Rattle.std.proofs.Common.{sym, ap, ◌∙◌}
use Rattle.toml.specs.View.{table_view}
use Rattle.scenario_toml.specs.Values.{is_out}
use Rattle.scenario_reader.proofs.Operating.{operator_number_first}
use Rattle.scenario_reader.proofs.operator.read_operator.Goals as goal

pub returns-then-is_out : goal.returns-then-is_out
returns-then-is_out c = λ all T tables above joined distinct says.
    let ms = table_view c.args.entry.now in
    operator_number_first all tables ms c.args.above.declared.now.policies (sym c.has_operator_keys.ensures ∙ c.if-not-has_operator_keys.false)
    (sym (c.is_out.ensures ∙ ap (is_out ms) c.conn.ensures) ∙ c.if-is_out.true)

pub returns : goal.returns
returns c = λ all T tables above joined distinct says.
    c.judge_operator.ensures all T tables above joined distinct says (sym c.has_operator_keys.ensures ∙ c.if-not-has_operator_keys.false)
