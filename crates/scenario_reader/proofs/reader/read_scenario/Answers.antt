use Rattle.std.proofs.lemmas.Result.{err_from_is_err_and}
use Rattle.toml.specs.View.{table_view}
use Rattle.scenario_reader.proofs.Texts.{fault_in, says_sound, text_read}
use Rattle.scenario_reader.proofs.Whole.{top_fault, top_free}
use Rattle.scenario_reader.proofs.reader.read_scenario.Goals as goal

pub returns-in_err-table-clause-read : goal.returns-in_err-table-clause-read
returns-in_err-table-clause-read c =
    let all = table_view c.in_ok-all.all in
    let p = err_from_is_err_and c.from_residual-in_err-table.result c.from_residual-in_err-table.ensures.1 in
    rw (p.1, p.2) (fault_in c.args.text.now all c.in_ok-all.ensures c.in_err-table.field-0.0
    (top_fault all c.in_err-table.field-0.0 c.in_err-table.ensures.read))

pub read_whole-requires-clause-free : goal.read_whole-requires-clause-free
read_whole-requires-clause-free c = top_free (table_view c.in_ok-all.all) c.in_ok-table.ensures.read.1

pub returns-clause-read : goal.returns-clause-read
returns-clause-read c = text_read c.args.text.now (table_view c.in_ok-all.all) c.in_ok-all.ensures c.read_whole.result c.read_whole.ensures

pub returns-clause-sound : goal.returns-clause-sound
returns-clause-sound c =
    says_sound c.args.text.now (table_view c.in_ok-all.all) c.in_ok-all.ensures c.parsed_plan_is_valid.ensures.sound c.read_whole.result
    c.read_whole.ensures
