use Rattle.std.proofs.Common.{subst, sym}
use Rattle.mrpc_table.specs.Lines.{words_of}
use Rattle.scenario_lines.specs.Lines.{IsWordsFault}
use Rattle.scenario_lines.specs.Reasons.{IsFirstLineReason}
use Rattle.scenario_lines.specs.declared.reason.LineReason.{LineReason}
use Rattle.scenario_lines.proofs.Naming.{first_reason}
use Rattle.scenario_lines.proofs.words.judge_words.Goals as goal

pub returns-in-Err : goal.returns-in-Err
returns-in-Err c =
    let sorts = c.args.sorts.now in
    let ws = words_of c.args.line.now in
    subst (λ (r : LineReason). IsFirstLineReason (IsWordsFault sorts ws) r) (sym c.ordered.ensures)
    (first_reason sorts ws c.in-Err.reason c.lacks_name.result c.in-Err.ensures c.lacks_name.ensures)
