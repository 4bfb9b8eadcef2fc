use Rattle.std.proofs.Common.{sym, subst}
use Rattle.replay_script.specs.Stopping.{IsScriptStop}
use Rattle.replay_script.specs.Texts.{IsFaultOfScript}
use Rattle.replay_script.proofs.Answers.{front_fault, left_within, line_within, fault_is}
use Rattle.replay_script.proofs.read.read_text.Goals as goal

pub returns-in-Err : goal.returns-in-Err
returns-in-Err c = front_fault c.args.text.now c.in-Err.fault c.in-Err.ensures.fault

pub fault_at-requires-clause-within : goal.fault_at-requires-clause-within
fault_at-requires-clause-within c =
    let f = c.in-Ok.front in
    let stop = subst (IsScriptStop f.loads f.table f.behind.now) c.in-Err-At.field-0-is c.in-Err-At.ensures in
    left_within c.word_laws.ensures c.args.text.now f.loads f.table f.behind.now c.in-Ok.ensures.read c.in-Err-At.left c.in-Err-At.line c.in-Err-At.reason stop

pub fault_at-requires-clause-line : goal.fault_at-requires-clause-line
fault_at-requires-clause-line c =
    let f = c.in-Ok.front in
    let stop = subst (IsScriptStop f.loads f.table f.behind.now) c.in-Err-At.field-0-is c.in-Err-At.ensures in
    line_within c.word_laws.ensures c.args.text.now f.loads f.table f.behind.now c.in-Ok.ensures.read c.in-Err-At.left c.in-Err-At.line c.in-Err-At.reason stop

pub returns-in-Err-At : goal.returns-in-Err-At
returns-in-Err-At c =
    let f = c.in-Ok.front in
    let stop = subst (IsScriptStop f.loads f.table f.behind.now) c.in-Err-At.field-0-is c.in-Err-At.ensures in
    subst (IsFaultOfScript c.args.text.now) (sym c.fault_at.ensures)
    (fault_is c.word_laws.ensures c.args.text.now f.loads f.table f.behind.now c.in-Ok.ensures.read c.in-Err-At.left c.in-Err-At.line c.in-Err-At.reason stop)
