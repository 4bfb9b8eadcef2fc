use Rattle.replay_script.proofs.Answers.{only_one}
use Rattle.replay_script.proofs.read.read_script.Goals as goal

pub returns-clause-only : goal.returns-clause-only
returns-clause-only c = only_one c.args.text.now c.read_text.result c.replay_script_or_fault.ensures.script c.replay_script_or_fault.ensures.not_both c.read_text.ensures
