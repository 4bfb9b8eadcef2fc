use Rattle.script_grammar.proofs.OneFront.{only_one}
use Rattle.script_grammar.proofs.preamble.read_preamble.Goals as goal

pub returns-clause-only : goal.returns-clause-only
returns-clause-only c = only_one c.args.first.now c.args.text.now c.preamble_of.result c.preamble_or_fault.ensures.front c.preamble_or_fault.ensures.either c.preamble_of.ensures.read c.preamble_of.ensures.fault
