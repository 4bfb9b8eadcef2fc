use Rattle.mrpc_table.specs.Lines.{whole_lines}
use Rattle.table_text.specs.LineTests.{types_of}
use Rattle.table_text.proofs.ReachLemmas.{all_serve}
use Rattle.table_text.proofs.reach.known_in.Goals as goal

pub returns : goal.returns
returns c = record {
  types = types_of (whole_lines c.args.text.now);
  held_enums = c.in_ok-enums.ensures;
  held_messages = c.in_ok-messages.ensures;
  is_sufficient = all_serve c.args.text.now;
}
