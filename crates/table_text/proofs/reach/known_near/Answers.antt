use Rattle.mrpc_table.specs.Lines.{whole_lines}
use Rattle.table_text.specs.Reach.{types_near, used_in}
use Rattle.table_text.proofs.ReachLemmas.{near_serves}
use Rattle.table_text.proofs.reach.known_near.Goals as goal

pub returns : goal.returns
returns c = λ text long.
    let wanted = used_in (whole_lines c.args.near.now) in
    record {
      types = types_near (whole_lines c.args.near.now) (whole_lines c.args.far.now);
      held_enums = c.in_ok-enums.ensures wanted c.in_ok-used.ensures;
      held_messages = c.in_ok-messages.ensures wanted c.in_ok-used.ensures;
      is_sufficient = near_serves text c.args.near.now c.args.far.now long;
    }
