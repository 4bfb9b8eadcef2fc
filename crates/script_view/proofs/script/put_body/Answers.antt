use Rattle.script_view.proofs.script.put_body.Goals as goal

pub returns : goal.returns
returns c = rw (c.as_slice.ensures, c.in_ok-table.ensures) at c.put_parts.ensures
