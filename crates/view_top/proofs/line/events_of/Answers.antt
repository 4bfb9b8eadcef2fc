use Rattle.std.proofs.Common.{◌≡◌, ◌∷◌, refl, sym, ◌∙◌, arith, map, filter_map}
use Rattle.mrpc_table.specs.Lines.{pieces_of, whole_lines}
use Rattle.view_top.specs.Lines.{event_of_line}
use Rattle.view_top.specs.DrawingData.{conn_line_event}
use Rattle.view_top.proofs.Reading.{one_line}
use Rattle.view_top.proofs.line.events_of.Goals as goal

pub loop-line-preserved : goal.loop-line-preserved
loop-line-preserved c =
    let line = c.in-Some.line.now in
    let others = c.in-Some.others.now in
    let cut : pieces_of c.loop-line.rest.now ≡ line ∷ pieces_of others = c.in-Some.ensures.parts in
    record {
      told = c.in_ok-add_line.ensures.told (filter_map event_of_line (whole_lines others))
          ∙ sym (one_line c.loop-line.rest.now line others (event_of_line line) (map conn_line_event c.loop-line.events.items) cut refl)
          ∙ c.loop-line.invariant.told;
      few = omega (arith, c.in_ok-add_line.ensures.few, c.in-Some.ensures.long, c.loop-line.invariant.few);
    }
