use Rattle.std.proofs.Common.{List, [], ◌∷◌, map, sym, subst, arith, append-nil}
use Rattle.std.proofs.lemmas.List.{at_drop_all}
use Rattle.view_top.specs.Lines.{ConnLineEvent}
use Rattle.view_top.specs.Rows.{AreRows, TimelineRow}
use Rattle.view_top.specs.DrawingData.{conn_line_event, row}
use Rattle.view_top.specs.declared.line.Event.{Event}
use Rattle.view_top.proofs.Ascending.{row_at, pushed_row, no_rows}
use Rattle.view_top.proofs.row.rows_in.Goals as goal

pub loop-at-preserved : goal.loop-at-preserved
loop-at-preserved c =
    let ends = c.end_of-end.ensures in
    record {
      within = ends.within;
      rows = λ more h. subst (λ (rs : List TimelineRow). AreRows (map conn_line_event c.args.events.now) rs)
          (pushed_row c.loop-at.rows.items c.push.new.self.items c.in_ok-row_of.field-0 more c.in_ok-push.ensures.items)
          (c.loop-at.invariant.rows (row c.in_ok-row_of.field-0 ∷ more)
          (row_at c.args.events.now c.loop-at.at c.end_of-end.result c.conn_at-conn.result (row c.in_ok-row_of.field-0) more c.requires.sorted
          ends.further ends.within c.conn_at-conn.ensures ends.same ends.other c.in_ok-row_of.ensures h));
      few = omega (arith, c.in_ok-push.ensures.len, ends.further, c.loop-at.invariant.few);
    }

pub returns-clause-rows : goal.returns-clause-rows
returns-clause-rows c =
    subst (λ (rs : List TimelineRow). AreRows (map conn_line_event c.args.events.now) rs) (append-nil (map row c.loop-at.rows.items))
    (c.loop-at.invariant.rows []
    (subst (λ (hs : List ConnLineEvent). AreRows hs [])
    (sym (at_drop_all (λ (es : List Event). map conn_line_event es) c.args.events.now c.loop-at.at (omega arith)))
    no_rows))
