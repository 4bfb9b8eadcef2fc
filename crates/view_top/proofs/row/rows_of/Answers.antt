use Rattle.std.proofs.Common.{List, Vec, Global, map, rules, ap, sym, subst, ◌∙◌}
use Rattle.std.specs.List.Sorted.{IsNonDecreasingBy}
use Rattle.std.proofs.lemmas.List.Sorted.{answers_always, IsNonDecreasingBy-from_sort_by_key}
use Rattle.view_top.specs.Rows.{of_connection}
use Rattle.view_top.specs.DrawingData.{conn_line_event, row}
use Rattle.view_top.specs.declared.line.Event.{Event}
use Rattle.view_top.specs.declared.part.TimelineRow.{TimelineRow}
use Rattle.view_top.proofs.Ascending.{sorted_rows, sorted_told}
use Rattle.view_top.proofs.row.rows_of.Goals as goal

pub rows_in-requires-clause-sorted : goal.rows_in-requires-clause-sorted
rows_in-requires-clause-sorted c =
    subst (λ (es : List Event). IsNonDecreasingBy (λ e. e.conn) es) (sym c.deref.ensures.value)
    (IsNonDecreasingBy-from_sort_by_key (λ (e : Event). e.conn) _ c.in_ok-sort_by_key.ensures.sorted (λ a r q k. search rules))

pub returns-clause-rows : goal.returns-clause-rows
returns-clause-rows c =
    let stable = c.in_ok-sort_by_key.ensures.stable (λ e. e.conn) (answers_always _ _ _ (λ f a r g h. search rules)) in
    sorted_rows (λ (rs : Vec TimelineRow Global). map row rs.items) c.rows_in.result (map conn_line_event c.deref.result.now) (map conn_line_event c.args.events.items)
    (λ k. ap (λ (es : List Event). of_connection k (map conn_line_event es)) c.deref.ensures.value ∙ sorted_told c.args.events.items c.sort_by_key.new.self.items stable k)
    c.rows_in.ensures.rows
