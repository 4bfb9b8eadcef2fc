use Rattle.std.proofs.Common.{◌≡◌, ℕ, suc, ◌+◌, ◌<◌, List, ◌∷◌, ◌++◌, length, get_or, drop, map, sym, ap, ◌∙◌, arith, drop-cons}
use Rattle.std.specs.List.{cons_option}
use Rattle.view_top.specs.Rows.{Tick, tick_at, ticks_from}
use Rattle.view_top.specs.DrawingData.{line_events, tick, line_event}
use Rattle.view_top.specs.declared.line.Event.{Event}
use Rattle.view_top.proofs.tick.ticks_of.Goals as goal

-- what one more event adds
one_more : (es : List Event) (d : Event) (at i : ℕ) (old new all : List Tick) → at ≡ i → i < length es
    → ((more : List Tick) → new ++ more ≡ old ++ cons_option (tick_at at (line_event (get_or es i d).what)) more)
    → old ++ ticks_from i (line_events (drop i es)) ≡ all → new ++ ticks_from (i + 1) (line_events (drop (i + 1) es)) ≡ all
one_more es d at i old new all same lt add so_far =
    let next : suc i ≡ i + 1 = omega arith in
    let rest = ticks_from (i + 1) (line_events (drop (i + 1) es)) in
    add rest ∙ ap (λ (k : ℕ). old ++ cons_option (tick_at k (line_event (get_or es i d).what)) rest) same
    ∙ sym (ap (λ (rest : List Event). old ++ ticks_from i (line_events rest)) (drop-cons es i d lt ∙ ap (λ (k : ℕ). get_or es i d ∷ drop k es) next))
    ∙ so_far

pub loop-event-preserved : goal.loop-event-preserved
loop-event-preserved c = record {
  at = omega arith;
  marks = one_more c.args.events.now _ c.loop-event.at c.loop-event.event-index (map tick c.loop-event.marks.items) (map tick c.add_tick.new.marks.items) _
      c.loop-event.invariant.at (omega arith) c.in_ok-add_tick.ensures c.loop-event.invariant.marks;
}
