-- Notes and sends with borrowed names, as read from their lines (this project's own).
use Rattle.call_history.specs.declared.happening.ConnectionEvent.{ConnectionEvent}
use Rattle.call_history.specs.declared.happening.Happening.{Happening}
use Rattle.call_history.specs.declared.happening.Happening.TheVariants as happen
use Rattle.audit_text.specs.declared.short_line.HappeningRef.{HappeningRef}
use Rattle.audit_text.specs.declared.short_line.HappeningRef.TheVariants as briefs
use Rattle.audit_text.specs.declared.short_line.HappenedRef.{HappenedRef}

-- its event
abbrev pub event_of_ref : HappeningRef → Happening
event_of_ref (briefs.Charged seq name left) = happen.Charged seq name.now left
event_of_ref (briefs.Drawn seq name window ticket) = happen.Drawn seq name.now window ticket
event_of_ref (briefs.Counted seq name) = happen.Counted seq name.now
event_of_ref (briefs.Sent seq bytes) = happen.Sent seq bytes

-- its event, with the connection
abbrev pub connection_event_of_ref : HappenedRef → ConnectionEvent
connection_event_of_ref b = record { conn = b.conn; what = event_of_ref b.what }
