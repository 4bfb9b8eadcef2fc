-- The code's own: the parts of a drawing as data, from the code's types.
use Rattle.std.specs.Prelude.{List, map}
use Rattle.view_top.specs.Lines.{LineEvent, took, sent, refused, operation, moment, ConnLineEvent}
use Rattle.view_top.specs.Rows.{Tick, CallOutcome, was_sent, was_refused, stands, End, Bar, TimelineRow}
use Rattle.view_top.specs.SvgPieces.{SvgPiece, text, number, quote}
use Rattle.view_top.specs.declared.line.Event.{Event}
use Rattle.view_top.specs.declared.line.EventKind.{EventKind}
use Rattle.view_top.specs.declared.line.EventKind.TheVariants.{Took, Sent as IsSent, Refused as IsRefused, Operation, Moment}
use Rattle.view_top.specs.declared.part.Tick.{Tick as TheMark}
use Rattle.view_top.specs.declared.part.Bar.{Bar as TheBar}
use Rattle.view_top.specs.declared.part.End.{End as TheEnd}
use Rattle.view_top.specs.declared.part.CallOutcome.{CallOutcome as TheFate}
use Rattle.view_top.specs.declared.part.CallOutcome.TheVariants.{Sent, Refused, Stands}
use Rattle.view_top.specs.declared.part.TimelineRow.{TimelineRow as TheRow}
use Rattle.view_top.specs.declared.svg_piece.SvgPiece.{SvgPiece as ThePiece}
use Rattle.view_top.specs.declared.svg_piece.SvgPiece.TheVariants.{Text, Number, Quote}

abbrev pub line_event : EventKind → LineEvent
line_event (Took seq method) = took seq method
line_event (IsSent seq) = sent seq
line_event (IsRefused seq cause) = refused seq cause.now
line_event (Operation words) = operation words.now
line_event (Moment words) = moment words.now

abbrev pub conn_line_event : Event → ConnLineEvent
conn_line_event e = record { conn = e.conn; what = line_event e.what }

-- the events, in order
abbrev pub line_events : List Event → List LineEvent
line_events es = map (λ e. line_event e.what) es

abbrev pub tick : TheMark → Tick
tick m = record { at = m.at; words = m.words.now; is_step = m.is_step }

abbrev pub outcome : TheFate → CallOutcome
outcome Sent = was_sent
outcome (Refused cause) = was_refused cause.now
outcome Stands = stands

abbrev pub end_view : TheEnd → End
end_view e = record { to = e.to; fate = outcome e.fate }

abbrev pub bar : TheBar → Bar
bar b = record { seq = b.seq; method = b.method; from = b.from; end = end_view b.end }

abbrev pub row : TheRow → TimelineRow
row r = record { conn = r.conn; happenings = r.happenings; marks = map tick r.marks.items; bars = map bar r.bars.items }

abbrev pub svg_piece : ThePiece → SvgPiece
svg_piece (Text bytes) = text bytes.now
svg_piece (Number n) = number n
svg_piece (Quote words) = quote words.now
