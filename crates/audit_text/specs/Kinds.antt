-- The code's own: the first words of lines.
use Rattle.std.specs.Prelude.{ℕ, List, codes, Option, Some, None, if◌then◌else◌}
use Rattle.std.specs.Str.{bytes_eq}
use Rattle.audit_text.specs.declared.event_words.LineKind.{LineKind}
use Rattle.audit_text.specs.declared.event_words.LineKind.TheVariants.{Took, Away, Op, Moment, Charged, Drawn, Counted, Redacted, Sent, Refused}

abbrev pub read_kind : List ℕ → Option LineKind
read_kind word =
    if bytes_eq word (codes "charged") then Some Charged
    else if bytes_eq word (codes "drawn") then Some Drawn
    else if bytes_eq word (codes "counted") then Some Counted
    else if bytes_eq word (codes "sent") then Some Sent
    else if bytes_eq word (codes "took") then Some Took
    else if bytes_eq word (codes "moment") then Some Moment
    else if bytes_eq word (codes "redacted") then Some Redacted
    else if bytes_eq word (codes "refused") then Some Refused
    else if bytes_eq word (codes "op") then Some Op
    else if bytes_eq word (codes "away") then Some Away
    else None
