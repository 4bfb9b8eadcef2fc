use Rattle.std.proofs.Common.{◌≡◌, Some, None, Ok, sym, ◌∙◌}
use Rattle.audit_text.specs.LineWords.{tail_words}
use Rattle.audit_text.specs.Reading.{words_in}
use Rattle.audit_text.specs.EventReading.{read_away, read_charged, read_counted, read_drawn, read_moment, read_redacted, read_refused, read_sent, read_op}
use Rattle.audit_text.specs.declared.event_words.LineKind.TheVariants as kinds
use Rattle.audit_text.proofs.Causes.{op-none, op-said, refused-read, refused-said}
use Rattle.audit_text.proofs.KindLines.{IsTold, away-read, away-said, charged-read, charged-said, counted-read}
use Rattle.audit_text.proofs.KindLines.{counted-said, drawn-read, drawn-said, moment-read, moment-said, redacted-read}
use Rattle.audit_text.proofs.KindLines.{redacted-said, sent-read, sent-said}
use Rattle.audit_text.proofs.LineParts.{reads-kind}
use Rattle.audit_text.proofs.Said.{reads-by}
use Rattle.audit_text.proofs.line.event_of_kind.Goals as goal

pub returns-in-None-2 : goal.returns-in-None-2
returns-in-None-2 c =
    let T = c.args.table.now in
    let declared = c.args.declared.now in
    let ws = words_in c.args.rest in
    let none : read_op declared ws ≡ None = sym c.in_ok-operation-in-Op.ensures ∙ c.in-None-2.is in
    λ x h e. op-none T declared ws none x (h.0, h.1 ∙ c.in-Op.is) e

pub returns-in-Some-2 : goal.returns-in-Some-2
returns-in-Some-2 c =
    let T = c.args.table.now in
    let declared = c.args.declared.now in
    let ws = words_in c.args.rest in
    let some : read_op declared ws ≡ Some c.in-Some-2.step = sym c.in_ok-operation-in-Op.ensures ∙ c.in-Some-2.is in
    let h = op-said T declared ws c.in-Some-2.step some in ((h.0.0, sym c.in-Op.is), h.1)

pub returns-in-Away : goal.returns-in-Away
returns-in-Away c =
    let T = c.args.table.now in
    let declared = c.args.declared.now in
    let ws = words_in c.args.rest in
    reads-kind T declared kinds.Away c.args.kind ws (Ok c.away.result) c.in-Away.is
    (reads-by (IsTold T declared kinds.Away) (tail_words T) read_away (away-said T declared) (away-read T declared) ws (Ok c.away.result) c.away.ensures)

pub returns-in-Moment : goal.returns-in-Moment
returns-in-Moment c =
    let T = c.args.table.now in
    let declared = c.args.declared.now in
    let ws = words_in c.args.rest in
    reads-kind T declared kinds.Moment c.args.kind ws (Ok c.moment.result) c.in-Moment.is
    (reads-by (IsTold T declared kinds.Moment) (tail_words T) read_moment (moment-said T declared) (moment-read T declared) ws (Ok c.moment.result) c.moment.ensures)

pub returns-in-Sent : goal.returns-in-Sent
returns-in-Sent c =
    let T = c.args.table.now in
    let declared = c.args.declared.now in
    let ws = words_in c.args.rest in
    reads-kind T declared kinds.Sent c.args.kind ws (Ok c.sent.result) c.in-Sent.is
    (reads-by (IsTold T declared kinds.Sent) (tail_words T) read_sent (sent-said T declared) (sent-read T declared) ws (Ok c.sent.result) c.sent.ensures)

pub returns-in-Charged : goal.returns-in-Charged
returns-in-Charged c =
    let T = c.args.table.now in
    let declared = c.args.declared.now in
    let ws = words_in c.args.rest in
    reads-kind T declared kinds.Charged c.args.kind ws c.charged.result c.in-Charged.is
    (reads-by (IsTold T declared kinds.Charged) (tail_words T) read_charged (charged-said T declared) (charged-read T declared) ws c.charged.result c.charged.ensures)

pub returns-in-Drawn : goal.returns-in-Drawn
returns-in-Drawn c =
    let T = c.args.table.now in
    let declared = c.args.declared.now in
    let ws = words_in c.args.rest in
    reads-kind T declared kinds.Drawn c.args.kind ws c.drawn.result c.in-Drawn.is
    (reads-by (IsTold T declared kinds.Drawn) (tail_words T) read_drawn (drawn-said T declared) (drawn-read T declared) ws c.drawn.result c.drawn.ensures)

pub returns-in-Counted : goal.returns-in-Counted
returns-in-Counted c =
    let T = c.args.table.now in
    let declared = c.args.declared.now in
    let ws = words_in c.args.rest in
    reads-kind T declared kinds.Counted c.args.kind ws c.counted.result c.in-Counted.is
    (reads-by (IsTold T declared kinds.Counted) (tail_words T) read_counted (counted-said T declared) (counted-read T declared) ws c.counted.result c.counted.ensures)

pub returns-in-Redacted : goal.returns-in-Redacted
returns-in-Redacted c =
    let T = c.args.table.now in
    let declared = c.args.declared.now in
    let ws = words_in c.args.rest in
    reads-kind T declared kinds.Redacted c.args.kind ws c.redacted.result c.in-Redacted.is
    (reads-by (IsTold T declared kinds.Redacted) (tail_words T) read_redacted (redacted-said T declared) (redacted-read T declared) ws c.redacted.result c.redacted.ensures)

pub returns-in-Refused : goal.returns-in-Refused
returns-in-Refused c =
    let T = c.args.table.now in
    let declared = c.args.declared.now in
    let ws = words_in c.args.rest in
    reads-kind T declared kinds.Refused c.args.kind ws c.refused.result c.in-Refused.is
    (reads-by (IsTold T declared kinds.Refused) (tail_words T) read_refused (refused-said T declared) (refused-read T declared) ws c.refused.result c.refused.ensures)
