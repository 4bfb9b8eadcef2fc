use Rattle.std.proofs.Common.{refl, Ok, Err}
use Rattle.std.proofs.lemmas.Result.{err_from_is_err_and}
use Rattle.audit_text.specs.HappeningRefs.{connection_event_of_ref}
use Rattle.audit_text.specs.Lines.{audit_line}
use Rattle.audit_text.specs.declared.line.AuditLine.TheVariants as lines
use Rattle.audit_check.specs.States.{IsFirstLine}
use Rattle.audit_check.proofs.FirstLines.{line_shorter, told_first}
use Rattle.audit_check.proofs.TextLines.{taken_on}
use Rattle.audit_check.proofs.audit.take_first_line.Goals as goal

pub returns-in_err-take_call_event-clause-takes : goal.returns-in_err-take_call_event-clause-takes
returns-in_err-take_call_event-clause-takes c limit text r =
    let T = c.args.table.now in
    let declared = c.args.declared.now in
    let x = connection_event_of_ref c.in-Some.next in
    let can = c.in-Some.ensures.writable T declared in
    let first : IsFirstLine c.args.rest.now (audit_line T x) c.in-Some.others.now =
    told_first T x c.args.rest.now c.in-Some.others.now
    (c.line_splits_into_words.ensures.happening T declared x c.requires.valid can) (c.in-Some.ensures.told T declared) in
    let same = err_from_is_err_and c.from_residual.result c.from_residual.ensures.1 in
    rw (same.1, same.2)
    (taken_on c.line_splits_into_words.ensures.stands c.stands_line_determines_call.ensures.apart T declared limit text
    c.args.rest.now (audit_line T x) c.in-Some.others.now c.args.progress.now c.take_call_event.new.self (lines.Happened x) (Err _) r
    c.requires.some first can refl (c.in_err-take_call_event.ensures limit r.history r.told r.progress))

pub returns-in-Some-clause-takes : goal.returns-in-Some-clause-takes
returns-in-Some-clause-takes c limit text r =
    let T = c.args.table.now in
    let declared = c.args.declared.now in
    let x = connection_event_of_ref c.in-Some.next in
    let can = c.in-Some.ensures.writable T declared in
    let first : IsFirstLine c.args.rest.now (audit_line T x) c.in-Some.others.now =
    told_first T x c.args.rest.now c.in-Some.others.now
    (c.line_splits_into_words.ensures.happening T declared x c.requires.valid can) (c.in-Some.ensures.told T declared) in
    taken_on c.line_splits_into_words.ensures.stands c.stands_line_determines_call.ensures.apart T declared limit text
    c.args.rest.now (audit_line T x) c.in-Some.others.now c.args.progress.now c.take_call_event.new.self (lines.Happened x) (Ok tt) r
    c.requires.some first can refl (c.in_ok-take_call_event.ensures limit r.history r.told r.progress)

pub returns-in-Some-clause-shorter : goal.returns-in-Some-clause-shorter
returns-in-Some-clause-shorter c =
    let T = c.args.table.now in
    let declared = c.args.declared.now in
    let x = connection_event_of_ref c.in-Some.next in
    line_shorter c.args.rest.now (audit_line T x) c.in-Some.others.now
    (told_first T x c.args.rest.now c.in-Some.others.now
    (c.line_splits_into_words.ensures.happening T declared x c.requires.valid (c.in-Some.ensures.writable T declared))
    (c.in-Some.ensures.told T declared)) c.requires.some

pub returns-in_err-take_line-clause-takes : goal.returns-in_err-take_line-clause-takes
returns-in_err-take_line-clause-takes c limit text r =
    let same = err_from_is_err_and c.from_residual-in_err-take_line.result c.from_residual-in_err-take_line.ensures.1 in
    rw (same.1, same.2)
    (c.in_err-take_line.ensures limit text c.args.rest.now c.first_line.result.1.now r c.requires.some c.first_line.ensures)
