use Rattle.std.proofs.lemmas.Result.{on_ok_weaker, MatchResult-weaker, err_from_is_err_and}
use Rattle.table_text.proofs.ReadSoFar.{lines_none, line_here, lines_step, end_here, all_clean, blamed, table_made}
use Rattle.table_text.proofs.read.read_lines.Goals as goal

pub loop-line-init : goal.loop-line-init
loop-line-init c =
    let known = c.in_ok-known_enums.ensures in
    lines_none c.args.text.now known.types c.new-reader.result known.is_sufficient
    (c.new-reader.ensures.kept known.types known.held_enums known.held_messages)
    c.new-reader.ensures.nothing

pub returns-in_err-take-clause-fault : goal.returns-in_err-take-clause-fault
returns-in_err-take-clause-fault c =
    let s = c.loop-line.invariant in
    let here = line_here c.args.text.now c.loop-line.rest.now c.in-Some.line.now c.in-Some.others.now
    c.loop-line.number c.loop-line.reader c.in-Some.ensures.parts c.in-Some.ensures.long s in
    let blames = c.in_err-take.ensures.fault s.types s.kept in
    let p = err_from_is_err_and c.from_residual-in_err-take.result c.from_residual-in_err-take.ensures.1 in
    rw (p.1, p.2) (blamed c.args.text.now c.loop-line.rest.now c.loop-line.number c.loop-line.reader c.in_err-take.field-0.0 _ s here blames)

pub loop-line-preserved : goal.loop-line-preserved
loop-line-preserved c =
    let s = c.loop-line.invariant in
    lines_step c.args.text.now c.loop-line.rest.now c.in-Some.line.now c.in-Some.others.now c.loop-line.number
    c.loop-line.reader c.take.new.self c.in-Some.ensures.parts c.in-Some.ensures.long s
    (c.in_ok-take.ensures.clean s.types s.kept) (c.in_ok-take.ensures.kept s.types s.kept) (c.in_ok-take.ensures.draft s.types s.kept)

pub returns-clause-table : goal.returns-clause-table
returns-clause-table c =
    table_made c.args.text.now c.loop-line.rest.now c.loop-line.number c.loop-line.reader c.finish.result
    c.in_default.ensures.parts c.loop-line.invariant c.finish.ensures.clean c.finish.ensures.table

pub returns-clause-clean : goal.returns-clause-clean
returns-clause-clean c =
    on_ok_weaker c.finish.result (all_clean c.args.text.now c.loop-line.rest.now c.loop-line.number c.loop-line.reader
    c.in_default.ensures.parts c.loop-line.invariant) c.finish.ensures.clean

pub returns-clause-fault : goal.returns-clause-fault
returns-clause-fault c =
    let s = c.loop-line.invariant in
    let here = end_here c.args.text.now c.loop-line.rest.now c.loop-line.number c.loop-line.reader c.in_default.ensures.parts s in
    MatchResult-weaker c.finish.result c.finish.ensures.fault (λ t h. h) (λ e h. blamed c.args.text.now c.loop-line.rest.now c.loop-line.number c.loop-line.reader e _ s here h)
