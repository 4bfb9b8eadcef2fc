use Rattle.std.proofs.Common.{[], refl, inr}
use Rattle.call_history.specs.Legal.{IsLegal}
use Rattle.audit_check.specs.Stages.{IsIllegalAt}
use Rattle.audit_check.specs.States.{IsListing, stands_line_of}
use Rattle.audit_check.proofs.Rows.{row_begins}
use Rattle.audit_check.proofs.Stages.{err_at, first_line_at, illegal_more, ok_at, some_lines}
use Rattle.audit_check.proofs.stage.Stage.list_next.Goals as goal

pub returns-in-Some : goal.returns-in-Some
returns-in-Some c limit h before stage line =
    let now = ok_at c.in_ok-row.field-0 (λ row. IsLegal c.args.table.now limit h × IsListing c.args.table.now limit h before row) (IsIllegalAt c.args.table.now limit h before) c.in-Ok.row c.in-Ok.is
    (c.in_ok-row.ensures c.args.table.now limit h before stage (first_line_at h before c.args.line line)) in
    record { some_listed = some_lines before (stands_line_of c.args.told); legal = now.0; is_row = c.in-Some.ensures.tells limit h before now.1 }

pub returns-in-None : goal.returns-in-None
returns-in-None c limit h before stage line =
    let now = ok_at c.in_ok-row.field-0 (λ row. IsLegal c.args.table.now limit h × IsListing c.args.table.now limit h before row) (IsIllegalAt c.args.table.now limit h before) c.in-Ok.row c.in-Ok.is
    (c.in_ok-row.ensures c.args.table.now limit h before stage (first_line_at h before c.args.line line)) in
    let row = c.in-Ok.row in
    inr (
      some_lines before (stands_line_of c.args.told),
      inr (inr (record {
        legal = now.0;
        front = before;
        back = [];
        next = stands_line_of c.args.told;
        lines = refl;
        begin = row_begins c.args.table.now limit h before row.current row.rest now.1;
        ends = c.in-None.ensures.not limit h before now.1;
        counted = line;
        rule = refl;
      })),
    )

pub returns-in-Err : goal.returns-in-Err
returns-in-Err c limit h before stage line =
    illegal_more c.args.table.now limit h before (stands_line_of c.args.told) c.in-Err.illegal
    (err_at c.in_ok-row.field-0 (λ row. IsLegal c.args.table.now limit h × IsListing c.args.table.now limit h before row) (IsIllegalAt c.args.table.now limit h before) c.in-Err.illegal c.in-Err.is
    (c.in_ok-row.ensures c.args.table.now limit h before stage (first_line_at h before c.args.line line)))

pub list_next-requires-clause-known : goal.list_next-requires-clause-known
list_next-requires-clause-known c =
    let k = c.requires.known in
    let now = ok_at c.in_ok-row.field-0 (λ row. IsLegal c.args.table.now k.0 k.1 × IsListing c.args.table.now k.0 k.1 k.2 row) (IsIllegalAt c.args.table.now k.0 k.1 k.2) c.in-Ok.row c.in-Ok.is
    (c.in_ok-row.ensures c.args.table.now k.0 k.1 k.2 k.3 (first_line_at k.1 k.2 c.args.line k.4)) in (k.0, k.1, k.2, now.1)

pub listing-requires : goal.listing-requires
listing-requires c = let k = c.requires.known in record { known = (c.args.table.now, k.0, k.1, k.2, k.3) }
