use Rattle.std.proofs.Common.{◌≡◌, ℕ, Bool, false, true, List, refl, sym, subst}
use Rattle.std.specs.Prelude.{IfOk, Ok, Err, Result}
use Rattle.std.specs.List.{AllZip, concat}
use Rattle.run_report.specs.declared.reported_connection.ReportedConnection.{ReportedConnection as TheShown}
use Rattle.run_driver.specs.Running.{IsReportOfConn, conns_by_number}
use Rattle.run_driver.specs.Reporting.{ArePartsOf}
use Rattle.run_driver.proofs.reporting.make_report.Goals as goal

if_ok_both : {A E : Type 0} (r : Result A E) (P Q R : A → Type 0) → ((a : A) → P a → Q a → R a) → IfOk r P → IfOk r Q → IfOk r R
if_ok_both (Ok a) P Q R step p q = step a p q
if_ok_both (Err e) P Q R step p q = tt

none-made : (with_text : Bool) (text : List ℕ) (parts : List (List ℕ)) → with_text ≡ false
    → ArePartsOf with_text text parts
none-made true text parts is = absurd cc
none-made false text parts is = tt

pub returns-then-with_text : goal.returns-then-with_text
returns-then-with_text g c =
    let conns = c.args.conns.now in
    let shows = subst (λ (l : List TheShown). AllZip (IsReportOfConn c.args.plan.now) (conns_by_number conns) l) (sym c.as_slice.ensures.value)
    c.in_ok-shown.ensures.shows in
    if_ok_both c.run_text.result _ _ _ (λ told text counts. (
      concat told.parts.items,
      subst (λ (b : Bool). ArePartsOf b (concat told.parts.items) told.parts.items) (sym c.if-with_text.true) refl,
      record { told = c.as_slice.result.now; shows = shows; is_text = text; counts = counts },
    )) c.run_text.ensures.text c.run_text.ensures.counts

pub returns : goal.returns
returns g c =
    let conns = c.args.conns.now in
    let shows = subst (λ (l : List TheShown). AllZip (IsReportOfConn c.args.plan.now) (conns_by_number conns) l) (sym c.as_slice-2.ensures.value)
    c.in_ok-shown.ensures.shows in
    let text = c.in_ok-totals.ensures.text in (
      text.0,
      none-made c.args.with_text text.0 _ c.if-with_text.false,
      record {
        told = c.as_slice-2.result.now;
        shows = shows;
        is_text = text.1;
        counts = c.in_ok-totals.ensures.counts;
      },
    )
