-- Connections that can be reported have a text.
use Rattle.std.proofs.Common.{◌≡◌, ℕ, ◌-◌, Bool, All, List, [], ◌∷◌, ◌++◌, length, refl, sym, ap, ◌∙◌}
use Rattle.std.specs.List.{AllZip, concat, flat_map}
use Rattle.std.proofs.lemmas.List.Elements.{All-head, All-tail}
use Rattle.frame_transport.specs.Frames.{IsSplitUnique}
use Rattle.frame_transport.specs.Feed.{total_fed}
use Rattle.frame_transport.specs.declared.format.Frame.{Frame}
use Rattle.receive_core.specs.ReceiverTraces.{ReceiverTrace}
use Rattle.message_delivery.specs.Arriving.{HasTrace, IsArrivalTrace}
use Rattle.message_delivery.specs.declared.arrivals.Arrivals.{Arrivals}
use Rattle.telemetry.specs.Totals.{IsTextOf}
use Rattle.run_report.specs.Counting.{counted_in}
use Rattle.run_report.specs.ConnectionReport.{IsStreamRemainder, cut_text, waiting_text}
use Rattle.run_report.specs.Report.{IsRunText, IsServedText, IsReportText, IsReportable, IsReportableConn, rounds_of}
use Rattle.run_report.specs.declared.reported_connection.ReportedConnection.{ReportedConnection}
use Rattle.run_report.specs.declared.reported_connection.ReportedConnection.TheVariants.{Served, Unbound}
use Rattle.run_report.specs.declared.reported_connection.ServedReport.{ServedReport}
use Rattle.run_report.proofs.Keeping.{cut-same}

module _ (once : IsSplitUnique) where
  -- the remainder after the frames of a trace
  abbrev left-behind : (conn : ℕ) (failed : Bool) (life : ReceiverTrace) (a : Arrivals) → IsArrivalTrace life a → List ℕ
  left-behind conn failed life a lived =
      cut_text conn failed life.fault (length life.stream - length lived.lives.all.rest) lived.lives.all.rest
      ++ waiting_text conn lived.lives.waiting

  -- it is the same after those of another trace
  left-same : (conn : ℕ) (failed : Bool) (life other : ReceiverTrace) (a : Arrivals) (lived : IsArrivalTrace life a)
      (also : IsArrivalTrace other a) → left-behind conn failed life a lived ≡ left-behind conn failed other a also
  left-same conn failed life other a lived also =
      let fed = a.inbound.fed in
      let same : (lived.lives.waiting ≡ also.lives.waiting) × (lived.lives.kept.rest ≡ also.lives.kept.rest) =
      once fed.place fed.bytes lived.lives.waiting also.lives.waiting lived.lives.kept.rest also.lives.kept.rest
      lived.lives.kept.splits also.lives.kept.splits in
      let kept : cut_text conn failed a.fault (total_fed fed - length lived.lives.kept.rest) lived.lives.kept.rest
      ≡ cut_text conn failed a.fault (total_fed fed - length also.lives.kept.rest) also.lives.kept.rest =
      ap (λ (r : List ℕ). cut_text conn failed a.fault (total_fed fed - length r) r) same.1 in
      let cut = sym (cut-same once life a lived conn failed) ∙ kept ∙ cut-same once other a also conn failed in
      ap (λ (t : List ℕ). t ++ waiting_text conn lived.lives.waiting) cut
      ∙ ap (λ (fs : List Frame). cut_text conn failed other.fault (length other.stream - length also.lives.all.rest)
      also.lives.all.rest ++ waiting_text conn fs) same.0

  left-of : (conn : ℕ) (failed : Bool) (a : Arrivals) → HasTrace a
      → (left : List ℕ) × ((life : ReceiverTrace) → IsArrivalTrace life a → IsStreamRemainder conn failed life left)
  left-of conn failed a arriving = (
    left-behind conn failed arriving.0 a arriving.1,
    λ life lived. record {
      waiting = lived.lives.waiting;
      rest = lived.lives.all.rest;
      splits = lived.lives.all.splits;
      lines = left-same conn failed arriving.0 life a arriving.1 lived;
    },
  )

  served-text : (s : ServedReport) → IsReportableConn s → (text : List ℕ) × IsServedText s text
  served-text s can =
      let left = left-of s.calls.now.conn s.calls.now.ended s.arrivals.now can.arriving in
      (_, record { left = left.0; is_remainder = left.1; lines = refl })

  shown-text : (s : ReportedConnection) → IsReportable s → (text : List ℕ) × IsReportText s text
  shown-text (Unbound conn why) can = (_, refl)
  shown-text (Served served) can = served-text served can

  texts-of : (shown : List ReportedConnection) → All IsReportable shown → (each : List (List ℕ)) × AllZip IsReportText shown each
  texts-of [] all = ([], tt)
  texts-of (s ∷ shown) all =
      let here = shown-text s (All-head IsReportable s shown all) in
      let more = texts-of shown (All-tail IsReportable s shown all) in
      (here.0 ∷ more.0, (here.1, more.1))

  pub a-text : (shown : List ReportedConnection) (totals : List ℕ) → All IsReportable shown → IsTextOf (flat_map counted_in shown) totals
      → (text : List ℕ) × IsRunText shown text
  a-text shown totals all counts =
      let texts = texts-of shown all in (
        concat texts.0 ++ flat_map rounds_of shown ++ totals,
        record { each = texts.0; texts = texts.1; totals = totals; counts = counts; whole = refl },
      )
