use Rattle.std.proofs.Common.{◌≡◌, ◌≤◌, ◌++◌, ℕ, length, ap, sym, ◌∙◌, arith}
use Rattle.mrpc_table.specs.Text.{line}
use Rattle.frame_transport.specs.Feed.{total_fed}
use Rattle.run_report.specs.Lines.{waits_words}
use Rattle.run_report.specs.ConnectionReport.{waits_line}
use Rattle.run_report.proofs.Keeping.{few-fed}
use Rattle.run_report.proofs.Lines.{all-of, goes-on}
use Rattle.run_report.proofs.stream_remainder.append_waiting.Goals as goal

pub loop-place-preserved : goal.loop-place-preserved
loop-place-preserved c = λ frames rest splits.
    let told = c.in-Some.ensures.some frames rest splits in
    let shown : (c.in-Some.kind, c.in-Some.method, c.in-Some.number) ≡ (told.0.kind, told.0.method, told.0.number) =
    (λ i. (sym c.in-Some.kind-is i, sym c.in-Some.method-is i, sym c.in-Some.number-is i)) ∙ told.2 in
    let same : line (waits_words c.args.conn c.in-Some.kind c.in-Some.method c.in-Some.number) ≡ waits_line c.args.conn told.0 =
    ap (λ (p : ℕ × ℕ × ℕ). line (waits_words c.args.conn p.0 p.1 p.2)) shown in
    goes-on (waits_line c.args.conn) c.args.out.now c.loop-place.out c.append_waits.new.out frames c.loop-place.place told.0 told.1
    (c.loop-place.invariant frames rest splits) (c.in_ok-append_waits.ensures ∙ ap (λ text. c.loop-place.out ++ text) same)

pub returns : goal.returns
returns c = λ frames rest splits.
    let few : length frames ≤ total_fed c.args.inbound.now.fed = few-fed c.args.inbound.now.fed frames rest splits in
    let low : length frames ≤ c.loop-place.place = omega (arith, few, c.fed-place-end.ensures) in
    c.loop-place.invariant frames rest splits
    ∙ ap (λ lines. c.args.out.now ++ lines) (all-of (waits_line c.args.conn) frames c.loop-place.place low)
