use Rattle.std.proofs.Common.{◌≡◌, ◌+◌, ◌++◌, All, [], ◌∷◌, suc, map, take, sym, ap, ◌∙◌, subst, arith}
use Rattle.std.proofs.lemmas.List.{map-append}
use Rattle.std.proofs.lemmas.List.Elements.{All-append}
use Rattle.std.proofs.Math.Seq.{take-suc}
use Rattle.run_report.specs.Prefixes.{CanMakePrefix, expected_for, expected_by}
use Rattle.run_report.specs.declared.reported_connection.ReportedConnection.{ReportedConnection}
use Rattle.run_report.proofs.Making.{all-one}
use Rattle.run_report.proofs.prefixes.sources.Goals as goal

pub loop-one-preserved : goal.loop-one-preserved
loop-one-preserved c =
    let shown = c.args.shown.now in
    let making = expected_for c.args.with_text in
    let i = c.loop-one.one-index in
    let one = c.one-item.result in
    let source = c.source_of.result in
    let before = c.loop-one.sources.items in
    let so = c.loop-one.invariant in
    let place : suc i ≡ i + 1 = omega arith in
    let next : take i shown ++ one ∷ [] ≡ take (i + 1) shown =
    ap (λ (x : ReportedConnection). take i shown ++ x ∷ []) c.one-item.is
    ∙ sym (take-suc shown i one c.loop-one-test.true) ∙ ap (λ n. take n shown) place in
    let texts : map expected_by (before ++ source ∷ []) ≡ map making (take (i + 1) shown) =
    map-append expected_by before (source ∷ []) ∙ ap (λ l. l ++ expected_by source ∷ []) so.0
    ∙ ap (λ t. map making (take i shown) ++ t ∷ []) c.source_of.ensures.same
    ∙ sym (map-append making (take i shown) (one ∷ [])) ∙ ap (map making) next in
    let can : All CanMakePrefix (before ++ source ∷ []) = All-append CanMakePrefix before (source ∷ []) so.1
    (all-one CanMakePrefix source c.source_of.ensures.can) in
    subst (λ items. (map expected_by items ≡ map making (take (i + 1) shown)) × All CanMakePrefix items)
    (sym c.in_ok-push.ensures.items) (texts, can)
