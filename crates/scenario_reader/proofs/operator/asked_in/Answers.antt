use Rattle.std.proofs.Common.{◌≡◌, ℕ, List, length, map, sym, ap, ◌∙◌, subst, arith}
use Rattle.std.specs.Borrow.{Bor}
use Rattle.std.proofs.lemmas.List.{length-map}
use Rattle.toml.specs.View.{table_view}
use Rattle.scenario.specs.Operators.{step_lines_of}
use Rattle.scenario_reader.specs.Owning.{AreStepNames}
use Rattle.scenario_reader.specs.StepLinesReading.{HasReadLines}
use Rattle.scenario_reader.proofs.operator.asked_in.Goals as goal

pub returns-clause-told : goal.returns-clause-told
returns-clause-told c =
    let lines = ap (λ (xs : List (Bor (List ℕ))). map (λ n. n.now) xs) c.as_slice.ensures.value ∙ c.in_ok-lines.ensures in
    subst (λ (ls : List (List ℕ)). HasReadLines ls c.in_ok-steps.steps.told.items c.in_ok-steps.steps.most c.in_ok-steps.steps.first) lines
    c.in_ok-steps.ensures

pub returns-clause-head : goal.returns-clause-head
returns-clause-head c = λ all tables same says is_conn.
    let ms = table_view c.args.entry.now in
    let lines = ap (λ (xs : List (Bor (List ℕ))). map (λ n. n.now) xs) c.as_slice.ensures.value ∙ c.in_ok-lines.ensures in
    let counted = sym (ap (λ (xs : List (List ℕ)). length xs) c.in_ok-lines.ensures) ∙ length-map c.in_ok-lines.lines.items (λ n. n.now) in
    let long : c.len.result ≡ length (step_lines_of ms) = omega (arith, c.len.ensures, counted, c.as_slice.ensures.len, ap length c.as_slice.ensures.value) in
    let told =
    subst (λ (ls : List (List ℕ)). HasReadLines ls c.in_ok-steps.steps.told.items c.in_ok-steps.steps.most c.in_ok-steps.steps.first) lines
    c.in_ok-steps.ensures in
    let names =
    subst (λ (ns : List (Bor (List ℕ))). AreStepNames ms (map (λ n. n.now) ns)) (sym c.as_slice-2.ensures.value) c.in_ok-names.ensures in
    c.head_reason-head.ensures all ms tables same says is_conn long told names
