use Rattle.std.proofs.Common.{◌≡◌, ◌+◌, ◌*◌, ◌-◌, ◌++◌, [], ◌∷◌, ap, sym, ◌∙◌, arith}
use Rattle.std.proofs.lemmas.List.FromFn.{map-range_with_len_more}
use Rattle.std.specs.Prelude.{map}
use Rattle.std.specs.List.{range_with_len}
use Rattle.run_plan.specs.declared.plan.LinkPlan.{LinkPlan}
use Rattle.drill.specs.Drill.{link_of_client}
use Rattle.drill.proofs.plan.links.Goals as goal

pub loop-before-preserved : goal.loop-before-preserved
loop-before-preserved c =
    let n = c.loop-before.before in
    let first : 2 * n + 1 ≡ 2 * (1 + n) - 1 = omega arith in
    let second : 2 * n + 2 ≡ 2 * (1 + n) = omega arith in
    let pair : ◌≡◌ {A = LinkPlan} (record { a = 2 * n + 1; b = 2 * n + 2 }) (link_of_client (1 + n)) =
    (λ i. record { a = first i; b = second i }) in
    c.in_ok-push.ensures.ok ∙ ap (λ pairs. pairs ++ record { a = 2 * n + 1; b = 2 * n + 2 } ∷ []) c.loop-before.invariant
    ∙ ap (λ (p : LinkPlan). map link_of_client (range_with_len 1 n) ++ p ∷ []) pair
    ∙ sym (map-range_with_len_more link_of_client 1 n (1 + n) (omega arith))
