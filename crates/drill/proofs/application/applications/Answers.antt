use Rattle.std.proofs.Common.{◌≡◌, ◌+◌, [], ◌∷◌, ap, sym, ◌∙◌, arith}
use Rattle.drill.specs.Drill.{client_and_echo}
use Rattle.drill.proofs.Growing.{two-more}
use Rattle.drill.proofs.application.applications.Goals as goal

pub loop-before-preserved : goal.loop-before-preserved
loop-before-preserved c =
    let n = c.loop-before.before in
    let next : 1 + n ≡ n + 1 = omega arith in
    let both : client_and_echo c.args.calls (1 + n) ≡ c.in_ok-client.field-0 ∷ c.echo.result ∷ [] =
    ap (client_and_echo c.args.calls) next ∙ (λ i. sym c.in_ok-client.ensures i ∷ sym c.echo.ensures i ∷ []) in
    two-more (client_and_echo c.args.calls) 1 n c.loop-before.apps c.push.new.self c.push-in-loop-before.new.self
    c.in_ok-client.field-0 c.echo.result both c.loop-before.invariant c.in_ok-push.ensures.ok
    c.in_ok-push-2.ensures.ok
