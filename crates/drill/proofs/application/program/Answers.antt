use Rattle.std.proofs.Common.{◌≡◌, ◌+◌, [], ◌∷◌, ap, sym, ◌∙◌, arith}
use Rattle.app_program.specs.declared.program.ProgramLine.TheVariants.{Store, Submit}
use Rattle.drill.specs.Drill.{client_call_lines}
use Rattle.drill.proofs.Growing.{two-more}
use Rattle.drill.proofs.application.program.Goals as goal

pub loop-before-preserved : goal.loop-before-preserved
loop-before-preserved c =
    let n = c.loop-before.before in
    let next : 1 + n ≡ n + 1 = omega arith in
    let at = c.address-addr.ensures.value in
    let has = c.value.ensures in
    let both : client_call_lines c.args.calls c.args.number (1 + n)
    ≡ Store c.address-addr.result c.value.result ∷ Submit 0 c.address-addr.result ∷ [] =
    ap (client_call_lines c.args.calls c.args.number) next
    ∙ (λ i. Store (sym at i) (sym has i) ∷ Submit 0 (sym at i) ∷ []) in
    two-more (client_call_lines c.args.calls c.args.number) 1 n c.loop-before.lines c.push.new.self c.push-in-loop-before.new.self
    (Store c.address-addr.result c.value.result) (Submit 0 c.address-addr.result) both c.loop-before.invariant c.in_ok-push.ensures.ok
    c.in_ok-push-2.ensures.ok
