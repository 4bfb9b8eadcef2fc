use Rattle.engine_core.proofs.Stepping.{ticket_again, ticket_now}
use Rattle.engine_core.proofs.work.draw.Goals as goal

pub returns-in-Some-clause-step : goal.returns-in-Some-clause-step
returns-in-Some-clause-step g c = λ version level. ticket_again c.args.tenant c.args.per c.args.cap c.args.attach version level c.args.now c.in-Some.ticket c.args.call.now c.compared.result
    (rw c.in-Some.is at c.ticket_of.ensures) c.compared.ensures.within c.compared.ensures.over

pub returns-clause-step : goal.returns-clause-step
returns-clause-step g c = λ version level. ticket_now c.args.tenant c.args.per c.args.cap c.args.attach version level
    c.args.now c.draw-ticket.result c.args.call.now c.mark.new.self c.compared-2.result
    (rw c.in_default.is at c.ticket_of.ensures) c.mark.ensures
    (λ less. rw c.min-window.ensures at (c.compared-2.ensures.within less))
    (λ more. rw c.min-window.ensures at (c.compared-2.ensures.over more))
