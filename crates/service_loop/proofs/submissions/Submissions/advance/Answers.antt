use Rattle.std.proofs.Common.{◌≡◌, false, ap, sym, ◌∙◌}
use Rattle.descriptor_ring.specs.Rings.{Receiving}
use Rattle.service_loop.proofs.Taking.{served-open, untrue}
use Rattle.service_loop.proofs.submissions.Submissions.advance.Goals as goal

pub returns-else-closing-clause-served : goal.returns-else-closing-clause-served
returns-else-closing-clause-served g c =
    let unclosed : c.args.self.now.calls.closed ≡ false =
    untrue c.args.self.now.calls.closed
    (λ is. sym c.if-closing.false ∙ c.requires.closing.1 is) in
    served-open c.drain.result c.drain.new.self c.drain.ensures.serving c.drain.ensures.settled
    (c.drain.ensures.finished ∙ c.requires.unfinished)
    (ap (λ (r : Receiving). r.closed) c.drain.ensures.calls ∙ unclosed)
