use Rattle.std.proofs.Common.{◌≡◌, ◌<◌, ℕ, true, rules, ap, sym, subst, ◌∙◌}
use Rattle.spsc_queue.specs.Ends.{pushed_of}
use Rattle.link_queue.specs.declared.orders.Order.TheVariants.{Close}
use Rattle.link_queue.specs.declared.orders.Health.TheVariants.{Failed}
use Rattle.spsc_queue.specs.Pieces.{frames_of_pieces}
use Rattle.link_queue.specs.Sentinels.{is_closed}
use Rattle.link_queue.proofs.Pieces.{closed_snoc_close, frames_snoc_mark}
use Rattle.link_queue.proofs.queue_link.QueueLink.close.Goals as goal

pub invariant_of-result : goal.invariant_of-result
invariant_of-result g c =
    let inv = c.self.invariant in
    let fails : (c.eq.result ≡ true → c.self.inside.health ≡ Failed) = search rules in
    record {
      closed_last = ap is_closed c.push_reserved.ensures.done ∙ closed_snoc_close (pushed_of c.self.inside.out) inv.0.unclosed;
      ends = inv.1.ends;
      gave = inv.1.gave;
      fails = λ e. inv.1.fails (fails e);
    }

pub returns-clause-handed : goal.returns-clause-handed
returns-clause-handed g c = ap frames_of_pieces c.push_reserved.ensures.done ∙ frames_snoc_mark (pushed_of c.self.inside.out) Close ∙ ap (λ v. v.handed) c.self.view_is

pub returns-clause-counted : goal.returns-clause-counted
returns-clause-counted g c = λ some.
    let same = ap (λ v. v.failures) c.self.view_is in
    let rose : 0 < c.self.inside.failures = subst (λ (n : ℕ). 0 < n) (sym same) some in
    let fails : c.self.inside.health ≡ Failed = c.self.invariant.1.counts rose in
    let says : (c.self.inside.health ≡ Failed → c.eq.result ≡ true) = search rules in
    says fails
