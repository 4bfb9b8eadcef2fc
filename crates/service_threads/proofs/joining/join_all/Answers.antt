use Rattle.std.proofs.Common.{◌≡◌, [], ◌∷◌, ◌++◌, ap, sym, ◌∙◌}
use Rattle.tenant_quota.specs.Drawing.{quotas_of}
use Rattle.service_threads.specs.Joining.{all_joined}
use Rattle.service_threads.proofs.Splits.{all-front, joined-last}
use Rattle.service_threads.proofs.joining.join_all.Goals as goal

pub loop-own-preserved : goal.loop-own-preserved
loop-own-preserved c =
    let more = c.pop.new.self.items in
    let own = c.in-Some.own in
    let items : c.loop-own.others.items ≡ more ++ own ∷ [] = c.in-Some.ensures.items in (
      ap (λ s. all_joined s more) c.join.ensures ∙ sym (joined-last c.loop-own.seats more own)
          ∙ ap (λ xs. all_joined c.loop-own.seats xs) (sym items) ∙ c.loop-own.invariant.0,
      ap quotas_of c.join.ensures ∙ c.join_undoes_split.ensures.quotas c.loop-own.seats own ∙ c.loop-own.invariant.1,
      all-front (λ seats. quotas_of seats ≡ quotas_of c.args.seats.now) more own c.loop-own.others.items items
          c.loop-own.invariant.2,
    )
