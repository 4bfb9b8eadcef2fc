use Rattle.std.proofs.Common.{arith, rules, slice_index_or, subst, sym}
use Rattle.service_wiring.specs.Applications.{IsEndOf}
use Rattle.service_threads.proofs.Zips.{zip-places}
use Rattle.service_threads.proofs.threads.run_applications.Goals as goal

pub returns-in-Ok : goal.returns-in-Ok
returns-in-Ok g c = record {
  each = zip-places IsEndOf c.args.jobs.items c.in-Ok.ends.items
      (omega (arith, c.in-Ok.ensures.len, c.in-Ok.ends.ok.0, c.args.jobs.ok.0))
      (λ k d e less.
      let gives = (c.in-Ok.ensures.each k e less).1 in
      let met = gives.call.met in
      let ended : IsEndOf gives.job (slice_index_or c.in-Ok.ends.items k e) = search rules in
      subst (λ j. IsEndOf j (slice_index_or c.in-Ok.ends.items k e)) (sym (gives.job_is d)) ended);
}
