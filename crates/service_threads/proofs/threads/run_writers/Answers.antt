use Rattle.std.proofs.Common.{arith, rules, slice_index_or, subst, sym}
use Rattle.service_threads.specs.Closings.{IsWrittenBy}
use Rattle.service_threads.proofs.Zips.{zip-places}
use Rattle.service_threads.proofs.threads.run_writers.Goals as goal

pub returns-in-Ok : goal.returns-in-Ok
returns-in-Ok g c = record {
  each = zip-places IsWrittenBy c.args.writers.items c.in-Ok.ends.items
      (omega (arith, c.in-Ok.ensures.len, c.in-Ok.ends.ok.0, c.args.writers.ok.0))
      (λ k d e less.
      let gives = (c.in-Ok.ensures.each k e less).1 in
      let met = gives.call.met in
      let written : IsWrittenBy gives.job (slice_index_or c.in-Ok.ends.items k e) = search rules in
      subst (λ w. IsWrittenBy w (slice_index_or c.in-Ok.ends.items k e)) (sym (gives.job_is d)) written);
}
