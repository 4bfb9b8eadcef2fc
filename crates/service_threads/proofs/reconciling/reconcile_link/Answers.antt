use Rattle.std.proofs.Common.{◌≡◌, ◌++◌, true, false, sym, ap, subst, ◌∙◌}
use Rattle.mrpc_base.specs.Failures.{HasRisen}
use Rattle.link_queue.specs.Known.{HasGrownBy}
use Rattle.link_queue.specs.Writers.{received_since, sent_since, inner_link_of, inner_start_of}
use Rattle.service_threads.proofs.reconciling.reconcile_link.Goals as goal

pub returns : goal.returns
returns g c = λ found.
    let met = c.meet.ensures in
    let w = c.meet.new.self in
    let told = c.failed-failed.ensures in
    let link : c.into_link-link.result ≡ inner_link_of w = c.into_link-link.ensures.link in
    let start : inner_start_of w ≡ inner_start_of c.args.writer = met.start in
    record {
      sent = sent_since w;
      came = received_since w;
      handed = ap g.L.Link.handed link ∙ met.handed ∙ ap (λ l. g.L.Link.handed l ++ sent_since w) start;
      in_order = met.in_order;
      all_handed = λ works. met.all_handed
          (λ failed. let wrong : true ≡ false = sym (told.failed.1 failed) ∙ works in cc)
          (λ lacks. let wrong : true ≡ false = sym (c.is_out_of_memory-memory.ensures.1 lacks) ∙ found in cc);
      given = subst (λ l. HasGrownBy (g.L.Link.given l) (g.L.Link.given c.into_link-link.result) (received_since w)) start
          (subst (λ l. HasGrownBy (g.L.Link.given (inner_start_of w)) (g.L.Link.given l) (received_since w)) (sym link) met.given);
      given_first = met.came;
      all_came = met.all_came;
      ended = λ ended. ap g.L.Link.ended link ∙ met.ended ended;
      learnt = λ failed. told.failed.1 (met.failed failed);
      rose = λ failed. subst (λ l. HasRisen (g.L.Link.failures l) (g.L.Link.failures c.into_link-link.result)) start
          (subst (λ l. HasRisen (g.L.Link.failures (inner_start_of w)) (g.L.Link.failures l)) (sym link) (told.rose failed));
      stays = λ works. ap g.L.Link.failures link ∙ told.stays works ∙ ap g.L.Link.failures start;
      since = λ first since. c.into_link-link.ensures.same_link first
          (subst (λ l. g.L.Link.since first l) (sym start) since);
    }
