use Rattle.std.proofs.Common.{◌<◌, List, ap, length, subst, sym, ◌∙◌}
use Rattle.std.proofs.lemmas.List.{length-map}
use Rattle.tenant_quota.specs.Drawing.{Drawing, new_half}
use Rattle.service_loop.specs.ScheduledOps.{KnowTenants}
use Rattle.service_wiring.specs.Wired.{IsWired}
use Rattle.service.proofs.Hellos.{on-ok-map}
use Rattle.service.proofs.starting.start_bound.Goals as goal

pub wire-requires-clause-plan : goal.wire-requires-clause-plan
wire-requires-clause-plan g c κs within = c.requires.plan

pub wire-requires-clause-app : goal.wire-requires-clause-app
wire-requires-clause-app g c κs within = c.requires.app

pub wire-requires-clause-steps : goal.wire-requires-clause-steps
wire-requires-clause-steps g c κs within = c.requires.steps

pub wire-requires-clause-known : goal.wire-requires-clause-known
wire-requires-clause-known g c κs within =
    subst (λ n. KnowTenants (λ tenant. tenant < n) c.args.steps.now)
    (sym (ap length c.in_ok-own.ensures.halves ∙ length-map c.args.begun.now.seats new_half)) c.requires.known

pub wire-requires-clause-lived : goal.wire-requires-clause-lived
wire-requires-clause-lived g c κs within = c.requires.lived

pub wire-requires-clause-working : goal.wire-requires-clause-working
wire-requires-clause-working g c κs within = c.requires.working

pub wire-requires-clause-none_held : goal.wire-requires-clause-none_held
wire-requires-clause-none_held g c κs within = c.requires.none_held

pub wire-requires-clause-one_heap : goal.wire-requires-clause-one_heap
wire-requires-clause-one_heap g c κs within = c.requires.one_heap

pub wire-requires-clause-new_heap : goal.wire-requires-clause-new_heap
wire-requires-clause-new_heap g c κs within = c.requires.new_heap

pub wire-requires-clause-words : goal.wire-requires-clause-words
wire-requires-clause-words g c κs within = c.requires.words

pub wire-requires-clause-order : goal.wire-requires-clause-order
wire-requires-clause-order g c κs within = c.requires.order

pub returns : goal.returns
returns g c = λ life lived fates. on-ok-map _ _ c.keep_tasks.result (λ added. record {
  item = c.in_ok-item.item;
  job = c.in_ok-item.job;
  writer = c.in_ok-item.writer;
  wired = subst (λ (seats : List Drawing). IsWired c.args.common.now.plan.now c.args.app.now (record {
    arrivals = c.args.arrivals;
    life = life;
    reader = c.args.reader;
    seats = seats;
    steps = c.args.steps.now;
    clock = c.args.common.now.clock.now;
    link = c.args.link;
  }) c.in_ok-item.item c.in_ok-item.job c.in_ok-item.writer) c.in_ok-own.ensures.halves
      (c.in_ok-item.ensures life lived fates);
  stands = added.0;
  one_item = added.1;
  one_task = added.2;
  one_writer = added.3;
  halves = c.keep_tasks.ensures.seats ∙ c.in_ok-own.ensures.kept;
}) c.keep_tasks.ensures.added
