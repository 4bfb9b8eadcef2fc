use Rattle.std.proofs.Common.{refl}
use Rattle.service.proofs.starting.keep_tasks.Goals as goal

pub returns : goal.returns
returns g c = record {
  added = (
    c.in_ok-push-4.ensures.items,
    c.in_ok-push-2.ensures.items,
    c.in_ok-push.ensures.items,
    c.in_ok-push-3.ensures.items,
  );
  seats = refl;
}
