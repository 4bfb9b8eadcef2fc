use Rattle.std.proofs.Common.{refl}
use Rattle.mem_fabric.proofs.Causes.{failed_cause, no_cause}
use Rattle.mem_fabric.proofs.mem_fabric.MemFabricFabric.open_pair.Goals as goal

pub returns-then-next : goal.returns-then-next
returns-then-next g c =
    let next = c.if-next.ensures in
    rw (next.counted, c.raise-self-inside.ensures.value, ← c.self.view_is) (record {
      fails = (λ _. next.fails.0 refl, λ _. refl);
      pair = tt;
      handed = tt;
      given = tt;
      not_ended = tt;
      no_faults = tt;
      first = tt;
      second = tt;
      away = tt;
      same_away = refl;
      openings = refl;
      cause = failed_cause _ _ refl c.raise-self-inside.ensures.never_falls;
      same = refl;
    })

pub returns-then-is_err : goal.returns-then-is_err
returns-then-is_err g c =
    let next = c.if-next.ensures in
    rw (next.counted, c.reserve.ensures.items, ← c.self.view_is) (record {
      fails = (λ e. absurd (cc (e)), λ found. absurd (cc (next.fails.1 found)));
      pair = tt;
      handed = tt;
      given = tt;
      not_ended = tt;
      no_faults = tt;
      first = tt;
      second = tt;
      away = tt;
      same_away = refl;
      openings = refl;
      cause = no_cause _ _ (λ e. cc (e));
      same = refl;
    })

pub returns-in-Err : goal.returns-in-Err
returns-in-Err g c =
    let next = c.if-next.ensures in
    rw (next.counted, c.reserve.ensures.items, ← c.self.view_is) (record {
      fails = (λ e. absurd (cc (e)), λ found. absurd (cc (next.fails.1 found)));
      pair = tt;
      handed = tt;
      given = tt;
      not_ended = tt;
      no_faults = tt;
      first = tt;
      second = tt;
      away = tt;
      same_away = refl;
      openings = refl;
      cause = no_cause _ _ (λ e. cc (e));
      same = refl;
    })

pub returns-in-Ok : goal.returns-in-Ok
returns-in-Ok g c =
    let next = c.if-next.ensures in
    let ends = c.in-Ok.ensures in
    rw (next.counted, c.reserve.ensures.items, ← c.self.view_is) (record {
      fails = (λ e. absurd (cc (e)), λ found. absurd (cc (next.fails.1 found)));
      pair = ends.pair;
      handed = (ends.first.handed, ends.second.handed);
      given = (ends.first.new.given, ends.second.new.given);
      not_ended = (ends.first.ended, ends.second.ended);
      no_faults = (ends.first.failures, ends.second.failures);
      first = ends.first.new;
      second = ends.second.new;
      away = refl;
      same_away = tt;
      openings = refl;
      cause = no_cause _ _ (λ e. cc (e));
      same = refl;
    })
