use Rattle.std.proofs.Common.{◌≡◌, ◌∙◌, Bool, false, true, Option, None, Some, ap, refl}
use Rattle.std.specs.Prelude.{is_some, not}
use Rattle.service_threads.proofs.BeforeMeeting.{backward-is, forward-is, may-meet}
use Rattle.service_threads.proofs.Members.{seats-stay}
use Rattle.service_threads.proofs.Together.{has-served}
use Rattle.service_threads.proofs.reconciling.reconcile.Goals as goal

-- an option that isn't empty has a value
something : {T : Type 0} (o : Option T) (none : Bool) → is_some o ≡ not none → none ≡ false → (x : T) × (o ≡ Some x)
something (Some x) none is there = (x, refl)
something None none is there = absurd (let wrong : false ≡ true = is ∙ ap not there in cc)

pub reconcile_link-met-requires-clause-forward : goal.reconcile_link-met-requires-clause-forward
reconcile_link-met-requires-clause-forward g c =
    forward-is c.requires.left.0 c.args.closed c.args.end c.args.writer c.requires.left.1 (record {
      handed = λ l. refl;
      given = λ l. refl;
      ended = λ l. refl;
      failures = λ l. refl;
      itself = λ l. (refl, refl, refl);
      forward = λ old new since. since.0;
      backward = λ old new since. since.1;
    })

pub reconcile_link-met-requires-clause-backward : goal.reconcile_link-met-requires-clause-backward
reconcile_link-met-requires-clause-backward g c =
    backward-is c.requires.left.0 c.args.closed c.args.end c.args.writer c.requires.left.1 (record {
      handed = λ l. refl;
      given = λ l. refl;
      ended = λ l. refl;
      failures = λ l. refl;
      itself = λ l. (refl, refl, refl);
      forward = λ old new since. since.0;
      backward = λ old new since. since.1;
    })

pub reconcile_parts-bound-requires-clause-sent : goal.reconcile_parts-bound-requires-clause-sent
reconcile_parts-bound-requires-clause-sent g c =
    something c.args.end.sent c.is_none.result c.is_none.ensures c.if-is_none.false

pub reconcile_parts-bound-requires-clause-met : goal.reconcile_parts-bound-requires-clause-met
reconcile_parts-bound-requires-clause-met g c = λ sent is.
    may-meet c.requires.left.0 c.args.closed c.args.end c.args.writer c.requires.left.1 (record {
      handed = λ l. refl;
      given = λ l. refl;
      ended = λ l. refl;
      failures = λ l. refl;
      itself = λ l. (refl, refl, refl);
      forward = λ old new since. since.0;
      backward = λ old new since. since.1;
    }) c.if-closed.false sent is

pub returns : goal.returns
returns g c = record {
  served = λ o left.
      let together = c.reconcile_parts-bound.ensures in
      has-served o c.args.closed c.args.end c.args.writer left
      (record {
        handed = λ l. refl;
        given = λ l. refl;
        ended = λ l. refl;
        failures = λ l. refl;
        itself = λ l. (refl, refl, refl);
        forward = λ old new since. since.0;
        backward = λ old new since. since.1;
      })
      (record {
        knows = λ seats tenant known. known;
        drawn = λ seats tenant window. refl;
        itself = seats-stay;
        later = λ old new later. later;
      })
      c.if-closed.false together.0 together.1 c.reconcile_link-met.result.failed c.reconcile_link-met.result.link
      (c.reconcile_link-met.ensures c.if-met.false) c.reconcile_parts-bound.result together.2;
}
