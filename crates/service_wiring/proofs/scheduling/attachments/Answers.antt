use Rattle.std.proofs.Common.{◌≡◌, ℕ, ◌<◌, List, length, ap, arith}
use Rattle.run_plan.specs.Chains.{steps_on}
use Rattle.service_wiring.specs.Listing.{remaining_lines}
use Rattle.service_wiring.proofs.Stepping.{listed-place, place-there}
use Rattle.service_wiring.proofs.scheduling.attachments.Goals as goal

pub attached-requires : goal.attached-requires
attached-requires c =
    let long : length c.as_slice-places.result.now ≡ length c.args.app.now.chain =
    ap (λ (xs : List ℕ). length xs) c.as_slice-places.ensures in
    let within : c.places.at < length c.args.app.now.chain = omega arith in
    place-there c.args.plan.now c.args.app.now c.requires.app c.places.steps.items c.places.at
    (remaining_lines (steps_on c.args.plan.now.operators c.args.app.now.conn)) _ within c.places.invariant.0

pub places-preserved : goal.places-preserved
places-preserved c =
    let long : length c.as_slice-places.result.now ≡ length c.args.app.now.chain =
    ap (λ (xs : List ℕ). length xs) c.as_slice-places.ensures in
    let within : c.places.at < length c.args.app.now.chain = omega arith in (
      rw c.in_ok-push.ensures.items
          (listed-place c.args.plan.now c.args.app.now c.places.steps.items c.places.at c.in_ok-due.due
          (steps_on c.args.plan.now.operators c.args.app.now.conn) within c.in_ok-due.ensures.count
          c.in_ok-due.ensures.step c.places.invariant.0),
      omega arith,
    )
