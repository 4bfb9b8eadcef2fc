use Rattle.std.proofs.Common.{sym, ◌∙◌}
use Rattle.std.proofs.lemmas.Option.{slice_get-get_or}
use Rattle.qos_order.proofs.Turns.{conn-found, set-visited}
use Rattle.qos_order.specs.declared.wheel_entry.WheelEntry.{WheelEntry}
use Rattle.qos_order.proofs.wheel_entries.count.Goals as goal

pub returns : goal.returns
returns c =
    let none : WheelEntry = record { conn = 0; weight = 0; account = record { visits = 0; rounds = 0; kept = 0; dropped = 0 } } in
    let found = sym c.in-Some.ensures.seat ∙ slice_get-get_or c.args.seats.now c.in-Some.place none c.in-Some.ensures.within in
    let is = conn-found c.args.seats.now c.args.conn _ found in
    rw c.visit.ensures.visited (set-visited c.args.conn _ c.args.seats.now c.in-Some.place none c.requires.once c.in-Some.ensures.within is)
