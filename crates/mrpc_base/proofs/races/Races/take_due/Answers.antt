use Rattle.std.proofs.Common.{◌<◌, ◌≤◌, All, subst, sym, ap, arith}
use Rattle.std.proofs.lemmas.Option.{IfSome_then}
use Rattle.mrpc_base.specs.Parts.{ScheduledRaces, IsFirstRace, IsFirstDue}
use Rattle.mrpc_base.proofs.Listing.{first_due, none_due}
use Rattle.mrpc_base.proofs.races.Races.take_due.Goals as goal

pub returns-then-load-number-clause-none : goal.returns-then-load-number-clause-none
returns-then-load-number-clause-none c =
    let seen = ap (λ (waiting : ScheduledRaces). waiting.races) c.self.view_is in
    subst (All (λ race. c.args.number < race.load)) seen
    (none_due c.args.number c.self.inside.waiting.entries c.in_ok-load.field-0-0.now c.if-load-number.true c.in_ok-load.ensures.all_from)

pub returns-clause-first : goal.returns-clause-first
returns-clause-first c =
    let seen = ap (λ (waiting : ScheduledRaces). waiting.races) c.self.view_is in
    let key = c.in_ok-load.field-0-0.now in
    let due : key.0 ≤ c.args.number = omega (arith, c.if-load-number.false) in
    IfSome_then c.take_first.result c.take_first.ensures.first
    (λ store first. subst (λ races. IsFirstDue c.args.number races c.take_first.new.self.races store) seen
    (first_due c.args.number c.self.inside.waiting.entries key c.in_ok-load.field-0-1.now store c.take_first.new.self.races c.in_ok-load.ensures.first due
    (subst (λ races. IsFirstRace races c.take_first.new.self.races store) (sym seen) first)))
