use Rattle.std.proofs.Common.{◌<◌, sym, ap, ◌∙◌}
use Rattle.std.proofs.lemmas.List.Elements.{All-rest}
use Rattle.mrpc_base.specs.Parts.{ScheduledRaces}
use Rattle.mrpc_base.proofs.Listing.{first_race}
use Rattle.mrpc_base.proofs.races.Races.take_first.Goals as goal

pub invariant_of-self-2 : goal.invariant_of-self-2
invariant_of-self-2 c = All-rest (λ entry. entry.0.1 < c.self.inside.listed) _ _ _ c.in_ok-store.ensures.removal c.self.invariant

pub returns-clause-first : goal.returns-clause-first
returns-clause-first c =
    let first = first_race c.self.inside.waiting.entries c.pop_first.new.self.entries _ c.in_ok-store.ensures.removal in
    (first.0, sym (ap (λ (waiting : ScheduledRaces). waiting.races) c.self.view_is) ∙ first.1, first.2)
