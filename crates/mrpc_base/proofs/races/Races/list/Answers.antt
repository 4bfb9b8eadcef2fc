use Rattle.std.proofs.Common.{◌+◌, sym, ap, ◌∙◌, subst, map}
use Rattle.mrpc_base.specs.Heap.{races_with}
use Rattle.mrpc_base.specs.Parts.{AreListedBelow, ScheduledRaces, race_of}
use Rattle.mrpc_base.proofs.Listing.{listed_more, map-insert_entry}
use Rattle.mrpc_base.proofs.races.Races.list.Goals as goal

pub invariant_of-self : goal.invariant_of-self
invariant_of-self c = subst (AreListedBelow (c.self.inside.listed + 1)) (sym c.in-Ok.ensures.entries)
    (listed_more c.self.inside.waiting.entries c.args.load c.self.inside.listed (
      c.args.place,
      c.args.value,
    ) c.self.invariant)

pub returns-in-Ok-clause-made : goal.returns-in-Ok-clause-made
returns-in-Ok-clause-made c = λ _.
    ap (map race_of) c.in-Ok.ensures.entries
    ∙ map-insert_entry c.self.inside.waiting.entries c.args.load c.self.inside.listed c.args.place c.args.value c.self.invariant c.in-Ok.ensures.was_ordered
    ∙ ap (λ (waiting : ScheduledRaces). races_with waiting.races (record { load = c.args.load; place = c.args.place; value = c.args.value })) c.self.view_is
