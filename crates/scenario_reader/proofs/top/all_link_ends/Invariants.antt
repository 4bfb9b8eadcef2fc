use Rattle.std.proofs.Common.{◌≡◌, take}
use Rattle.scenario.specs.Applications.{all_entry_ends}
use Rattle.scenario_entries.specs.Entries.{views}
use Rattle.scenario_reader.proofs.top.all_link_ends.Given as goal

abbrev pub invariant-loop-entry : goal.invariant-loop-entry
invariant-loop-entry l = l.ends.items ≡ all_entry_ends (views (take l.entry-index l.entries))
