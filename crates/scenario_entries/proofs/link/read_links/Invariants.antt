-- The entries so far are links without faults.
use Rattle.std.proofs.Common.{◌≡◌, take}
use Rattle.toml.specs.Data.{Members}
use Rattle.scenario_lines.specs.Programs.{Each}
use Rattle.scenario.specs.Applications.{IsLinkFault, app_tables}
use Rattle.scenario_entries.specs.Entries.{AreFaultFree, views}
use Rattle.scenario_entries.specs.AppConnections.{IsAppConnectionOf}
use Rattle.scenario.specs.Scenarios.{IsLinkMeaning}
use Rattle.scenario_entries.proofs.link.read_links.Given as goal

abbrev pub invariant-loop-entry : goal.invariant-loop-entry
invariant-loop-entry l = record {
  numbered : l.number ≡ l.entry-index;
  read : (all : Members) → Each IsAppConnectionOf (app_tables all) l.ports
      → AreFaultFree (IsLinkFault all) (views (take l.entry-index l.entries))
      × Each IsLinkMeaning (views (take l.entry-index l.entries)) l.links;
}
