-- The policies marked so far are read, or this is the first reason of their faults.
use Rattle.std.proofs.Common.{List, take}
use Rattle.mrpc_table.specs.declared.table.Table.{Table}
use Rattle.toml.specs.Data.{Members}
use Rattle.scenario_lines.specs.Programs.{Each}
use Rattle.scenario.specs.Policies.{IsPolicyMeaning}
use Rattle.scenario_entries.specs.Entries.{views}
use Rattle.scenario_entries.specs.Marking.{HasReadMarked}
use Rattle.scenario_entries.proofs.own.read_marked.Given as goal

abbrev pub invariant-loop-place : goal.invariant-loop-place
invariant-loop-place l = (shared : Table) (tenants : List Members) → Each (IsPolicyMeaning shared tenants) (views l.entries) l.policies
    → HasReadMarked (views l.entries) tenants l.table (take l.place l.marks) l.first l.read
