use Rattle.std.proofs.Common.{◌≡◌, ◌++◌, map, take}
use Rattle.schema_validation.specs.Entries.{name_entry, entries_of}
use Rattle.schema_validation.proofs.names.add_oneofs.Given as goal

-- the names so far are added
abbrev pub invariant-loop-oneof : goal.invariant-loop-oneof
invariant-loop-oneof l =
    entries_of l.names.items
    ≡ entries_of l.initial.names.items ++ map (name_entry l.scope) (take l.oneof-index l.oneofs)
