use Rattle.proto_ast.specs.Joined.{enclosing_of_enum}
use Rattle.schema_validation.specs.Entries.{HaveNumbers, IsEntryOfEnum, IsEntryOfFirst, HasAddedEntries, entries_of}
use Rattle.schema_validation.proofs.names.add_enums.Given as goal

-- the enums so far are added, and have numbers
abbrev pub invariant-loop-i : goal.invariant-loop-i
invariant-loop-i l = record {
  numbers : HaveNumbers l.fn.files l.i l.fn.files.enums enclosing_of_enum;
  names : HasAddedEntries (IsEntryOfFirst l.i l.fn.files.enums (IsEntryOfEnum l.fn.files))
      (entries_of l.initial.names.items) (entries_of l.names.items);
}
