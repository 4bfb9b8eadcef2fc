use Rattle.proto_ast.specs.Joined.{enclosing_of}
use Rattle.schema_validation.specs.Entries.{HaveNumbers, HaveOwnNumbers, IsEntryOfMessage, IsEntryOfFirst, HasAddedEntries, entries_of}
use Rattle.schema_validation.proofs.names.add_messages.Given as goal

-- the messages so far are added, and have numbers
abbrev pub invariant-loop-i : goal.invariant-loop-i
invariant-loop-i l = record {
  outer : HaveNumbers l.fn.files l.i l.fn.files.messages enclosing_of;
  own : HaveOwnNumbers l.fn.files l.i;
  names : HasAddedEntries (IsEntryOfFirst l.i l.fn.files.messages (IsEntryOfMessage l.fn.files))
      (entries_of l.initial.names.items) (entries_of l.names.items);
}
