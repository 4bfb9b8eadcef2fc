use Rattle.proto_ast.specs.declared.file.ServiceDecl.{ServiceDecl}
use Rattle.proto_ast.specs.declared.joined.Enclosing.TheVariants as home
use Rattle.schema_validation.specs.Entries.{HaveNumbers, IsEntryOfService, IsEntryOfFirst, HasAddedEntries, entries_of}
use Rattle.schema_validation.proofs.names.add_services.Given as goal

-- the services so far are added, and have numbers
abbrev pub invariant-loop-i : goal.invariant-loop-i
invariant-loop-i l = record {
  numbers : HaveNumbers l.fn.files l.i l.fn.files.services (λ (s : ServiceDecl). home.File s.file);
  names : HasAddedEntries (IsEntryOfFirst l.i l.fn.files.services (IsEntryOfService l.fn.files))
      (entries_of l.initial.names.items) (entries_of l.names.items);
}
