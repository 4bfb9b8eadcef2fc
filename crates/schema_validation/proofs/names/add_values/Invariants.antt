use Rattle.std.proofs.Common.{◌≡◌, ◌++◌, map, take}
use Rattle.proto_ast.specs.declared.file.ValueDecl.{ValueDecl}
use Rattle.schema_validation.specs.Entries.{name_entry, entries_of}
use Rattle.schema_validation.proofs.names.add_values.Given as goal

-- the names so far are added
abbrev pub invariant-loop-value : goal.invariant-loop-value
invariant-loop-value l =
    entries_of l.names.items
    ≡ entries_of l.initial.names.items ++ map (λ (v : ValueDecl). name_entry l.scope v.name) (take l.value-index l.values)
