use Rattle.std.proofs.Common.{◌≡◌, ◌++◌, map, take}
use Rattle.proto_ast.specs.declared.file.FieldDecl.{FieldDecl}
use Rattle.schema_validation.specs.Entries.{name_entry, entries_of}
use Rattle.schema_validation.proofs.names.add_fields.Given as goal

-- the names so far are added
abbrev pub invariant-loop-field : goal.invariant-loop-field
invariant-loop-field l =
    entries_of l.names.items
    ≡ entries_of l.initial.names.items ++ map (λ (f : FieldDecl). name_entry l.scope f.name) (take l.field-index l.fields)
