use Rattle.std.proofs.Common.{◌≡◌, ◌++◌, map, take}
use Rattle.proto_ast.specs.declared.file.RpcDecl.{RpcDecl}
use Rattle.schema_validation.specs.Entries.{name_entry, entries_of}
use Rattle.schema_validation.proofs.names.add_rpcs.Given as goal

-- the names so far are added
abbrev pub invariant-loop-rpc : goal.invariant-loop-rpc
invariant-loop-rpc l =
    entries_of l.names.items
    ≡ entries_of l.initial.names.items ++ map (λ (r : RpcDecl). name_entry l.scope r.name) (take l.rpc-index l.rpcs)
