use Rattle.std.proofs.Common.{map, take, List, ◌++◌}
use Rattle.proto_ast.specs.declared.file.ServiceDecl.{ServiceDecl}
use Rattle.proto_ast.specs.declared.file.RpcDecl.{RpcDecl}
use Rattle.schema_resolve.specs.InOrder.{AreMethods}
use Rattle.schema_resolve.proofs.method_table.add_methods.Given as goal

abbrev pub invariant-loop-i : goal.invariant-loop-i
invariant-loop-i l =
    (done : List (ServiceDecl × RpcDecl)) → AreMethods l.scopes l.plan done l.initial.methods
    → AreMethods l.scopes l.plan (done ++ map (λ (x : RpcDecl). (l.service, x)) (take l.i l.service.rpcs)) l.methods
