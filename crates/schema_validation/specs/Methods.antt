-- The methods of files that are resolved together, in order.
use Rattle.std.specs.Prelude.{List, map}
use Rattle.std.specs.List.{flat_map}
use Rattle.proto_ast.specs.Joined.{Joined}
use Rattle.proto_ast.specs.declared.file.RpcDecl.{RpcDecl}
use Rattle.proto_ast.specs.declared.file.ServiceDecl.{ServiceDecl}

abbrev pub service_rpcs : ServiceDecl → List (ServiceDecl × RpcDecl)
service_rpcs s = map (λ r. (s, r)) s.rpcs

abbrev pub rpcs_of : Joined → List (ServiceDecl × RpcDecl)
rpcs_of F = flat_map service_rpcs F.services
