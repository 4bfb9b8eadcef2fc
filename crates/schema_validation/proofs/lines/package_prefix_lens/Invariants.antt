use Rattle.std.proofs.Common.{◌≡◌, map, take}
use Rattle.proto_ast.specs.declared.joined.Head.{Head}
use Rattle.proto_ast.specs.Joined.{package_parts}
use Rattle.mrpc_table.specs.Capped.{capped}
use Rattle.schema_validation.specs.Lengths.{prefix_length}
use Rattle.schema_validation.proofs.lines.package_prefix_lens.Given as goal

-- the lengths so far are stored
abbrev pub invariant-loop-head : goal.invariant-loop-head
invariant-loop-head l =
    l.fronts.items
    ≡ map (λ (h : Head). capped (prefix_length (package_parts h.package))) (take l.head-index l.heads)
