use Rattle.std.proofs.Common.{take}
use Rattle.std.specs.List.{flat_map}
use Rattle.schema_validation.specs.Methods.{service_rpcs}
use Rattle.schema_resolve.specs.InOrder.{AreMethods}
use Rattle.schema_resolve.proofs.method_table.methods_in.Given as goal

abbrev pub invariant-loop-i : goal.invariant-loop-i
invariant-loop-i l = AreMethods l.files l.plan (flat_map service_rpcs (take l.i l.files.services)) l.methods
