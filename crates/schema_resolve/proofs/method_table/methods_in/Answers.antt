use Rattle.std.proofs.Common.{◌<◌, sym, ap, subst, length, arith, ◌++◌}
use Rattle.proto_ast.specs.Together.{IsOrdered}
use Rattle.proto_ast.specs.Joined.{Joined}
use Rattle.schema_validation.specs.Methods.{service_rpcs}
use Rattle.schema_resolve.specs.Resolving.{HasNoViolation}
use Rattle.schema_resolve.specs.InOrder.{AreMethods}
use Rattle.schema_resolve.proofs.CleanFiles.{item_at}
use Rattle.schema_resolve.proofs.MethodTables.{no_methods, next_service}
use Rattle.schema_resolve.proofs.method_table.methods_in.Goals as goal

pub loop-i-init : goal.loop-i-init
loop-i-init c = no_methods _ _ _ c.new-methods.ensures

pub add_methods-requires-clause-clean : goal.add_methods-requires-clause-clean
add_methods-requires-clause-clean c = subst HasNoViolation (sym c.requires.scopes) c.requires.clean

pub add_methods-requires-clause-ordered : goal.add_methods-requires-clause-ordered
add_methods-requires-clause-ordered c = subst IsOrdered (sym c.requires.scopes) c.requires.ordered

pub loop-i-preserved : goal.loop-i-preserved
loop-i-preserved c =
    let l : c.loop-i.i < length c.args.files.now.services = omega (arith, ap length c.services-services.ensures) in
    let at = item_at c.services-services.result.now c.args.files.now.services c.loop-i.i c.index-services-i.result c.services-services.ensures l c.index-services-i.is in
    next_service c.args.files.now c.args.plan.now c.loop-i.i c.index-services-i.result c.loop-i.methods _ at
    (λ done h.
    let P : Joined → Type 0 = λ F. AreMethods F c.args.plan.now done c.loop-i.methods in
    let Q : Joined → Type 0 = λ F. AreMethods F c.args.plan.now (done ++ service_rpcs c.index-services-i.result) c.add_methods.new.methods in
    subst Q c.requires.scopes (c.in_ok-add_methods.ensures done (subst P (sym c.requires.scopes) h)))
    c.loop-i.invariant
