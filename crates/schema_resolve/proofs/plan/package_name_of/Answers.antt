use Rattle.std.proofs.lemmas.Result.{IfOk-weaker}
use Rattle.schema_resolve.proofs.FullNames.{a_package}
use Rattle.schema_resolve.proofs.plan.package_name_of.Goals as goal

pub returns-in-Some : goal.returns-in-Some
returns-in-Some c =
    IfOk-weaker c.copied.result _ _ (λ name is. a_package c.args.head.now.package c.in-Some.package name c.in-Some.is is)
    c.copied.ensures
