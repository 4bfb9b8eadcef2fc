use Rattle.std.proofs.Common.{◌≡◌, sym, subst}
use Rattle.proto_ast.specs.declared.file.File.{File}
use Rattle.schema_resolve.specs.Resolving.{Resolves}
use Rattle.scenario.proofs.schema.table_in.Goals as goal

pub returns-in-Err-At-clause-table : goal.returns-in-Err-At-clause-table
returns-in-Err-At-clause-table c = λ T has.
    let e = c.in-Err-At.ensures.only has.file has.reads in
    absurd cc

pub returns-in-Err-At-resolve-clause-table : goal.returns-in-Err-At-resolve-clause-table
returns-in-Err-At-resolve-clause-table c = λ T has.
    let same : has.file ≡ c.in-Ok.file = sym (c.in-Ok.ensures.only has.file has.reads) in
    let e = c.in-Err-At-resolve.ensures.only T (subst (λ (f : File). Resolves f T) same has.resolves) in
    absurd cc
