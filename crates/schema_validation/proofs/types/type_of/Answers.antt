use Rattle.std.proofs.Common.{ℕ, List, sym, subst}
use Rattle.std.specs.Prelude.{Option, MatchOption}
use Rattle.schema_validation.specs.Types.{IsNoScalar}
use Rattle.schema_symbols.specs.Lookups.{IsUnresolved}
use Rattle.schema_validation.specs.Shapes.{IsType}
use Rattle.schema_validation.specs.declared.types.TypeOf.{TypeOf}
use Rattle.schema_validation.proofs.Scalars.{no_scalar}
use Rattle.schema_validation.proofs.types.type_of.Goals as goal

pub returns-in_err-find-in-None : goal.returns-in_err-find-in-None
returns-in_err-find-in-None c = λ scope is.
    let F = c.args.scopes.now in
    let file = c.args.file in
    let name = c.args.word.now.name in
    subst
    (λ (r : Option TypeOf). MatchOption r (IsNoScalar name × IsUnresolved F file scope name) (IsType F file scope name))
    (sym c.from_residual.ensures)
    (subst (λ (n : List ℕ). IsNoScalar n × IsUnresolved F file scope n) c.as_slice-name.ensures
    (no_scalar c.as_slice-name.result.now (sym c.in-None.ensures), c.in_err-find-in-None.ensures scope is))
