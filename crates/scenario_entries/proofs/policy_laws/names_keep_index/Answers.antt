use Rattle.std.proofs.Common.{ℕ, Option, not, ap}
use Rattle.std.specs.Prelude.{is_some}
use Rattle.policy_declarations.specs.declared.declaration.NamedPolicy.{NamedPolicy}
use Rattle.scenario.specs.Policies.{entry_names}
use Rattle.scenario_entries.proofs.Declaring.{place_absent, place_there, policies_named}
use Rattle.scenario_entries.proofs.Using.{place_same}
use Rattle.scenario_entries.proofs.policy_laws.names_keep_index.Goals as goal

pub returns-clause-names : goal.returns-clause-names
returns-clause-names c = λ T tenants entries d says. policies_named T tenants entries d says

pub returns-clause-places : goal.returns-clause-places
returns-clause-places c = λ d entries name same. place_same d entries name same

pub returns-clause-there : goal.returns-clause-there
returns-clause-there c = λ d entries name place same found.
    (place_there (λ (p : NamedPolicy). p.name) name d.policies (entry_names entries) same).0 (ap is_some found)

pub returns-clause-absent : goal.returns-clause-absent
returns-clause-absent c = λ d entries name same none.
    (place_absent (λ (p : NamedPolicy). p.name) name d.policies (entry_names entries) same).0 (ap (λ (o : Option ℕ). not (is_some o)) none)
