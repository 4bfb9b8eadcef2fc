use Rattle.std.proofs.Common.{List, length, sym, ap, ◌∙◌}
use Rattle.std.specs.Prelude.{String}
use Rattle.std.specs.BTreeMap.{BTreeMap}
use Rattle.std.specs.Borrow.{Bor}
use Rattle.std.specs.declared.alloc.Global.{Global}
use Rattle.std.proofs.lemmas.List.{length-map}
use Rattle.std.proofs.lemmas.Result.{err_from_is_err_and}
use Rattle.toml.specs.declared.value.Value.{Value}
use Rattle.toml.specs.Data.{Members}
use Rattle.toml.specs.View.{table_view}
use Rattle.scenario.specs.Applications.{policy_tables, tenant_tables}
use Rattle.scenario.specs.Policies.{IsPolicyMeaning}
use Rattle.scenario_entries.specs.Entries.{views}
use Rattle.scenario_reader.proofs.Lists.{each_length}
use Rattle.scenario_reader.proofs.reader.read_parts.Goals as goal

pub returns-in_err-declared : goal.returns-in_err-declared
returns-in_err-declared c =
    let p = err_from_is_err_and c.from_residual-in_err-declared.result c.from_residual-in_err-declared.ensures.1 in
    rw (p.1, p.2) c.in_err-declared.ensures

pub read_below-requires-clause-long : goal.read_below-requires-clause-long
read_below-requires-clause-long c =
    let ms = table_view c.args.all.now in
    let entries = c.in_ok-declared.declared.policies.items in
    let declarations = c.in_ok-declared.declared.declarations in
    let says = c.in_ok-declared.ensures in
    ap (λ (xs : List (Bor (BTreeMap (String Global) Value))). length xs) c.as_slice.ensures.value ∙ sym (length-map entries (λ t. table_view t.now))
    ∙ ap (λ (es : List Members). length es) says.entries
    ∙ each_length (IsPolicyMeaning c.args.table.now (tenant_tables ms)) (policy_tables ms) declarations.policies says.policies

pub returns-in_err-below : goal.returns-in_err-below
returns-in_err-below c =
    let says = c.in_ok-declared.ensures in
    let entries = ap views c.as_slice.ensures.value ∙ says.entries in
    let p = err_from_is_err_and c.from_residual-in_err-below.result c.from_residual-in_err-below.ensures.1 in
    rw (p.1, p.2) (c.in_err-below.ensures c.args.table.now says.free c.requires.schema says.of_policies says.policies entries)

pub returns : goal.returns
returns c =
    let says = c.in_ok-declared.ensures in
    let entries = ap views c.as_slice.ensures.value ∙ says.entries in
    record {
      service = c.in_ok-service.ensures ∙ c.text_or_empty.ensures;
      tenants = says.tenants;
      policies = says.policies;
      below = c.in_ok-below.ensures c.args.table.now says.free c.requires.schema says.of_policies says.policies entries;
    }
