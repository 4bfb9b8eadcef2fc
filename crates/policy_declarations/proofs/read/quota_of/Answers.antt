use Rattle.std.proofs.Common.{ℕ, List, get_or, refl, sym, ap, ◌∙◌}
use Rattle.mrpc_table.specs.Lines.{words_of}
use Rattle.engine_core.specs.declared.policy.Policy.TheVariants.{Quota}
use Rattle.script_grammar.specs.Meanings.{meanings_of}
use Rattle.script_grammar.specs.WordKinds.{name_at}
use Rattle.script_grammar.specs.declared.fault.ScriptReason.TheVariants.{Unknown}
use Rattle.policy_declarations.specs.Declarations.{tenant_index}
use Rattle.policy_declarations.specs.DeclarationTexts.{no_tenant}
use Rattle.policy_declarations.specs.declared.declaration.Tenant.{Tenant}
use Rattle.policy_declarations.specs.declared.declaration_form.DeclarationForm.TheVariants as of
use Rattle.policy_declarations.proofs.HeadFaults.{third_name}
use Rattle.policy_declarations.proofs.Naming as naming
use Rattle.policy_declarations.proofs.Naming.{get_or_of}
use Rattle.policy_declarations.proofs.read.quota_of.Goals as goal

pub unreachable-requires : goal.unreachable-requires
unreachable-requires c =
    let d = c.args.declared.now in
    let ms = meanings_of c.args.words.now in
    let none = ap (tenant_index d) (sym c.name_at.ensures) ∙ sym c.tenant.ensures ∙ c.in_default.is in
    c.requires.free Unknown
    (no_tenant (name_at ms 3) refl (third_name d of.Quota (words_of c.args.line.now) ms c.requires.said refl)
    (naming.none_there (λ (t : Tenant). t.name) (name_at ms 3) d.tenants none) refl)

pub returns : goal.returns
returns c =
    let d = c.args.declared.now in
    let ms = meanings_of c.args.words.now in
    let place = c.in-Some.place in
    let found = ap (tenant_index d) (sym c.name_at.ensures) ∙ sym c.tenant.ensures ∙ c.in-Some.is in
    let p = naming.place_is (λ (t : Tenant). t.name) (name_at ms 3) d.tenants place found in
    let at = c.index-tenants-place.result in
    let is = ap (λ (xs : List Tenant). get_or xs place at) c.tenants-tenants.ensures.tenants ∙ get_or_of d.tenants place p.item at p.at in
    record {
      place = place;
      tenant = p.item;
      found = found;
      there = p.at;
      policy_is = ap (λ (t : Tenant). Quota place t.per c.number_at.result) is ∙ ap (λ (n : ℕ). Quota place p.item.per n) c.number_at.ensures;
    }
