-- The code's own: the tests of a declaration's first line.
use Rattle.std.specs.Prelude.{nat_le, Bool, false, ◌&&◌, not, List, length, is_some}
use Rattle.script_grammar.specs.WordKinds.{Meaning, name_at}
use Rattle.policy_declarations.specs.Declarations.{Declared, tenant_index, policy_index}
use Rattle.policy_declarations.specs.DeclarationTexts.{is_tenant}
use Rattle.policy_declarations.specs.declared.declaration_form.DeclarationForm.{DeclarationForm}
use Rattle.policy_declarations.specs.declared.declaration_form.DeclarationForm.TheVariants as of
use Rattle.policy_declarations.specs.declared.limits.TheConstants.{MAX_TENANTS}

abbrev pub has_max_tenants : Declared → DeclarationForm → Bool
has_max_tenants d f = is_tenant f && nat_le MAX_TENANTS (length d.tenants)

abbrev pub is_name_taken : Declared → DeclarationForm → List Meaning → Bool
is_name_taken d of.Tenant meanings = is_some (tenant_index d (name_at meanings 1))
is_name_taken d _ meanings = is_some (policy_index d (name_at meanings 1))

abbrev pub lacks_tenant : Declared → DeclarationForm → List Meaning → Bool
lacks_tenant d of.Quota meanings = not (is_some (tenant_index d (name_at meanings 3)))
lacks_tenant d _ meanings = false
