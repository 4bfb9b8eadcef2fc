-- The declarations of a text: tenants and policies, each with a unique name (this project's own).
use Rattle.std.specs.Prelude.{◌≡◌, ℕ, ◌<◌, ◌≤◌, List, [], ◌∷◌, ◌++◌, map, length, All, Option, None, position}
use Rattle.std.specs.Str.{bytes_eq}
use Rattle.mrpc_table.specs.Names.{IsName}
use Rattle.mrpc_table.specs.Valid.{AreDistinct}
use Rattle.engine_core.specs.Policies.{IsPolicy, KnowsTenantOf}
use Rattle.policy_declarations.specs.declared.declaration.Tenant.{Tenant}
use Rattle.policy_declarations.specs.declared.declaration.NamedPolicy.{NamedPolicy}
use Rattle.policy_declarations.specs.declared.declaration.Declaration.{Declaration}
use Rattle.policy_declarations.specs.declared.declaration.Declaration.TheVariants as item
use Rattle.policy_declarations.specs.declared.limits.TheConstants.{MAX_TENANTS}

-- in the order of their declarations
pub record Declared : Type 0 where
  pub tenants : List Tenant
  pub policies : List NamedPolicy

abbrev pub no_declarations : Declared
no_declarations = record { tenants = []; policies = [] }

abbrev pub tenant_names : Declared → List (List ℕ)
tenant_names d = map (λ t. t.name) d.tenants

abbrev pub policy_names : Declared → List (List ℕ)
policy_names d = map (λ p. p.name) d.policies

-- the index of the tenant, or the policy, with a name, counted from 0; none if there is none
abbrev pub tenant_index : Declared → List ℕ → Option ℕ
tenant_index d name = position (λ t. bytes_eq t.name name) d.tenants

abbrev pub policy_index : Declared → List ℕ → Option ℕ
policy_index d name = position (λ p. bytes_eq p.name name) d.policies

-- its name is free among tenants or policies, and there is room for one more tenant if it is one
abbrev pub IsNew : Declared → Declaration → Type 0
IsNew d (item.Tenant t) = (tenant_index d t.name ≡ None) × (length d.tenants < MAX_TENANTS)
IsNew d (item.Policy p) = policy_index d p.name ≡ None

-- one more declaration
abbrev pub with_declaration : Declared → Declaration → Declared
with_declaration d (item.Tenant t) = record { tenants = d.tenants ++ t ∷ []; policies = d.policies }
with_declaration d (item.Policy p) = record { tenants = d.tenants; policies = d.policies ++ p ∷ [] }

-- the declarations are valid: names are distinct, numbers are in their ranges, and each quota's tenant is declared
pub record AreValidDeclarations (d : Declared) : Type 0 where
  pub few : length d.tenants ≤ MAX_TENANTS
  pub tenants_distinct : AreDistinct (tenant_names d)
  pub policies_distinct : AreDistinct (policy_names d)
  pub tenants_named : All IsName (tenant_names d)
  pub policies_named : All IsName (policy_names d)
  pub windows : All (λ t. (1 ≤ t.per) × (t.per ≤ 86400000)) d.tenants
  pub policies : All (λ p. IsPolicy p.policy × KnowsTenantOf (λ place. place < length d.tenants) p.policy) d.policies
