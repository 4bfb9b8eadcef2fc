-- Declarations stay valid with one more.
use Rattle.std.proofs.Common.{ℕ, ◌<◌, ◌≤◌, Bool, List, [], ◌∷◌, ◌++◌, length, map, get_or, All, Contains, refl, sym, subst, inl, inr, arith}
use Rattle.std.proofs.lemmas.Bool.{cases_lt}
use Rattle.std.proofs.lemmas.List.{map_push, length_push}
use Rattle.std.proofs.lemmas.List.Elements.{All-push, Contains-append_right, Contains-push_cases}
use Rattle.mrpc_table.specs.Lines.{words_of}
use Rattle.mrpc_table.specs.Names.{IsName}
use Rattle.mrpc_table.specs.Valid.{AreDistinct}
use Rattle.mrpc_table.specs.declared.table.Table.{Table}
use Rattle.engine_core.specs.Policies.{IsPolicy, KnowsTenantOf}
use Rattle.engine_core.specs.declared.policy.Policy.{Policy as ThePolicy}
use Rattle.engine_core.specs.declared.policy.Policy.TheVariants as policy
use Rattle.script_grammar.specs.Forms.{word_kinds_of}
use Rattle.script_grammar.specs.WordKinds.{Meaning, name_at, number_at}
use Rattle.script_grammar.specs.declared.fault.ScriptReason.TheVariants as reason
use Rattle.policy_declarations.specs.Declarations.{Declared, tenant_names, policy_names, IsNew, with_declaration, AreValidDeclarations}
use Rattle.policy_declarations.specs.DeclarationTexts.{head_form, policy_with_name, rate_of_words, IsQuotaOfWords, HasDeclarationByHead, IsDeclarationHead, too_many, is_name_taken, names_before, HasDeclaration}
use Rattle.policy_declarations.specs.declared.declaration.Declaration.{Declaration}
use Rattle.policy_declarations.specs.declared.declaration.Declaration.TheVariants as item
use Rattle.policy_declarations.specs.declared.declaration.NamedPolicy.{NamedPolicy}
use Rattle.policy_declarations.specs.declared.declaration.Tenant.{Tenant}
use Rattle.policy_declarations.specs.declared.declaration_form.DeclarationForm.{DeclarationForm}
use Rattle.policy_declarations.specs.declared.declaration_form.DeclarationForm.TheVariants as of
use Rattle.policy_declarations.proofs.Naming as naming
use Rattle.policy_declarations.proofs.Naming.{get_or_of}
use Rattle.policy_declarations.proofs.Shapes.{number_there, item_named}

-- ---- names

distinct_push : (xs : List (List ℕ)) (x : List ℕ) → AreDistinct xs → (Contains xs x → ⊥) → AreDistinct (xs ++ x ∷ [])
distinct_push [] x d new = (λ h. omega (arith, h.1), tt)
distinct_push (y ∷ ys) x d new = (
  λ h. elim (Contains-push_cases ys x y h) [
    | inl there ↦ d.0 there
    | inr same ↦ new (0, omega arith, sym same)
  ],
  distinct_push ys x d.1 (λ h. new (Contains-append_right (y ∷ []) ys x h)),
)

names_distinct : {X : Type 0} (f : X → List ℕ) (xs : List X) (x : X) → AreDistinct (map f xs) → (Contains (map f xs) (f x) → ⊥) → AreDistinct (map f (xs ++ x ∷ []))
names_distinct f xs x d new = subst (λ (ns : List (List ℕ)). AreDistinct ns) (sym (map_push f xs x)) (distinct_push (map f xs) (f x) d new)

names_named : {X : Type 0} (f : X → List ℕ) (xs : List X) (x : X) → All IsName (map f xs) → IsName (f x) → All IsName (map f (xs ++ x ∷ []))
names_named f xs x all one = subst (λ (ns : List (List ℕ)). All IsName ns) (sym (map_push f xs x)) (All-push IsName (map f xs) (f x) all one)

-- the name of a declaration is new
new_name : (d : Declared) (f : DeclarationForm) (line : List ℕ) (ms : List Meaning) → IsDeclarationHead d f line ms → Contains (names_before d f) (name_at ms 1) → ⊥
new_name d f line ms h there = h.free reason.Known (is_name_taken (name_at ms 1) (item_named f (words_of line) ms h.said).at there refl)

is_name : (d : Declared) (f : DeclarationForm) (line : List ℕ) (ms : List Meaning) → IsDeclarationHead d f line ms → IsName (name_at ms 1)
is_name d f line ms h = (item_named f (words_of line) ms h.said).named

has_room : (d : Declared) (line : List ℕ) (ms : List Meaning) → IsDeclarationHead d of.Tenant line ms → length d.tenants < 16
has_room d line ms h = elim (cases_lt (length d.tenants) 16) [
  | inl few ↦ few
  | inr many ↦ absurd (h.free reason.Number (too_many refl many refl))
]

new_policy : (d : Declared) (name : List ℕ) (p : ThePolicy) → (Contains (policy_names d) name → ⊥) → IsNew d (policy_with_name name p)
new_policy d name p none = naming.place_none (λ (q : NamedPolicy). q.name) name d.policies none

module _ (T : Table) (skips : Bool) (d : Declared) where
  gives_new : (f : DeclarationForm) (line text : List ℕ) (ms : List Meaning) (i : Declaration) (x : List ℕ) → IsDeclarationHead d f line ms → HasDeclarationByHead T skips d f ms text i x → IsNew d i
  gives_new of.Tenant line text ms i x h g =
      subst (IsNew d) (sym g.0) (naming.place_none (λ (t : Tenant). t.name) (name_at ms 1) d.tenants (new_name d of.Tenant line ms h), has_room d line ms h)
  gives_new of.Rate line text ms i x h g = subst (IsNew d) (sym g.0) (new_policy d (name_at ms 1) (rate_of_words ms) (new_name d of.Rate line ms h))
  gives_new of.Count line text ms i x h g = subst (IsNew d) (sym g.0) (new_policy d (name_at ms 1) policy.Count (new_name d of.Count line ms h))
  gives_new of.Quota line text ms i x h g = subst (IsNew d) (sym g.2) (new_policy d (name_at ms 1) g.0 (new_name d of.Quota line ms h))
  gives_new of.Access line text ms i x h g = subst (IsNew d) (sym g.2) (new_policy d (name_at ms 1) (policy.Access g.0) (new_name d of.Access line ms h))
  gives_new of.Redact line text ms i x h g = subst (IsNew d) (sym g.2) (new_policy d (name_at ms 1) (policy.Redact g.0) (new_name d of.Redact line ms h))

  pub is_new : (f : DeclarationForm) (line text : List ℕ) (i : Declaration) (x : List ℕ) → HasDeclaration T skips d f line text i x → IsNew d i
  is_new f line text i x h = gives_new f line text h.meanings i x h.heads h.gives

-- ---- one more tenant

abbrev IsWindow : Tenant → Type 0
IsWindow t = (1 ≤ t.per) × (t.per ≤ 86400000)

abbrev IsKept : ℕ → NamedPolicy → Type 0
IsKept many p = IsPolicy p.policy × KnowsTenantOf (λ place. place < many) p.policy

knows_more : (m n : ℕ) (p : ThePolicy) → m ≤ n → KnowsTenantOf (λ place. place < m) p → KnowsTenantOf (λ place. place < n) p
knows_more m n (policy.Quota tenant per cap) more h = omega (arith, h, more)
knows_more m n (policy.Access p) more h = tt
knows_more m n (policy.Rate r) more h = tt
knows_more m n policy.Count more h = tt
knows_more m n (policy.Redact r) more h = tt

tenant_sound : (d : Declared) (t : Tenant) → AreValidDeclarations d → (Contains (tenant_names d) t.name → ⊥)
    → length d.tenants < 16 → IsName t.name → IsWindow t → AreValidDeclarations (with_declaration d (item.Tenant t))
tenant_sound d t s new room name window = record {
  few = omega (arith, length_push d.tenants t, room);
  tenants_distinct = names_distinct (λ (u : Tenant). u.name) d.tenants t s.tenants_distinct new;
  policies_distinct = s.policies_distinct;
  tenants_named = names_named (λ (u : Tenant). u.name) d.tenants t s.tenants_named name;
  policies_named = s.policies_named;
  windows = All-push IsWindow d.tenants t s.windows window;
  policies = λ k e within. (
    (s.policies k e within).0,
    knows_more (length d.tenants) (length (d.tenants ++ t ∷ [])) (get_or d.policies k e).policy (omega (arith, length_push d.tenants t)) (s.policies k e within).1,
  );
}

-- ---- one more policy

policy_sound : (d : Declared) (name : List ℕ) (p : ThePolicy) → AreValidDeclarations d → (Contains (policy_names d) name → ⊥)
    → IsName name → IsPolicy p → KnowsTenantOf (λ place. place < length d.tenants) p
    → AreValidDeclarations (with_declaration d (policy_with_name name p))
policy_sound d name p s new is_name ranges known = record {
  few = s.few;
  tenants_distinct = s.tenants_distinct;
  policies_distinct = names_distinct (λ (q : NamedPolicy). q.name) d.policies (record { name = name; policy = p }) s.policies_distinct new;
  tenants_named = s.tenants_named;
  policies_named = names_named (λ (q : NamedPolicy). q.name) d.policies (record { name = name; policy = p }) s.policies_named is_name;
  windows = s.windows;
  policies = All-push (IsKept (length d.tenants)) d.policies (record { name = name; policy = p }) s.policies (ranges, known);
}

quota_ranges : (d : Declared) (ms : List Meaning) (p : ThePolicy) → AreValidDeclarations d → IsQuotaOfWords d ms p → IsPolicy p × KnowsTenantOf (λ place. place < length d.tenants) p
quota_ranges d ms p s q =
    let within = (naming.place_is (λ (t : Tenant). t.name) (name_at ms 3) d.tenants q.place q.found).within in
    let window : IsWindow q.tenant = subst IsWindow (get_or_of d.tenants q.place q.tenant q.tenant q.there) (s.windows q.place q.tenant within) in
    subst (λ (r : ThePolicy). IsPolicy r × KnowsTenantOf (λ place. place < length d.tenants) r) (sym q.policy_is) (window, within)

module _ (T : Table) (skips : Bool) (d : Declared) (s : AreValidDeclarations d) where
  gives_sound : (f : DeclarationForm) (line text : List ℕ) (ms : List Meaning) (i : Declaration) (x : List ℕ) → IsDeclarationHead d f line ms → HasDeclarationByHead T skips d f ms text i x → AreValidDeclarations (with_declaration d i)
  gives_sound of.Tenant line text ms i x h g =
      let range = number_there (word_kinds_of (head_form of.Tenant)) (words_of line) ms 2 1 86400000 h.said refl in
      subst (λ (j : Declaration). AreValidDeclarations (with_declaration d j)) (sym g.0)
      (tenant_sound d (record { name = name_at ms 1; per = number_at ms 2 }) s (new_name d of.Tenant line ms h) (has_room d line ms h) (is_name d of.Tenant line ms h) (range.0, range.1))
  gives_sound of.Rate line text ms i x h g =
      let sorts = word_kinds_of (head_form of.Rate) in
      let amount = number_there sorts (words_of line) ms 3 1 1000000 h.said refl in
      let per = number_there sorts (words_of line) ms 5 1 86400000 h.said refl in
      let burst = number_there sorts (words_of line) ms 7 1 1000000 h.said refl in
      subst (λ (j : Declaration). AreValidDeclarations (with_declaration d j)) (sym g.0)
      (policy_sound d (name_at ms 1) (rate_of_words ms) s (new_name d of.Rate line ms h) (is_name d of.Rate line ms h)
      (record { amount_from = amount.0; amount_to = amount.1; per_from = per.0; per_to = per.1; burst_from = burst.0; burst_to = burst.1 }) tt)
  gives_sound of.Count line text ms i x h g =
      subst (λ (j : Declaration). AreValidDeclarations (with_declaration d j)) (sym g.0) (policy_sound d (name_at ms 1) policy.Count s (new_name d of.Count line ms h) (is_name d of.Count line ms h) tt tt)
  gives_sound of.Quota line text ms i x h g =
      let ranges = quota_ranges d ms g.0 s g.1 in
      subst (λ (j : Declaration). AreValidDeclarations (with_declaration d j)) (sym g.2) (policy_sound d (name_at ms 1) g.0 s (new_name d of.Quota line ms h) (is_name d of.Quota line ms h) ranges.0 ranges.1)
  gives_sound of.Access line text ms i x h g =
      subst (λ (j : Declaration). AreValidDeclarations (with_declaration d j)) (sym g.2) (policy_sound d (name_at ms 1) (policy.Access g.0) s (new_name d of.Access line ms h) (is_name d of.Access line ms h) tt tt)
  gives_sound of.Redact line text ms i x h g =
      subst (λ (j : Declaration). AreValidDeclarations (with_declaration d j)) (sym g.2) (policy_sound d (name_at ms 1) (policy.Redact g.0) s (new_name d of.Redact line ms h) (is_name d of.Redact line ms h) tt tt)

  pub stays_sound : (f : DeclarationForm) (line text : List ℕ) (i : Declaration) (x : List ℕ) → HasDeclaration T skips d f line text i x → AreValidDeclarations (with_declaration d i)
  stays_sound f line text i x h = gives_sound f line text h.meanings i x h.heads h.gives
