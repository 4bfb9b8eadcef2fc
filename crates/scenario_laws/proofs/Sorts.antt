-- Policies of one sort are refused and applied alike: policies of one kind are of one sort, and the tenant of a quota
-- belongs to its sort.
use Rattle.std.proofs.Common.{◌≡◌, ◌==◌, ℕ, Bool, true, false, refl, ap, ◌∙◌, sym}
use Rattle.mrpc_table.specs.declared.table.Table.{Table}
use Rattle.engine_core.specs.Policies.{IsAccess, is_same_kind}
use Rattle.engine_core.specs.declared.policy.Policy.{Policy}
use Rattle.engine_core.specs.declared.policy.Policy.TheVariants as policy
use Rattle.run_plan.specs.Chains.{HaveSameMeaning}

pub data PolicySort : Type 0 where
  access : PolicySort
  rate : PolicySort
  quota : ℕ → PolicySort
  count : PolicySort
  redact : PolicySort

abbrev pub sort_of : Policy → PolicySort
sort_of (policy.Access p) = access
sort_of (policy.Rate r) = rate
sort_of (policy.Quota tenant per cap) = quota tenant
sort_of policy.Count = count
sort_of (policy.Redact p) = redact

abbrev is_same : PolicySort → PolicySort → Bool
is_same access access = true
is_same rate rate = true
is_same (quota t) (quota u) = t == u
is_same count count = true
is_same redact redact = true
is_same _ _ = false

kind_is : (p q : Policy) → is_same_kind p q ≡ is_same (sort_of p) (sort_of q)
kind_is (policy.Access p) (policy.Access q) = refl
kind_is (policy.Rate p) (policy.Rate q) = refl
kind_is (policy.Quota t per cap) (policy.Quota u per' cap') = refl
kind_is policy.Count policy.Count = refl
kind_is (policy.Redact p) (policy.Redact q) = refl
kind_is _ _ = refl

pub same_kinds : (p q r s : Policy) → sort_of p ≡ sort_of r → sort_of q ≡ sort_of s → is_same_kind p q ≡ is_same_kind r s
same_kinds p q r s one two =
    kind_is p q ∙ ap (λ (x : PolicySort). is_same x (sort_of q)) one ∙ ap (is_same (sort_of r)) two ∙ sym (kind_is r s)

pub same_sort : (T : Table) (p : Policy) (U : Table) (q : Policy) → HaveSameMeaning T p U q → sort_of p ≡ sort_of q
same_sort T (policy.Access p) U (policy.Access q) h = refl
same_sort T (policy.Redact p) U (policy.Redact q) h = refl
same_sort T _ U _ h = ap sort_of h

pub is_access_sort : (p : Policy) → sort_of p ≡ access → IsAccess p
is_access_sort (policy.Access p) e = tt
is_access_sort _ e = absurd cc
