-- The indices of policies in an ordered map.
use Rattle.std.proofs.Common.{◌≡◌, ℕ, Bool, true, false, cond, List, [], ◌∷◌, ◌++◌, length, Option, Some, None, refl, ap, sym, ◌∙◌}
use Rattle.std.specs.Prelude.{position}
use Rattle.std.specs.Str.{bytes_eq}
use Rattle.std.specs.Global.{Vec}
use Rattle.std.specs.Ordering.{nat_cmp, is_eq, match_ordering}
use Rattle.std.specs.declared.cmp.Ordering.{Ordering}
use Rattle.std.specs.declared.cmp.Ordering.TheVariants.{Less, Equal, Greater}
use Rattle.std.specs.Cmp.Lexicographic.{slice_cmp}
use Rattle.std.specs.Map.{lookup}
use Rattle.std.specs.BTreeMap.{is_at, insert_entry}
use Rattle.std.proofs.lemmas.Bool.{false≢true}
use Rattle.std.proofs.lemmas.Map.Text.{is_eq-slice_cmp}
use Rattle.std.proofs.lemmas.Slice.Eq.{bytes_eq-Decides}
use Rattle.policy_declarations.specs.declared.declaration.NamedPolicy.{NamedPolicy}
use Rattle.policy_declarations.proofs.Naming.{place_push}

abbrev pub by_items : Vec ℕ → Vec ℕ → Ordering
by_items a b = slice_cmp nat_cmp a.items b.items

abbrev pub at_name : List ℕ → List (Vec ℕ × ℕ) → Option ℕ
at_name name es = lookup (is_at (λ (key : Vec ℕ). slice_cmp nat_cmp name key.items)) es

at_cons : (name : List ℕ) (key : Vec ℕ) (v : ℕ) (es : List (Vec ℕ × ℕ)) → at_name name ((key, v) ∷ es) ≡ cond (bytes_eq name key.items) (Some v) (at_name name es)
at_cons name key v es = ap (λ b. cond b (Some v) (at_name name es)) (is_eq-slice_cmp name key.items)

twice : (b : Bool) (v w : ℕ) (o : Option ℕ) → cond b (Some v) o ≡ cond b (Some v) (cond b (Some w) o)
twice true v w o = refl
twice false v w o = refl

swapped : (b c : Bool) (v w : ℕ) (o : Option ℕ) → (b ≡ true → c ≡ true → ⊥) → cond c (Some w) (cond b (Some v) o) ≡ cond b (Some v) (cond c (Some w) o)
swapped true true v w o apart = absurd (apart refl refl)
swapped true false v w o apart = refl
swapped false true v w o apart = refl
swapped false false v w o apart = refl

pub at_insert : (name : List ℕ) (es : List (Vec ℕ × ℕ)) (key : Vec ℕ) (v : ℕ)
    → at_name name (insert_entry by_items es key v) ≡ cond (bytes_eq name key.items) (Some v) (at_name name es)
at_insert name [] key v = at_cons name key v []
at_insert name (e ∷ es) key v =
    elim (by_items key e.0) as (λ (o : Ordering). by_items key e.0 ≡ o
    → at_name name (match_ordering o ((key, v) ∷ e ∷ es) ((e.0, v) ∷ es) (e ∷ insert_entry by_items es key v))
    ≡ cond (bytes_eq name key.items) (Some v) (at_name name (e ∷ es))) [
      | Less ↦ λ is. at_cons name key v (e ∷ es)
      | Equal ↦ λ is.
          let same : key.items ≡ e.0.items = (bytes_eq-Decides key.items e.0.items).0 (sym (is_eq-slice_cmp key.items e.0.items) ∙ ap is_eq is) in
          at_cons name e.0 v es ∙ twice (bytes_eq name e.0.items) v e.1 (at_name name es)
          ∙ ap (λ (bs : List ℕ). cond (bytes_eq name bs) (Some v)
          (cond (bytes_eq name e.0.items) (Some e.1) (at_name name es))) (sym same)
          ∙ ap (cond (bytes_eq name key.items) (Some v)) (sym (at_cons name e.0 e.1 es))
      | Greater ↦ λ is.
          let apart : bytes_eq name key.items ≡ true → bytes_eq name e.0.items ≡ true → ⊥ = λ a b.
          let same : key.items ≡ e.0.items = sym ((bytes_eq-Decides name key.items).0 a) ∙ (bytes_eq-Decides name e.0.items).0 b in
          false≢true (sym (ap is_eq is) ∙ is_eq-slice_cmp key.items e.0.items ∙ (bytes_eq-Decides key.items e.0.items).1 same) in
          at_cons name e.0 e.1 (insert_entry by_items es key v) ∙ ap (cond (bytes_eq name e.0.items) (Some e.1)) (at_insert name es key v)
          ∙ swapped (bytes_eq name key.items) (bytes_eq name e.0.items) v e.1 (at_name name es) apart ∙ ap (cond (bytes_eq name key.items) (Some v)) (sym (at_cons name e.0 e.1 es))
    ] refl

-- one more policy
pub finds_more : (old new : List (Vec ℕ × ℕ)) (policies : List NamedPolicy) (p : NamedPolicy) (key : Vec ℕ)
    (name : List ℕ) → key.items ≡ p.name → position (λ (q : NamedPolicy). bytes_eq q.name p.name) policies ≡ None
    → at_name name old ≡ position (λ (q : NamedPolicy). bytes_eq q.name name) policies → new ≡ insert_entry by_items old key (length policies)
    → at_name name new ≡ position (λ (q : NamedPolicy). bytes_eq q.name name) (policies ++ p ∷ [])
finds_more old new policies p key name own unused found inserted =
    ap (at_name name) inserted ∙ at_insert name old key (length policies) ∙ ap (cond (bytes_eq name key.items) (Some (length policies))) found
    ∙ ap (λ (bs : List ℕ). cond (bytes_eq name bs) (Some (length policies)) (position (λ (q : NamedPolicy). bytes_eq q.name name) policies)) own
    ∙ sym (place_push (λ (q : NamedPolicy). q.name) name policies p unused)
