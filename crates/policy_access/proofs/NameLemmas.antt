-- Names in an ordered map.
use Rattle.std.proofs.Common.{◌≡◌, ℕ, ◌||◌, Bool, true, false, cond, List, [], ◌∷◌, ◌++◌, Option, Some, None, refl, ap, sym, ◌∙◌}
use Rattle.std.specs.Prelude.{is_some}
use Rattle.std.specs.Str.{bytes_eq}
use Rattle.std.specs.Global.{Vec}
use Rattle.std.specs.Ordering.{nat_cmp, is_eq, match_ordering}
use Rattle.std.specs.declared.cmp.Ordering.{Ordering}
use Rattle.std.specs.declared.cmp.Ordering.TheVariants.{Less, Equal, Greater}
use Rattle.std.specs.Cmp.Lexicographic.{slice_cmp}
use Rattle.std.specs.Map.{lookup}
use Rattle.std.specs.BTreeMap.{is_at, insert_entry}
use Rattle.std.proofs.lemmas.Map.Text.{is_eq-slice_cmp}
use Rattle.std.proofs.lemmas.Slice.Eq.{bytes_eq-Decides}
use Rattle.policy_access.specs.Faults.{is_among}
use Rattle.policy_access.specs.Names.{contains_name, AreKnownNames}
use Rattle.policy_access.specs.declared.names.SeenNames.{SeenNames}

abbrev by_items : Vec ℕ → Vec ℕ → Ordering
by_items a b = slice_cmp nat_cmp a.items b.items

abbrev pub is_in : {X : Type 0} → List ℕ → List (Vec ℕ × X) → Bool
is_in name es = is_some (lookup (is_at (λ (key : Vec ℕ). slice_cmp nat_cmp name key.items)) es)

pub same_bytes : (xs ys : List ℕ) → bytes_eq xs ys ≡ true → xs ≡ ys
same_bytes xs ys e = (bytes_eq-Decides xs ys).0 e

pub bytes_same : (xs ys : List ℕ) → xs ≡ ys → bytes_eq xs ys ≡ true
bytes_same xs ys e = (bytes_eq-Decides xs ys).1 e

picked : {X : Type 0} (b : Bool) (x : X) (o : Option X) → is_some (cond b (Some x) o) ≡ (b || is_some o)
picked true x o = refl
picked false x o = refl

again : (b c : Bool) → (b || c) ≡ (b || (b || c))
again true c = refl
again false c = refl

swapped : (a b c : Bool) → (a || (b || c)) ≡ (b || (a || c))
swapped true true c = refl
swapped true false c = refl
swapped false true c = refl
swapped false false c = refl

pub is_in-insert : {X : Type 0} (name : List ℕ) (es : List (Vec ℕ × X)) (key : Vec ℕ) (v : X)
    → is_in name (insert_entry by_items es key v) ≡ (bytes_eq name key.items || is_in name es)
is_in-insert name [] key v = picked (is_eq (slice_cmp nat_cmp name key.items)) v None ∙ ap (λ b. b || false) (is_eq-slice_cmp name key.items)
is_in-insert {X} name (e ∷ es) key v =
    let here : is_in name (e ∷ es) ≡ (bytes_eq name e.0.items || is_in name es) =
    picked (is_eq (slice_cmp nat_cmp name e.0.items)) e.1
    (lookup (is_at (λ (k : Vec ℕ). slice_cmp nat_cmp name k.items)) es) ∙ ap (λ b. b || is_in name es)
    (is_eq-slice_cmp name e.0.items) in
    elim (by_items key e.0) as (λ (o : Ordering). by_items key e.0 ≡ o
    → is_in name (match_ordering o ((key, v) ∷ e ∷ es) ((e.0, v) ∷ es) (e ∷ insert_entry by_items es key v))
    ≡ (bytes_eq name key.items || is_in name (e ∷ es))) [
      | Less ↦ λ is. picked (is_eq (slice_cmp nat_cmp name key.items)) v
          (lookup (is_at (λ (k : Vec ℕ). slice_cmp nat_cmp name k.items)) (e ∷ es))
          ∙ ap (λ b. b || is_in name (e ∷ es)) (is_eq-slice_cmp name key.items)
      | Equal ↦ λ is.
          let same : key.items ≡ e.0.items = same_bytes key.items e.0.items (sym (is_eq-slice_cmp key.items e.0.items) ∙ ap is_eq is) in
          let first : is_in name ((e.0, v) ∷ es) ≡ (bytes_eq name e.0.items || is_in name es) =
          picked (is_eq (slice_cmp nat_cmp name e.0.items)) v
          (lookup (is_at (λ (k : Vec ℕ). slice_cmp nat_cmp name k.items)) es) ∙ ap (λ b. b || is_in name es)
          (is_eq-slice_cmp name e.0.items) in
          first ∙ again (bytes_eq name e.0.items) (is_in name es) ∙ ap (λ b. bytes_eq name e.0.items || b) (sym here)
          ∙ ap (λ (bs : List ℕ). bytes_eq name bs || is_in name (e ∷ es)) (sym same)
      | Greater ↦ λ is.
          let rest : is_in name (e ∷ insert_entry by_items es key v) ≡ (bytes_eq name e.0.items || is_in name (insert_entry by_items es key v)) =
          picked (is_eq (slice_cmp nat_cmp name e.0.items)) e.1
          (lookup (is_at (λ (k : Vec ℕ). slice_cmp nat_cmp name k.items)) (insert_entry by_items es key v))
          ∙ ap (λ b. b || is_in name (insert_entry by_items es key v)) (is_eq-slice_cmp name e.0.items) in
          rest ∙ ap (λ b. bytes_eq name e.0.items || b) (is_in-insert name es key v)
          ∙ swapped (bytes_eq name e.0.items) (bytes_eq name key.items) (is_in name es)
          ∙ ap (λ b. bytes_eq name key.items || b) (sym here)
    ] refl

pub is_among-push : (name : List ℕ) (names : List (List ℕ)) (last : List ℕ) → is_among name (names ++ last ∷ []) ≡ (bytes_eq name last || is_among name names)
is_among-push name [] last = refl
is_among-push name (n ∷ ns) last = ap (λ b. bytes_eq name n || b) (is_among-push name ns last) ∙ swapped (bytes_eq name n) (bytes_eq name last) (is_among name ns)

-- one more name
pub holds-push : (old new : SeenNames) (names : List (List ℕ)) (name : List ℕ)
    → ((q : List ℕ) → contains_name new q ≡ (bytes_eq q name || contains_name old q)) → AreKnownNames old names
    → AreKnownNames new (names ++ name ∷ [])
holds-push old new names name added h = record {
  found = λ q. added q ∙ ap (λ b. bytes_eq q name || b) (h.found q) ∙ sym (is_among-push q names name);
}
