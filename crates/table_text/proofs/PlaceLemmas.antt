-- Names and their indices, and the map of them.
use Rattle.std.proofs.Common.{◌≡◌, ℕ, suc, ◌+◌, ◌-◌, ◌^◌, min, ◌||◌, Bool, true, false, cond, List, [], ◌∷◌, ◌++◌}
use Rattle.std.proofs.Common.{length, Option, Some, None, refl, ap, sym, ◌∙◌, arith, length-append, zero-add}
use Rattle.std.specs.Prelude.{is_some, option_map}
use Rattle.std.specs.Option.{option_or}
use Rattle.std.specs.List.{list_any}
use Rattle.std.specs.Str.{bytes_eq}
use Rattle.std.specs.Global.{Vec}
use Rattle.std.specs.Ordering.{nat_cmp, is_eq, match_ordering}
use Rattle.std.specs.declared.cmp.Ordering.{Ordering}
use Rattle.std.specs.declared.cmp.Ordering.TheVariants.{Less, Equal, Greater}
use Rattle.std.specs.Cmp.Lexicographic.{slice_cmp}
use Rattle.std.specs.Map.{lookup}
use Rattle.std.specs.BTreeMap.{is_at, insert_entry}
use Rattle.std.proofs.lemmas.Map.Text.{is_eq-slice_cmp}
use Rattle.std.proofs.lemmas.Slice.Eq.{bytes_eq-Decides}
use Rattle.table_text.specs.LineTests.{is_among}
use Rattle.table_text.specs.NameIndex.{index_from, capped_index, index_in, AreNames}
use Rattle.table_text.specs.declared.name_index.NameIndex.{NameIndex}

pub among_from : (k : ℕ) (name : List ℕ) (names : List (List ℕ)) → is_some (option_map capped_index (index_from k name names)) ≡ is_among name names
among_from k name [] = refl
among_from k name (n ∷ ns) =
    elim (bytes_eq name n) as (λ (b : Bool). is_some (option_map capped_index (cond b (Some k) (index_from (k + 1) name ns))) ≡ (b || list_any (λ other. bytes_eq name other) ns)) [
      | true ↦ refl
      | false ↦ among_from (k + 1) name ns
    ]

pub place_push : (k : ℕ) (name : List ℕ) (names : List (List ℕ)) (last : List ℕ)
    → index_from k name (names ++ last ∷ []) ≡ option_or (index_from k name names)
    (cond (bytes_eq name last) (Some (k + length names)) None)
place_push k name [] last = let e : k ≡ k + 0 = omega arith in ap (λ (j : ℕ). cond (bytes_eq name last) (Some j) None) e
place_push k name (n ∷ ns) last =
    let e : k + 1 + length ns ≡ k + suc (length ns) = omega arith in
    elim (bytes_eq name n) as (λ (b : Bool). cond b (Some k) (index_from (k + 1) name (ns ++ last ∷ []))
    ≡ option_or (cond b (Some k) (index_from (k + 1) name ns))
    (cond (bytes_eq name last) (Some (k + suc (length ns))) None)) [
      | true ↦ refl
      | false ↦ place_push (k + 1) name ns last ∙ ap (λ (j : ℕ). option_or (index_from (k + 1) name ns) (cond (bytes_eq name last) (Some j) None)) e
    ]

-- ---- the map

abbrev pub by_items : Vec ℕ → Vec ℕ → Ordering
by_items a b = slice_cmp nat_cmp a.items b.items

abbrev pub found_in : List ℕ → List (Vec ℕ × ℕ) → Option ℕ
found_in name es = lookup (is_at (λ (key : Vec ℕ). slice_cmp nat_cmp name key.items)) es

swapped : {X : Type 0} (a b : Bool) (x y z : X) → (a ≡ true → b ≡ true → ⊥) → cond a x (cond b y z) ≡ cond b y (cond a x z)
swapped true true x y z apart = absurd (apart refl refl)
swapped true false x y z apart = refl
swapped false true x y z apart = refl
swapped false false x y z apart = refl

again : {X : Type 0} (b : Bool) (x y z : X) → cond b x z ≡ cond b x (cond b y z)
again true x y z = refl
again false x y z = refl

pub same_bytes : (xs ys : List ℕ) → bytes_eq xs ys ≡ true → xs ≡ ys
same_bytes xs ys e = (bytes_eq-Decides xs ys).0 e

pub bytes_same : (xs ys : List ℕ) → xs ≡ ys → bytes_eq xs ys ≡ true
bytes_same xs ys e = (bytes_eq-Decides xs ys).1 e

pub found_inserted : (name : List ℕ) (es : List (Vec ℕ × ℕ)) (key : Vec ℕ) (v : ℕ)
    → found_in name (insert_entry by_items es key v) ≡ cond (bytes_eq name key.items) (Some v) (found_in name es)
found_inserted name [] key v = rw is_eq-slice_cmp refl
found_inserted name (e ∷ es) key v =
    elim (by_items key e.0) as (λ (o : Ordering). by_items key e.0 ≡ o
    → found_in name (match_ordering o ((key, v) ∷ e ∷ es) ((e.0, v) ∷ es) (e ∷ insert_entry by_items es key v))
    ≡ cond (bytes_eq name key.items) (Some v) (found_in name (e ∷ es))) [
      | Less ↦ λ is. rw (is_eq-slice_cmp name key.items) refl
      | Equal ↦ λ is.
          let same : key.items ≡ e.0.items = same_bytes key.items e.0.items (sym (is_eq-slice_cmp key.items e.0.items) ∙ ap is_eq is) in
          rw (is_eq-slice_cmp name e.0.items, same) (again (bytes_eq name e.0.items) (Some v) (Some e.1) (found_in name es))
      | Greater ↦ λ is.
          let apart : bytes_eq name e.0.items ≡ true → bytes_eq name key.items ≡ true → ⊥ =
          λ here there. let hit : bytes_eq key.items e.0.items ≡ true = bytes_same key.items e.0.items (sym (same_bytes name key.items there) ∙ same_bytes name e.0.items here) in
          let miss : bytes_eq key.items e.0.items ≡ false = sym (is_eq-slice_cmp key.items e.0.items) ∙ ap is_eq is in cc in
          rw (found_inserted name es key v, is_eq-slice_cmp name e.0.items) (swapped (bytes_eq name e.0.items) (bytes_eq name key.items) (Some e.1) (Some v) (found_in name es) apart)
    ] refl

pub none_is : {X : Type 0} (o : Option X) → false ≡ is_some o → o ≡ None
none_is None e = refl
none_is (Some x) e = absurd cc

pub kept : (old new : Option ℕ) (b : Bool) (n : ℕ) (first : Option ℕ) → first ≡ None → (b ≡ true → old ≡ first)
    → new ≡ cond b (Some n) old → new ≡ option_or old (cond b (Some n) None)
kept None new true n first none same e = e
kept (Some x) new true n first none same e = let clash : Some x ≡ None = same refl ∙ none in absurd cc
kept None new false n first none same e = e
kept (Some x) new false n first none same e = e

joined : (old place : Option ℕ) (b : Bool) (n len : ℕ) → old ≡ option_map capped_index place → n ≡ capped_index len
    → option_or old (cond b (Some n) None) ≡ option_map capped_index (option_or place (cond b (Some (0 + len)) None))
joined old None true n len e m = let z : n ≡ capped_index (0 + len) = m ∙ ap capped_index (sym (zero-add len)) in rw e (ap Some z)
joined old None false n len e m = rw e refl
joined old (Some p) b n len e m = rw e refl

-- one more name
pub holds_push : (old new : NameIndex) (names : List (List ℕ)) (name : List ℕ)
    → ((q : List ℕ) → index_in new q ≡ option_or (index_in old q) (cond (bytes_eq q name) (Some old.count) None))
    → new.count ≡ min (old.count + 1) (2 ^ 32 - 1)
    → AreNames old names → AreNames new (names ++ name ∷ [])
holds_push old new names name added more h = record {
  found = λ q. added q ∙ joined (index_in old q) (index_from 0 q names) (bytes_eq q name) old.count (length names)
      (h.found q) h.count ∙ ap (option_map capped_index) (sym (place_push 0 q names name));
  count = omega (arith, more, h.count, length-append names (name ∷ []));
}
