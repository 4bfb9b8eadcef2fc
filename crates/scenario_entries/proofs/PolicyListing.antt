-- Lists of entries, with one more read at a time.
use Rattle.std.proofs.Common.{◌≡◌, ℕ, ◌+◌, ◌<◌, ◌≤◌, List, [], ◌∷◌, ◌++◌, length, get_or, take, drop, sym, ap, ◌∙◌, subst, inl, inr, arith}
use Rattle.std.specs.Prelude.{String}
use Rattle.std.specs.BTreeMap.{BTreeMap}
use Rattle.std.specs.Borrow.{Bor}
use Rattle.std.specs.declared.alloc.Global.{Global}
use Rattle.std.proofs.lemmas.List.{drop_more, length-map, length-take-le, map-append, take-append-drop, take_all}
use Rattle.toml.specs.Data.{Members}
use Rattle.toml.specs.View.{table_view}
use Rattle.toml.specs.declared.value.Value.{Value}
use Rattle.scenario_entries.specs.Entries.{AreFaultFree, IsFirstEntry, views}
use Rattle.scenario.specs.Reasons.{IsFirstScenarioReason}
use Rattle.scenario.specs.declared.fault.ScenarioReason.{ScenarioReason}
use Rattle.scenario_entries.proofs.PolicyLists.{map_more, snoc_split}

module _ (Against : List Members → Members → ScenarioReason → Type 0) where
  nothing_stands : (before : List Members) (ms : Members) (back : List Members) → [] ≡ before ++ ms ∷ back → ⊥
  nothing_stands [] ms back e = absurd cc
  nothing_stands (b ∷ before) ms back e = absurd cc

  pub free_none : AreFaultFree Against []
  free_none = λ before ms n q stands h. nothing_stands before ms stands.back stands.whole

  pub free_push : (entries : List Members) (ms : Members) → AreFaultFree Against entries → ((q : ScenarioReason) → Against entries ms q → ⊥)
      → AreFaultFree Against (entries ++ ms ∷ [])
  free_push entries ms free one = λ before other n q stands h. elim (snoc_split entries before ms other stands.back stands.whole) [
    | inl both ↦ one q (subst (λ (xs : List Members). Against xs ms q) both.0 (subst (λ (m : Members). Against before m q) both.1 h))
    | inr more ↦ free before other n q (record { back = more.0; whole = more.1; is_number = stands.is_number }) h
  ]

  pub first_at : (entries : List Members) (n : ℕ) (before : List Members) (ms : Members) (back : List Members) (q : ScenarioReason)
      → entries ≡ before ++ ms ∷ back → n ≡ length before + 1 → AreFaultFree Against before → IsFirstScenarioReason (Against before ms) q
      → IsFirstEntry Against entries n q
  first_at entries n before ms back q whole number free first = record {
    before = before;
    ms = ms;
    stands = record { back = back; whole = whole; is_number = number };
    free = free;
    first = first;
  }

-- ---- entries as they are walked

module _ (entries : List (Bor (BTreeMap (String Global) Value))) (i : ℕ) (e : Bor (BTreeMap (String Global) Value)) (within : i < length entries)
    (is : e ≡ get_or entries i e) where
  pub views_more : views (take (i + 1) entries) ≡ views (take i entries) ++ table_view e.now ∷ []
  views_more =
      map_more (λ (t : Bor (BTreeMap (String Global) Value)). table_view t.now) entries i e within
      ∙ ap (λ (t : Bor (BTreeMap (String Global) Value)). views (take i entries) ++ table_view t.now ∷ []) (sym is)

  pub views_whole : views entries ≡ views (take i entries) ++ table_view e.now ∷ views (drop (i + 1) entries)
  views_whole =
      ap views (sym (take-append-drop i entries))
      ∙ map-append (λ (t : Bor (BTreeMap (String Global) Value)). table_view t.now) (take i entries) (drop i entries)
      ∙ ap (λ xs. views (take i entries) ++ views xs) (drop_more entries i e within)
      ∙ ap (λ (t : Bor (BTreeMap (String Global) Value)). views (take i entries) ++ table_view t.now ∷ views (drop (i + 1) entries)) (sym is)

  pub views_count : length (views (take i entries)) ≡ i
  views_count = length-map (take i entries) (λ t. table_view t.now) ∙ length-take-le i entries (omega (arith, within))

pub views_all : (entries : List (Bor (BTreeMap (String Global) Value))) (i : ℕ) → length entries ≤ i → views (take i entries) ≡ views entries
views_all entries i past = ap views (take_all i entries past)
