-- If a scenario has no first fault, no entry has a fault: otherwise one entry and one reason would come first.
use Rattle.std.proofs.Common.{◌≡◌, ℕ, zero, suc, ◌<◌, refl, ◌∙◌, subst, inl, inr, arith}
use Rattle.toml.specs.Data.{Members}
use Rattle.scenario.specs.Reasons.{list_of_entry, number_of_entry, scenario_reason_rank}
use Rattle.scenario.specs.Scenarios.{IsFaultOfEntry, IsEntryBefore, IsFirstFaultyEntry}
use Rattle.scenario.specs.declared.fault.FaultyEntry.{FaultyEntry}
use Rattle.scenario.specs.declared.fault.ScenarioReason.{ScenarioReason}

below : (P : ℕ → Type 0) → ((n : ℕ) → ((m : ℕ) → m < n → P m) → P n) → (k n : ℕ) → n < k → P n
below P step zero n less = absurd (omega (arith, less))
below P step (suc k) n less = step n (λ m under. below P step k m (omega (arith, less, under)))

-- what holds of each number, if it holds of a number whenever it holds of all smaller ones
each_number : (P : ℕ → Type 0) → ((n : ℕ) → ((m : ℕ) → m < n → P m) → P n) → (n : ℕ) → P n
each_number P step n = below P step (suc n) n (omega arith)

module _ (all : Members) (none : (at : FaultyEntry) (q : ScenarioReason) → IsFirstFaultyEntry all at q → ⊥) where
  abbrev AreFreeBefore : FaultyEntry → Type 0
  AreFreeBefore at = (other : FaultyEntry) (q : ScenarioReason) → IsEntryBefore other at → IsFaultOfEntry all other q → ⊥

  -- reason by reason
  by_order : (at : FaultyEntry) → AreFreeBefore at → (n : ℕ) (q : ScenarioReason) → scenario_reason_rank q ≡ n → IsFaultOfEntry all at q → ⊥
  by_order at before = each_number (λ n. (q : ScenarioReason) → scenario_reason_rank q ≡ n → IsFaultOfEntry all at q → ⊥)
      (λ n less q is h. none at q (record {
        stands = h;
        first_entry = before;
        first_reason = λ r under. less (scenario_reason_rank r) (subst (λ (m : ℕ). scenario_reason_rank r < m) is under) r refl;
      }))

  -- number by number
  by_number : (l : ℕ) → ((other : FaultyEntry) (q : ScenarioReason) → list_of_entry other < l → IsFaultOfEntry all other q → ⊥) → (n : ℕ) (at : FaultyEntry)
      (q : ScenarioReason) → list_of_entry at ≡ l → number_of_entry at ≡ n → IsFaultOfEntry all at q → ⊥
  by_number l lists = each_number (λ n. (at : FaultyEntry) (q : ScenarioReason) → list_of_entry at ≡ l → number_of_entry at ≡ n → IsFaultOfEntry all at q → ⊥)
      (λ n less at q list number h. by_order at (λ other r earlier k. elim earlier [
        | inl under ↦ lists other r (subst (λ (m : ℕ). list_of_entry other < m) list under) k
        | inr same ↦ less (number_of_entry other) (subst (λ (m : ℕ). number_of_entry other < m) number same.1) other r (same.0 ∙ list) refl k
      ]) (scenario_reason_rank q) q refl h)

  -- list by list
  by_list : (l : ℕ) (at : FaultyEntry) (q : ScenarioReason) → list_of_entry at ≡ l → IsFaultOfEntry all at q → ⊥
  by_list = each_number (λ l. (at : FaultyEntry) (q : ScenarioReason) → list_of_entry at ≡ l → IsFaultOfEntry all at q → ⊥)
      (λ l less at q list h. by_number l (λ other r under k. less (list_of_entry other) under other r refl k) (number_of_entry at) at q list refl h)

  pub nothing_stands : (at : FaultyEntry) (q : ScenarioReason) → IsFaultOfEntry all at q → ⊥
  nothing_stands at q h = by_list (list_of_entry at) at q refl h
