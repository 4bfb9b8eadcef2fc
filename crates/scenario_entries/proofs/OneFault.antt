-- A text has at most one first fault, and none if it means a plan.
use Rattle.std.proofs.Common.{◌≡◌, ◌⊎◌, ℕ, zero, suc, List, refl, sym, ap, ◌∙◌, subst, inl, inr}
use Rattle.std.proofs.lemmas.Bool.{cases_order}
use Rattle.std.proofs.lemmas.Option.{same_Some}
use Rattle.run_plan.specs.declared.plan.Plan.{Plan}
use Rattle.toml.specs.Data.{Members}
use Rattle.scenario.specs.Reasons.{list_of_entry, number_of_entry, scenario_reason_rank}
use Rattle.scenario.specs.Scenarios.{HasFault, IsFaultOfEntry, IsEntryBefore, IsFirstFaultyEntry, IsTableText, IsTextOf, in_entry, no_toml}
use Rattle.scenario.specs.declared.fault.FaultyEntry.{FaultyEntry}
use Rattle.scenario.specs.declared.fault.FaultyEntry.TheVariants as entry
use Rattle.scenario.specs.declared.fault.ScenarioReason.{ScenarioReason}
use Rattle.scenario.specs.declared.fault.ScenarioReason.TheVariants as reason

-- a reason is determined by its rank
placed : ℕ → ScenarioReason
placed zero = reason.Toml
placed (suc zero) = reason.Key
placed (suc (suc zero)) = reason.Number
placed (suc (suc (suc zero))) = reason.Name
placed (suc (suc (suc (suc zero)))) = reason.Known
placed (suc (suc (suc (suc (suc zero))))) = reason.Unknown
placed (suc (suc (suc (suc (suc (suc zero)))))) = reason.Schema
placed (suc (suc (suc (suc (suc (suc (suc zero))))))) = reason.Path
placed (suc (suc (suc (suc (suc (suc (suc (suc zero)))))))) = reason.Default
placed (suc (suc (suc (suc (suc (suc (suc (suc (suc zero))))))))) = reason.Word
placed (suc (suc (suc (suc (suc (suc (suc (suc (suc (suc zero)))))))))) = reason.Place
placed (suc (suc (suc (suc (suc (suc (suc (suc (suc (suc (suc zero))))))))))) = reason.NoSuch
placed (suc (suc (suc (suc (suc (suc (suc (suc (suc (suc (suc (suc zero)))))))))))) = reason.Taken
placed (suc (suc (suc (suc (suc (suc (suc (suc (suc (suc (suc (suc (suc zero))))))))))))) = reason.At
placed (suc (suc (suc (suc (suc (suc (suc (suc (suc (suc (suc (suc (suc (suc zero)))))))))))))) = reason.ChainFull
placed (suc (suc (suc (suc (suc (suc (suc (suc (suc (suc (suc (suc (suc (suc (suc zero))))))))))))))) = reason.OtherKind
placed (suc (suc (suc (suc (suc (suc (suc (suc (suc (suc (suc (suc (suc (suc (suc (suc zero)))))))))))))))) = reason.Pair
placed _ = reason.Work

placed_at : (q : ScenarioReason) → placed (scenario_reason_rank q) ≡ q
unfolding placed
placed_at reason.Toml = refl
placed_at reason.Key = refl
placed_at reason.Number = refl
placed_at reason.Name = refl
placed_at reason.Known = refl
placed_at reason.Unknown = refl
placed_at reason.Schema = refl
placed_at reason.Path = refl
placed_at reason.Default = refl
placed_at reason.Word = refl
placed_at reason.Place = refl
placed_at reason.NoSuch = refl
placed_at reason.Taken = refl
placed_at reason.At = refl
placed_at reason.ChainFull = refl
placed_at reason.OtherKind = refl
placed_at reason.Pair = refl
placed_at reason.Work = refl

same_reason : (q r : ScenarioReason) → scenario_reason_rank q ≡ scenario_reason_rank r → q ≡ r
same_reason q r e = sym (placed_at q) ∙ ap placed e ∙ placed_at r

-- an entry is determined by its list and its number
entry_at : ℕ → ℕ → FaultyEntry
entry_at zero n = entry.Top
entry_at (suc zero) n = entry.Tenant n
entry_at (suc (suc zero)) n = entry.Policy n
entry_at (suc (suc (suc zero))) n = entry.App n
entry_at (suc (suc (suc (suc zero)))) n = entry.Link n
entry_at _ n = entry.Operator n

entry_is : (a : FaultyEntry) → entry_at (list_of_entry a) (number_of_entry a) ≡ a
unfolding entry_at
entry_is entry.Top = refl
entry_is (entry.Tenant n) = refl
entry_is (entry.Policy n) = refl
entry_is (entry.App n) = refl
entry_is (entry.Link n) = refl
entry_is (entry.Operator n) = refl

same_entry : (a b : FaultyEntry) → list_of_entry a ≡ list_of_entry b → number_of_entry a ≡ number_of_entry b → a ≡ b
same_entry a b lists numbers =
    sym (entry_is a) ∙ ap (λ n. entry_at n (number_of_entry a)) lists ∙ ap (entry_at (list_of_entry b)) numbers ∙ entry_is b

-- of two entries one comes first, or they are equal
which : (a b : FaultyEntry) → (a ≡ b) ⊎ (IsEntryBefore a b ⊎ IsEntryBefore b a)
which a b = elim (cases_order (list_of_entry a) (list_of_entry b)) [
  | inl lists ↦ elim (cases_order (number_of_entry a) (number_of_entry b)) [
    | inl numbers ↦ inl (same_entry a b lists numbers)
    | inr (inl less) ↦ inr (inl (inr (lists, less)))
    | inr (inr more) ↦ inr (inr (inr (sym lists, more)))
  ]
  | inr (inl less) ↦ inr (inl (inl less))
  | inr (inr more) ↦ inr (inr (inl more))
]

module _ (all : Members) where
  one_reason : (at : FaultyEntry) (q r : ScenarioReason) → IsFirstFaultyEntry all at q → IsFirstFaultyEntry all at r → q ≡ r
  one_reason at q r f g = elim (cases_order (scenario_reason_rank q) (scenario_reason_rank r)) [
    | inl same ↦ same_reason q r same
    | inr (inl less) ↦ absurd (g.first_reason q less f.stands)
    | inr (inr more) ↦ absurd (f.first_reason r more g.stands)
  ]

  one_first : (a b : FaultyEntry) (q r : ScenarioReason) → IsFirstFaultyEntry all a q → IsFirstFaultyEntry all b r → (a ≡ b) × (q ≡ r)
  one_first a b q r f g = elim (which a b) [
    | inl same ↦ (same, one_reason b q r (subst (λ (x : FaultyEntry). IsFirstFaultyEntry all x q) same f) g)
    | inr (inl before) ↦ absurd (g.first_entry a q before f.stands)
    | inr (inr behind) ↦ absurd (f.first_entry b r behind g.stands)
  ]

same_table : (text : List ℕ) (all other : Members) → IsTableText text all → IsTableText text other → all ≡ other
same_table text all other one two = same_Some all other (sym one.1 ∙ two.1)

pub one_fault_of : (text : List ℕ) (a b : FaultyEntry) (q r : ScenarioReason) → HasFault text a q → HasFault text b r → (a ≡ b) × (q ≡ r)
one_fault_of text a b q r (no_toml none at is) (no_toml none' at' is') = (at ∙ sym at', is ∙ sym is')
one_fault_of text a b q r (no_toml none at is) (in_entry all parsed first) = absurd (none all parsed)
one_fault_of text a b q r (in_entry all parsed first) (no_toml none at is) = absurd (none all parsed)
one_fault_of text a b q r (in_entry all parsed first) (in_entry all' parsed' first') =
    one_first all' a b q r (subst (λ (x : Members). IsFirstFaultyEntry x a q) (same_table text all all' parsed parsed') first) first'

pub not_both_of : (text : List ℕ) (plan : Plan) (at : FaultyEntry) (q : ScenarioReason) → IsTextOf text plan → HasFault text at q → ⊥
not_both_of text plan at q says (no_toml none is why) = none says.all says.parsed
not_both_of text plan at q says (in_entry all parsed first) =
    says.says.free at q (subst (λ (x : Members). IsFaultOfEntry x at q) (same_table text all says.all parsed says.parsed) first.stands)
