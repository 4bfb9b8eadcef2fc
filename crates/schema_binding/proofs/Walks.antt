-- The result of the walk over the marked messages: the least field that differs, or none.
use Rattle.std.proofs.Common.{◌≡◌, ℕ, ◌<◌, List, length, Some, inl, inr, sym, ap, subst, ◌∙◌}
use Rattle.std.proofs.lemmas.Bool.{cases_order}
use Rattle.std.proofs.lemmas.Option.{same_Some}
use Rattle.mrpc_table.specs.Text.{message_name}
use Rattle.mrpc_table.specs.Valid.{IsValid, IsBelow}
use Rattle.mrpc_table.specs.declared.table.Table.{Table}
use Rattle.schema_binding.specs.Agreement.{IsDifference, IsFirstDifference}
use Rattle.schema_binding.specs.Places.{IsPair, IsPrintedDifferently}
use Rattle.schema_binding.specs.Reach.{partner_of, HasMarkedName, IsSameIn, IsLeastIn, HasExactlyReached}
use Rattle.schema_binding.specs.declared.reach.ReachedPairs.{ReachedPairs}
use Rattle.schema_binding.proofs.Order.{names_rise}
use Rattle.schema_binding.proofs.Prints.{other_is, is_other}

-- a field that differs is in a marked message
record StandsMarked (T U : Table) (r : ReachedPairs) (type : List ℕ) (number : ℕ) : Type 0 where
  pub ours : ℕ
  pub theirs : ℕ
  pub marked : partner_of r ours ≡ Some theirs
  pub within : ours < length T.messages
  pub named : message_name T ours ≡ type
  pub other : IsPrintedDifferently T U ours theirs number

stands_marked : (T U : Table) (service : List ℕ) (r : ReachedPairs) → IsValid T → IsValid U → HasExactlyReached T U service r
    → (type : List ℕ) (number : ℕ) → IsDifference T U service type number
    → StandsMarked T U r type number
stands_marked T U service r valid_T valid_U reached type number d =
    let has : HasMarkedName T r type = reached.all type d.reached in
    let pair : IsPair T U has.0 has.1.0 = reached.paired.pairs has.0 has.1.0 has.1.1 in
    record {
      ours = has.0;
      theirs = has.1.0;
      marked = has.1.1;
      within = pair.ours;
      named = has.2;
      other = other_is T U valid_T valid_U service has.0 has.1.0 number pair (subst (λ (name : List ℕ). IsDifference T U service name number) (sym has.2) d);
    }

pub differs_first : (T U : Table) (service : List ℕ) (r : ReachedPairs) → IsValid T → IsValid U → HasExactlyReached T U service r → (i number : ℕ)
    → ((k : ℕ) → k < i → IsSameIn T U r k) → IsLeastIn T U r i number → IsFirstDifference T U service (message_name T i) number
differs_first T U service r valid_T valid_U reached i number same (j, marked, least) = record {
  differs = is_other T U service i j number (reached.paired.pairs i j marked) (reached.only i (j, marked)) least.here;
  least = λ other n d.
      let s : StandsMarked T U r other n = stands_marked T U service r valid_T valid_U reached other n d in
      elim (cases_order i s.ours) [
        | inl equal ↦
            let partner : s.theirs ≡ j = same_Some s.theirs j (sym s.marked ∙ ap (partner_of r) (sym equal) ∙ marked) in
            let here : IsPrintedDifferently T U i j n = subst (λ k. IsPrintedDifferently T U k j n) (sym equal) (subst (λ k. IsPrintedDifferently T U s.ours k n) partner s.other) in
            inr (ap (message_name T) equal ∙ s.named, least.least n here)
        | inr apart ↦ elim apart [
          | inl below ↦ inl (subst (λ (name : List ℕ). IsBelow (message_name T i) name) s.named (names_rise T valid_T i s.ours below s.within))
          | inr above ↦ absurd (same s.ours above s.theirs n s.marked s.other)
        ]
      ];
}

pub differs_nowhere : (T U : Table) (service : List ℕ) (r : ReachedPairs) → IsValid T → IsValid U → HasExactlyReached T U service r
    → ((k : ℕ) → k < length T.messages → IsSameIn T U r k) → (type : List ℕ) (number : ℕ) → IsDifference T U service type number → ⊥
differs_nowhere T U service r valid_T valid_U reached same type number d =
    let s : StandsMarked T U r type number = stands_marked T U service r valid_T valid_U reached type number d in
    same s.ours s.within s.theirs number s.marked s.other
