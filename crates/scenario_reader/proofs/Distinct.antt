-- Entries without faults declare different things.
use Rattle.std.proofs.Common.{◌≡◌, ◌+◌, List, [], ◌∷◌, ◌++◌, length, map, Contains, refl, sym, ap, ◌∙◌, subst, inl, inr, append_assoc}
use Rattle.mrpc_table.specs.Valid.{AreDistinct}
use Rattle.toml.specs.Data.{Members}
use Rattle.scenario.specs.declared.fault.ScenarioReason.{ScenarioReason}
use Rattle.scenario_entries.specs.Entries.{AreFaultFree}
use Rattle.scenario_reader.proofs.Lists.{none_in, there_cases, there_first, there_more}

module _ {Y : Type 0} (f : Members → Y) where
  pub record Found (v : Y) (xs : List Members) : Type 0 where
    pub front : List Members
    pub item : Members
    pub back : List Members
    pub whole : xs ≡ front ++ item ∷ back
    pub is : f item ≡ v

  find : (v : Y) (xs : List Members) → Contains (map f xs) v → Found v xs
  find v [] h = absurd (none_in v h)
  find v (x ∷ xs) h = elim (there_cases (f x) (map f xs) v h) [
    | inl is ↦ record { front = []; item = x; back = xs; whole = refl; is = is }
    | inr more ↦
        let r = find v xs more in
        record { front = x ∷ r.front; item = r.item; back = r.back; whole = ap (λ (ys : List Members). x ∷ ys) r.whole; is = r.is }
  ]

  behind_there : (pre l : List Members) (x : Members) → Contains (map f (pre ++ x ∷ l)) (f x)
  behind_there [] l x = there_first (f x) (map f l)
  behind_there (p ∷ pre) l x = there_more (f p) (map f (pre ++ x ∷ l)) (f x) (behind_there pre l x)

  module _ (Against : List Members → Members → ScenarioReason → Type 0)
      (known : (before : List Members) (ms : Members) → Contains (map f before) (f ms) → (q : ScenarioReason) × Against before ms q)
      (entries : List Members) (free : AreFaultFree Against entries) where
    from : (pre xs : List Members) → entries ≡ pre ++ xs → AreDistinct (map f xs)
    from pre [] e = tt
    from pre (x ∷ xs) e = (
      λ h.
          let r = find (f x) xs h in
          let whole : entries ≡ (pre ++ x ∷ r.front) ++ r.item ∷ r.back =
          e ∙ ap (λ (ys : List Members). pre ++ x ∷ ys) r.whole ∙ sym (append_assoc pre (x ∷ r.front) (r.item ∷ r.back)) in
          let there = subst (λ (v : Y). Contains (map f (pre ++ x ∷ r.front)) v) (sym r.is) (behind_there pre r.front x) in
          let against = known (pre ++ x ∷ r.front) r.item there in
          free (pre ++ x ∷ r.front) r.item (length (pre ++ x ∷ r.front) + 1) against.0 (record { back = r.back; whole = whole; is_number = refl })
          against.1,
      from (pre ++ x ∷ []) xs (e ∙ sym (append_assoc pre (x ∷ []) xs)),
    )

    pub distinct_of : AreDistinct (map f entries)
    distinct_of = from [] entries refl
