-- Marked policies, read again one after another.
use Rattle.std.proofs.Common.{◌≡◌, ◌⊎◌, ℕ, zero, suc, ◌+◌, ◌<◌, Bool, true, false, List, [], ◌∷◌, ◌++◌, length}
use Rattle.std.proofs.Common.{get_or, map, take, Contains, Option, Some, None, Ok, Err, refl, sym, ap, ◌∙◌, subst}
use Rattle.std.proofs.Common.{inl, inr, arith}
use Rattle.std.specs.Prelude.{slice_get}
use Rattle.std.proofs.lemmas.List.{length-take-le, map-append, take_more}
use Rattle.std.proofs.lemmas.List.Elements.{All-push, Contains-append_left, Contains-push, Contains-push_cases}
use Rattle.std.proofs.lemmas.Option.{same_Some, slice_get_within}
use Rattle.mrpc_table.specs.Valid.{IsAscendingBy}
use Rattle.mrpc_table.specs.declared.policy_lines.RuleReason.{RuleReason}
use Rattle.mrpc_table.specs.declared.table.Table.{Table}
use Rattle.run_plan.specs.declared.application.OwnPolicy.{OwnPolicy}
use Rattle.toml.specs.Data.{Members}
use Rattle.scenario.specs.Keys.{entry_kind}
use Rattle.scenario.specs.Policies.{IsPolicyOfKind, HasFaultyLine}
use Rattle.scenario.specs.Reasons.{IsSoFar, lower_ranked, reason_of_policy_line, scenario_reason_rank}
use Rattle.scenario.specs.declared.fault.ScenarioReason.{ScenarioReason}
use Rattle.scenario_entries.specs.Marking.{AreReadAgain, HasReadMarked, IsReadAgain, HasMarkedFault}
use Rattle.scenario_entries.proofs.FirstPolicyReason.{Either, joined, same_reasons}
use Rattle.scenario_entries.proofs.PolicyLists.{none_in, there_cases, there_first, there_more}

push_cases : (xs : List Bool) (x : Bool) (j : ℕ) → slice_get (xs ++ x ∷ []) j ≡ Some true → ((j ≡ length xs) × (x ≡ true)) ⊎ (slice_get xs j ≡ Some true)
push_cases [] x zero e = inl (refl, same_Some x true e)
push_cases [] x (suc j) e = absurd cc
push_cases (y ∷ ys) x zero e = inr e
push_cases (y ∷ ys) x (suc j) e = elim (push_cases ys x j e) [
  | inl both ↦ inl (ap suc both.0, both.1)
  | inr there ↦ inr there
]

push_kept : (xs : List Bool) (x : Bool) (j : ℕ) → slice_get xs j ≡ Some true → slice_get (xs ++ x ∷ []) j ≡ Some true
push_kept [] x j e = absurd cc
push_kept (y ∷ ys) x zero e = e
push_kept (y ∷ ys) x (suc j) e = push_kept ys x j e

push_here : (xs : List Bool) → slice_get (xs ++ true ∷ []) (length xs) ≡ Some true
push_here [] = refl
push_here (y ∷ ys) = push_here ys

ascends_push : {X : Type 0} (R : X → X → Type 0) (xs : List X) (y : X) → IsAscendingBy R xs → ((x : X) → Contains xs x → R x y) → IsAscendingBy R (xs ++ y ∷ [])
ascends_push R [] y a below = tt
ascends_push R (x ∷ []) y a below = (below x (there_first x []), tt)
ascends_push R (x ∷ z ∷ xs) y a below = (a.0, ascends_push R (z ∷ xs) y a.1 (λ w h. below w (there_more x (z ∷ xs) w h)))

module _ (entries tenants : List Members) (own : Table) (marks : List Bool) where
  moved : (x : Bool) (q : ScenarioReason) → HasMarkedFault entries own marks q → HasMarkedFault entries own (marks ++ x ∷ []) q
  moved x q h = record {
    place = h.place;
    marked = push_kept marks x h.place h.marked;
    entry = h.entry;
    there = h.there;
    why = h.why;
    fails = h.fails;
    is = h.is;
  }

  -- an index that isn't marked, or whose policy has no fault
  fine_more : (x : Bool) (f : Option ScenarioReason)
      → ((entry : Members) (why : RuleReason) → x ≡ true → slice_get entries (length marks) ≡ Some entry → HasFaultyLine (entry_kind entry) own entry why → ⊥)
      → IsSoFar (HasMarkedFault entries own marks) f → IsSoFar (HasMarkedFault entries own (marks ++ x ∷ [])) f
  fine_more x f fine so_far = same_reasons (HasMarkedFault entries own marks) (HasMarkedFault entries own (marks ++ x ∷ [])) f so_far (moved x)
      (λ q h. elim (push_cases marks x h.place h.marked) [
        | inl both ↦ absurd (fine h.entry h.why both.1 (ap (slice_get entries) (sym both.0) ∙ h.there) h.fails)
        | inr there ↦ record { place = h.place; marked = there; entry = h.entry; there = h.there; why = h.why; fails = h.fails; is = h.is }
      ])

  pub unmarked_more : (f : Option ScenarioReason) → IsSoFar (HasMarkedFault entries own marks) f → IsSoFar (HasMarkedFault entries own (marks ++ false ∷ [])) f
  unmarked_more f so_far = fine_more false f (λ entry why is at fails. absurd cc) so_far

  module _ (entry : Members) (at : slice_get entries (length marks) ≡ Some entry) where
    pub said_more : (f : Option ScenarioReason) → ((why : RuleReason) → HasFaultyLine (entry_kind entry) own entry why → ⊥)
        → IsSoFar (HasMarkedFault entries own marks) f → IsSoFar (HasMarkedFault entries own (marks ++ true ∷ [])) f
    said_more f none so_far = fine_more true f
        (λ other why is here fails. none why (subst (λ (m : Members). HasFaultyLine (entry_kind m) own m why) (same_Some other entry (sym here ∙ at)) fails)) so_far

    pub fails_more : (f : Option ScenarioReason) (why : RuleReason) → HasFaultyLine (entry_kind entry) own entry why
        → ((other : RuleReason) → HasFaultyLine (entry_kind entry) own entry other → other ≡ why) → IsSoFar (HasMarkedFault entries own marks) f
        → IsSoFar (HasMarkedFault entries own (marks ++ true ∷ [])) (lower_ranked f (Some (reason_of_policy_line why)))
    fails_more f why fails one so_far =
        let Here : ScenarioReason → Type 0 = λ q. q ≡ reason_of_policy_line why in
        let new : IsSoFar Here (Some (reason_of_policy_line why)) = record { stands = refl; first = λ q is. (let e = ap scenario_reason_rank is in omega (arith, e)) } in
        same_reasons (Either (HasMarkedFault entries own marks) Here) (HasMarkedFault entries own (marks ++ true ∷ [])) (lower_ranked f (Some (reason_of_policy_line why)))
        (joined (HasMarkedFault entries own marks) Here f (Some (reason_of_policy_line why)) so_far new)
        (λ q h. elim h [
          | inl before ↦ moved true q before
          | inr is ↦ record { place = length marks; marked = push_here marks; entry = entry; there = at; why = why; fails = fails; is = is }
        ])
        (λ q h. elim (push_cases marks true h.place h.marked) [
          | inl both ↦
              let same = same_Some h.entry entry (sym h.there ∙ ap (slice_get entries) both.0 ∙ at) in
              let reason = one h.why (subst (λ (m : Members). HasFaultyLine (entry_kind m) own m h.why) same h.fails) in
              inr (h.is ∙ ap reason_of_policy_line reason)
          | inr there ↦ inl (record { place = h.place; marked = there; entry = h.entry; there = h.there; why = h.why; fails = h.fails; is = h.is })
        ])

  places_push : (policies : List OwnPolicy) (p : OwnPolicy) → map (λ o. o.place) (policies ++ p ∷ []) ≡ map (λ (o : OwnPolicy). o.place) policies ++ p.place ∷ []
  places_push policies p = map-append (λ (o : OwnPolicy). o.place) policies (p ∷ [])

  pub read_skip : (policies : List OwnPolicy) → AreReadAgain entries tenants own marks policies → AreReadAgain entries tenants own (marks ++ false ∷ []) policies
  read_skip policies h = record {
    marked = λ place. (λ there. push_kept marks false place ((h.marked place).0 there), λ e. (h.marked place).1 (still place e));
    ascend = h.ascend;
    read = h.read;
  }
    where
      still : (place : ℕ) → slice_get (marks ++ false ∷ []) place ≡ Some true → slice_get marks place ≡ Some true
      still place e = elim (push_cases marks false place e) [
        | inl both ↦ absurd (let no = both.1 in cc)
        | inr there ↦ there
      ]

  pub read_one : (policies : List OwnPolicy) (p : OwnPolicy) (entry : Members) → p.place ≡ length marks → slice_get entries (length marks) ≡ Some entry
      → IsPolicyOfKind own tenants entry p.policy → AreReadAgain entries tenants own marks policies
      → AreReadAgain entries tenants own (marks ++ true ∷ []) (policies ++ p ∷ [])
  read_one policies p entry is at says h = record {
    marked = λ place. (
      λ there. elim (Contains-push_cases (map (λ (o : OwnPolicy). o.place) policies) p.place place (subst (λ (ns : List ℕ). Contains ns place) (places_push policies p) there)) [
        | inl before ↦ push_kept marks true place ((h.marked place).0 before)
        | inr here ↦ subst (λ (n : ℕ). slice_get (marks ++ true ∷ []) n ≡ Some true) (sym is ∙ here) (push_here marks)
      ],
      λ e. subst (λ (ns : List ℕ). Contains ns place) (sym (places_push policies p)) (elim (push_cases marks true place e) [
        | inl both ↦ subst (λ (n : ℕ). Contains (map (λ (o : OwnPolicy). o.place) policies ++ p.place ∷ []) n)
            (is ∙ sym both.0) (Contains-push (map (λ (o : OwnPolicy). o.place) policies) p.place)
        | inr there ↦ Contains-append_left (map (λ (o : OwnPolicy). o.place) policies) (p.place ∷ []) place ((h.marked place).1 there)
      ]),
    );
    ascend = ascends_push (λ (a b : OwnPolicy). a.place < b.place) policies p h.ascend (λ o there. below o there);
    read = All-push (λ o. (m : Members) × (slice_get entries o.place ≡ Some m) × IsPolicyOfKind own tenants m o.policy) policies p h.read
        (entry, ap (slice_get entries) is ∙ at, says);
  }
    where
      below : (o : OwnPolicy) → Contains policies o → o.place < p.place
      below o there =
          let within = slice_get_within marks o.place true ((h.marked o.place).0 (map_there policies o there)) in
          omega (arith, within, is)
        where
          map_there : (ps : List OwnPolicy) (x : OwnPolicy) → Contains ps x → Contains (map (λ (q : OwnPolicy). q.place) ps) x.place
          map_there [] x k = absurd (none_in x k)
          map_there (y ∷ ys) x k = elim (there_cases y ys x k) [
            | inl same ↦ subst (λ (z : OwnPolicy). Contains (map (λ (q : OwnPolicy). q.place) (y ∷ ys)) z.place) same (there_first y.place (map (λ (q : OwnPolicy). q.place) ys))
            | inr more ↦ there_more y.place (map (λ (q : OwnPolicy). q.place) ys) x.place (map_there ys x more)
          ]

-- ---- the next index

module _ (entries tenants : List Members) (own : Table) (marks : List Bool) (i : ℕ) (within : i < length marks) (first : Option ScenarioReason)
    (policies : List OwnPolicy) (h : HasReadMarked entries tenants own (take i marks) first policies) where
  count : length (take i marks) ≡ i
  count = length-take-le i marks (omega (arith, within))

  further : (b : Bool) → get_or marks i false ≡ b → (f : Option ScenarioReason) (ps : List OwnPolicy)
      → HasReadMarked entries tenants own (take i marks ++ b ∷ []) f ps → HasReadMarked entries tenants own (take (i + 1) marks) f ps
  further b is f ps r =
      subst (λ (ms : List Bool). HasReadMarked entries tenants own ms f ps) (sym (take_more marks i false within ∙ ap (λ (x : Bool). take i marks ++ x ∷ []) is)) r

  pub skips : get_or marks i false ≡ false → HasReadMarked entries tenants own (take (i + 1) marks) first policies
  skips is = further false is first policies (record {
    so_far = unmarked_more entries tenants own (take i marks) first h.so_far;
    read = λ none. read_skip entries tenants own (take i marks) policies (h.read none);
  })

  module _ (entry : Members) (there : slice_get entries i ≡ Some entry) (marked : get_or marks i false ≡ true) where
    at : slice_get entries (length (take i marks)) ≡ Some entry
    at = ap (slice_get entries) count ∙ there

    pub takes : (p : OwnPolicy) → p.place ≡ i → IsReadAgain own tenants entry (Ok p.policy)
        → HasReadMarked entries tenants own (take (i + 1) marks) first (policies ++ p ∷ [])
    takes p is says = further true marked first (policies ++ p ∷ []) (record {
      so_far = said_more entries tenants own (take i marks) entry at first says.1 h.so_far;
      read = λ none. read_one entries tenants own (take i marks) policies p entry (is ∙ sym count) at says.0 (h.read none);
    })

    pub fails : (why : RuleReason) (q : ScenarioReason) → IsReadAgain own tenants entry (Err why) → lower_ranked first (Some (reason_of_policy_line why)) ≡ Some q
        → HasReadMarked entries tenants own (take (i + 1) marks) (Some q) policies
    fails why q says is = further true marked (Some q) policies (record {
      so_far = subst (λ (o : Option ScenarioReason). IsSoFar (HasMarkedFault entries own (take i marks ++ true ∷ [])) o) is
          (fails_more entries tenants own (take i marks) entry at first why says.0 says.1 h.so_far);
      read = λ none. absurd (let e : Some q ≡ None = none in cc);
    })
