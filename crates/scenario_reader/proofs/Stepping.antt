-- Lines of an operator, read one after another.
use Rattle.std.proofs.Common.{◌≡◌, ◌⊎◌, nat_lt, ℕ, ◌<◌, ◌≤◌, List, [], ◌∷◌, ◌++◌, Contains, Option, Some, None, refl}
use Rattle.std.proofs.Common.{sym, ap, ◌∙◌, subst, inl, inr, arith}
use Rattle.std.proofs.lemmas.Bool.{cases_Bool, ltb-false, ltb-true}
use Rattle.std.proofs.lemmas.List.{append_assoc}
use Rattle.std.proofs.lemmas.List.Elements.{Contains-append_left, Contains-push, Contains-push_cases}
use Rattle.std.proofs.lemmas.Option.{same_Some}
use Rattle.mrpc_table.specs.Lines.{words_of}
use Rattle.script_grammar.specs.Lines.{HaveMeanings, HasReason}
use Rattle.script_grammar.specs.WordKinds.{Meaning, number_at}
use Rattle.script_grammar.specs.declared.fault.ScriptReason.{ScriptReason}
use Rattle.script_grammar.specs.declared.word_kind.WordKind.{WordKind}
use Rattle.scenario.specs.Lines.{HasDecreasingCount, count_in}
use Rattle.scenario.specs.Reasons.{IsSoFar, lower_ranked, reason_of_line, scenario_reason_rank}
use Rattle.scenario.specs.declared.fault.ScenarioReason.{ScenarioReason}
use Rattle.scenario.specs.declared.fault.ScenarioReason.TheVariants.{Number}
use Rattle.scenario_lines.specs.Forms.{step_sorts}
use Rattle.scenario_lines.specs.Reasons.{IsFirstLineReason}
use Rattle.scenario_lines.specs.Reasons as line_reasons
use Rattle.scenario_lines.specs.StepLines.{IsStepFormMeaning, IsStepTextFault, IsStepTextMeaning, in_words, no_form}
use Rattle.scenario_lines.specs.declared.form.StepForm.{StepForm}
use Rattle.scenario_lines.specs.declared.form.StepForm.TheVariants as step
use Rattle.scenario_lines.specs.declared.reason.LineReason.{LineReason}
use Rattle.scenario_lines.specs.declared.reason.LineReason.TheVariants as line_reason
use Rattle.scenario_lines.specs.declared.step.StepText.{StepText}
use Rattle.scenario_lines.specs.declared.step.StepText.TheVariants as text
use Rattle.scenario_reader.specs.StepLinesReading.{HasReadLines, HasLineFault, HasLinesFault, AreStepMeanings, HasLineCount}
use Rattle.scenario_reader.proofs.FirstReason.{Either, joined, same_reasons}
use Rattle.scenario_reader.proofs.Lists.{none_in, snoc_split, there_cases, there_first, there_more}

-- the laws of words that a reader uses
pub record Laws : Type 0 where
  pub one : (sorts : List WordKind) (words : List (List ℕ)) (ms ns : List Meaning) → HaveMeanings sorts words ms → HaveMeanings sorts words ns → ms ≡ ns
  pub not_both : (sorts : List WordKind) (words : List (List ℕ)) (ms : List Meaning) (r : ScriptReason) → HaveMeanings sorts words ms → HasReason sorts words r → ⊥

tells_count : (f : StepForm) (ms : List Meaning) (s : StepText) → IsStepFormMeaning f ms s → count_in s ≡ number_at ms 0
tells_count step.Attach ms (text.Attach count at name policy) h = h.0
tells_count step.Attach ms (text.Detach count name) h = absurd h
tells_count step.Attach ms (text.Upgrade count name policy) h = absurd h
tells_count step.Detach ms (text.Attach count at name policy) h = absurd h
tells_count step.Detach ms (text.Detach count name) h = h.0
tells_count step.Detach ms (text.Upgrade count name policy) h = absurd h
tells_count step.Upgrade ms (text.Attach count at name policy) h = absurd h
tells_count step.Upgrade ms (text.Detach count name) h = absurd h
tells_count step.Upgrade ms (text.Upgrade count name policy) h = h.0

-- the reasons of lines keep their order
pub line_order : (a b : LineReason) → line_reasons.line_reason_rank a ≤ line_reasons.line_reason_rank b → scenario_reason_rank (reason_of_line a) ≤ scenario_reason_rank (reason_of_line b)
line_order line_reason.Number line_reason.Number h = omega arith
line_order line_reason.Number line_reason.Name h = omega arith
line_order line_reason.Number line_reason.Word h = omega arith
line_order line_reason.Number line_reason.Place h = omega arith
line_order line_reason.Name line_reason.Number h = absurd (omega (arith, h))
line_order line_reason.Name line_reason.Name h = omega arith
line_order line_reason.Name line_reason.Word h = omega arith
line_order line_reason.Name line_reason.Place h = omega arith
line_order line_reason.Word line_reason.Number h = absurd (omega (arith, h))
line_order line_reason.Word line_reason.Name h = absurd (omega (arith, h))
line_order line_reason.Word line_reason.Word h = omega arith
line_order line_reason.Word line_reason.Place h = omega arith
line_order line_reason.Place line_reason.Number h = absurd (omega (arith, h))
line_order line_reason.Place line_reason.Name h = absurd (omega (arith, h))
line_order line_reason.Place line_reason.Word h = absurd (omega (arith, h))
line_order line_reason.Place line_reason.Place h = omega arith

module _ (laws : Laws) where
  -- a line has one count
  one_count : (line : List ℕ) (a b : StepText) → IsStepTextMeaning line a → IsStepTextMeaning line b → count_in a ≡ count_in b
  one_count line a b p q =
      let form : p.form ≡ q.form = same_Some _ _ (sym p.is_form ∙ q.is_form) in
      let said = subst (λ (f : StepForm). HaveMeanings (step_sorts f) (words_of line) p.meanings) form p.said in
      let same = laws.one (step_sorts q.form) (words_of line) p.meanings q.meanings said q.said in
      tells_count p.form p.meanings a p.tells ∙ ap (λ (ms : List Meaning). number_at ms 0) same ∙ sym (tells_count q.form q.meanings b q.tells)

  -- a line with a meaning has no fault
  pub told_fine : (line : List ℕ) (s : StepText) (why : LineReason) → IsStepTextMeaning line s → IsStepTextFault line why → ⊥
  told_fine line s why p (no_form none is) = absurd (let form = p.is_form in let no : None ≡ Some p.form = sym none ∙ form in cc)
  told_fine line s why p (in_words f form words) =
      let same : f ≡ p.form = same_Some _ _ (sym form ∙ p.is_form) in
      laws.not_both (step_sorts p.form) (words_of line) p.meanings words.0 p.said
      (subst (λ (g : StepForm). HasReason (step_sorts g) (words_of line) words.0) same words.1)

  -- ---- one more line

  tell_more : (lines : List (List ℕ)) (told : List StepText) (line : List ℕ) (s : StepText) → AreStepMeanings lines told → IsStepTextMeaning line s
      → AreStepMeanings (lines ++ line ∷ []) (told ++ s ∷ [])
  tell_more [] told line s t says = inl (s, [], says, ap (λ (xs : List StepText). xs ++ s ∷ []) t, refl)
  tell_more (l ∷ lines) told line s (inl (first, rest, says_first, is, more)) says =
      inl (first, rest ++ s ∷ [], says_first, ap (λ (xs : List StepText). xs ++ s ∷ []) is, tell_more lines rest line s more says)
  tell_more (l ∷ lines) told line s (inr (fault, more)) says = inr (fault, tell_more lines told line s more says)

  tell_same : (lines : List (List ℕ)) (told : List StepText) (line : List ℕ) (why : LineReason) → AreStepMeanings lines told → IsStepTextFault line why
      → AreStepMeanings (lines ++ line ∷ []) told
  tell_same [] told line why t fails = inr ((why, fails), t)
  tell_same (l ∷ lines) told line why (inl (first, rest, says_first, is, more)) fails =
      inl (first, rest, says_first, is, tell_same lines rest line why more fails)
  tell_same (l ∷ lines) told line why (inr (fault, more)) fails = inr (fault, tell_same lines told line why more fails)

  module _ (lines : List (List ℕ)) (line : List ℕ) where
    still_counts : (count : ℕ) → HasLineCount lines count → HasLineCount (lines ++ line ∷ []) count
    still_counts count h = (h.0, h.1, Contains-append_left lines (line ∷ []) h.0 h.2, h.3, h.4)

    count_cases : (count : ℕ) → HasLineCount (lines ++ line ∷ []) count → HasLineCount lines count ⊎ ((s : StepText) × IsStepTextMeaning line s × (count_in s ≡ count))
    count_cases count h = elim (Contains-push_cases lines line h.0 h.2) [
      | inl there ↦ inl (h.0, h.1, there, h.3, h.4)
      | inr same ↦ inr (h.1, subst (λ (l : List ℕ). IsStepTextMeaning l h.1) (sym same) h.3, h.4)
    ]

    still_fails : (q : ScenarioReason) → HasLineFault lines q → HasLineFault (lines ++ line ∷ []) q
    still_fails q h = (h.0, h.1, Contains-append_left lines (line ∷ []) h.0 h.2, h.3, h.4)

    still_falls : HasDecreasingCount lines → HasDecreasingCount (lines ++ line ∷ [])
    still_falls h = record {
      front = h.front;
      between = h.between;
      back = h.back ++ line ∷ [];
      first = h.first;
      second = h.second;
      there =
          ap (λ (xs : List (List ℕ)). xs ++ line ∷ []) h.there
          ∙ append_assoc (h.front ++ h.first ∷ h.between) (h.second ∷ h.back) (line ∷ []);
      earlier = h.earlier;
      later = h.later;
      first_meaning = h.first_meaning;
      second_meaning = h.second_meaning;
      less = h.less;
    }

    -- the line has a lesser count than an earlier one
    abbrev FallsHere : Type 0
    FallsHere = (count : ℕ) × HasLineCount lines count × ((s : StepText) × IsStepTextMeaning line s × (count_in s < count))

    first_there : (front : List (List ℕ)) (first : List ℕ) (between : List (List ℕ)) → Contains (front ++ first ∷ between) first
    first_there [] first between = there_first first between
    first_there (x ∷ front) first between = there_more x (front ++ first ∷ between) first (first_there front first between)

    fall_cases : HasDecreasingCount (lines ++ line ∷ []) → HasDecreasingCount lines ⊎ FallsHere
    fall_cases h = elim (snoc_split lines (h.front ++ h.first ∷ h.between) line h.second h.back h.there) [
      | inl both ↦ inr (
        count_in h.earlier,
        (h.first, h.earlier, subst (λ (xs : List (List ℕ)). Contains xs h.first) both.0 (first_there h.front h.first h.between), h.first_meaning, refl),
        (h.later, subst (λ (l : List ℕ). IsStepTextMeaning l h.later) both.1 h.second_meaning, h.less),
      )
      | inr more ↦ inl (record {
        front = h.front;
        between = h.between;
        back = more.0;
        first = h.first;
        second = h.second;
        there = more.1;
        earlier = h.earlier;
        later = h.later;
        first_meaning = h.first_meaning;
        second_meaning = h.second_meaning;
        less = h.less;
      })
    ]

    split_there : (xs : List (List ℕ)) (x : List ℕ) → Contains xs x → (front : List (List ℕ)) × (back : List (List ℕ)) × (xs ≡ front ++ x ∷ back)
    split_there [] x h = absurd (none_in x h)
    split_there (y ∷ ys) x h = elim (there_cases y ys x h) [
      | inl is ↦ ([], ys, ap (λ (z : List ℕ). z ∷ ys) is)
      | inr more ↦ (let r = split_there ys x more in (y ∷ r.0, r.1, ap (λ (zs : List (List ℕ)). y ∷ zs) r.2))
    ]

    falls_here : FallsHere → HasDecreasingCount (lines ++ line ∷ [])
    falls_here h =
        let told = h.1 in
        let parts = split_there lines told.0 told.2 in
        record {
          front = parts.0;
          between = parts.1;
          back = [];
          first = told.0;
          second = line;
          there = ap (λ (xs : List (List ℕ)). xs ++ line ∷ []) parts.2;
          earlier = told.1;
          later = h.2.0;
          first_meaning = told.3;
          second_meaning = h.2.1;
          less = (let same = told.4 in let less = h.2.2 in omega (arith, same, less));
        }

    -- ---- faults of one more line

    module _ (s : StepText) (says : IsStepTextMeaning line s) (most : ℕ) (above : (count : ℕ) → HasLineCount lines count → count ≤ most)
        (reached : (most ≡ 0) ⊎ HasLineCount lines most) where
      told_above : (next : ℕ) → most ≤ next → count_in s ≤ next → (count : ℕ) → HasLineCount (lines ++ line ∷ []) count → count ≤ next
      told_above next more own count h = elim (count_cases count h) [
        | inl there ↦ (let a = above count there in omega (arith, a, more))
        | inr here ↦ (let same = one_count line here.0 s here.1 says in let is = here.2 in omega (arith, same, is, own))
      ]

      -- the only fault of a line with a meaning is a count that decreases
      against_cases : (q : ScenarioReason) → HasLinesFault (lines ++ line ∷ []) q → HasLinesFault lines q ⊎ (FallsHere × (q ≡ Number))
      against_cases q (inl h) = elim (Contains-push_cases lines line h.0 h.2) [
        | inl there ↦ inl (inl (h.0, h.1, there, h.3, h.4))
        | inr same ↦ absurd (told_fine line s h.1 says (subst (λ (l : List ℕ). IsStepTextFault l h.1) (sym same) h.3))
      ]
      against_cases q (inr (falls, is)) = elim (fall_cases falls) [
        | inl before ↦ inl (inr (before, is))
        | inr here ↦ inr (here, is)
      ]

      still_against : (q : ScenarioReason) → HasLinesFault lines q → HasLinesFault (lines ++ line ∷ []) q
      still_against q (inl h) = inl (still_fails q h)
      still_against q (inr (falls, is)) = inr (still_falls falls, is)

      pub reason_kept : (first : Option ScenarioReason) → most ≤ count_in s → IsSoFar (HasLinesFault lines) first → IsSoFar (HasLinesFault (lines ++ line ∷ [])) first
      reason_kept first more so_far = same_reasons (HasLinesFault lines) (HasLinesFault (lines ++ line ∷ [])) first so_far still_against
          (λ q h. elim (against_cases q h) [
            | inl before ↦ before
            | inr here ↦
                let a = above here.0.0 here.0.1 in
                let same = one_count line here.0.2.0 s here.0.2.1 says in
                let less = here.0.2.2 in
                absurd (omega (arith, a, same, less, more))
          ])

      pub reason_falls : (first : Option ScenarioReason) → count_in s < most → IsSoFar (HasLinesFault lines) first
          → IsSoFar (HasLinesFault (lines ++ line ∷ [])) (lower_ranked first (Some Number))
      reason_falls first less so_far =
          let Here : ScenarioReason → Type 0 = λ q. q ≡ Number in
          let new : IsSoFar Here (Some Number) = record { stands = refl; first = λ q is. (let e = ap scenario_reason_rank is in omega (arith, e)) } in
          let here : FallsHere = elim reached [
            | inl none ↦ absurd (omega (arith, none, less))
            | inr told ↦ (most, told, (s, says, less))
          ] in
          same_reasons (Either (HasLinesFault lines) Here) (HasLinesFault (lines ++ line ∷ [])) (lower_ranked first (Some Number))
          (joined (HasLinesFault lines) Here first (Some Number) so_far new)
          (λ q h. elim h [
            | inl before ↦ still_against q before
            | inr is ↦ inr (falls_here here, is)
          ])
          (λ q h. elim (against_cases q h) [
            | inl before ↦ inl before
            | inr falls ↦ inr falls.1
          ])

    -- ---- a faulty line

    module _ (why : LineReason) (is : IsFirstLineReason (IsStepTextFault line) why) where
      abbrev FailsHere : ScenarioReason → Type 0
      FailsHere q = (r : LineReason) × IsStepTextFault line r × (q ≡ reason_of_line r)

      fails_first : IsSoFar FailsHere (Some (reason_of_line why))
      fails_first = record {
        stands = (why, is.stands, refl);
        first = λ q h. subst (λ (x : ScenarioReason). scenario_reason_rank (reason_of_line why) ≤ scenario_reason_rank x) (sym h.2) (line_order why h.0 (is.first h.0 h.1));
      }

      fault_cases : (q : ScenarioReason) → HasLinesFault (lines ++ line ∷ []) q → HasLinesFault lines q ⊎ FailsHere q
      fault_cases q (inl h) = elim (Contains-push_cases lines line h.0 h.2) [
        | inl there ↦ inl (inl (h.0, h.1, there, h.3, h.4))
        | inr same ↦ inr (h.1, subst (λ (l : List ℕ). IsStepTextFault l h.1) (sym same) h.3, h.4)
      ]
      fault_cases q (inr (falls, e)) = elim (fall_cases falls) [
        | inl before ↦ inl (inr (before, e))
        | inr here ↦ absurd (told_fine line here.2.0 why here.2.1 is.stands)
      ]

      still_at_fault : (q : ScenarioReason) → HasLinesFault lines q → HasLinesFault (lines ++ line ∷ []) q
      still_at_fault q (inl h) = inl (still_fails q h)
      still_at_fault q (inr (falls, e)) = inr (still_falls falls, e)

      reason_fault : (first : Option ScenarioReason) → IsSoFar (HasLinesFault lines) first
          → IsSoFar (HasLinesFault (lines ++ line ∷ [])) (lower_ranked first (Some (reason_of_line why)))
      reason_fault first so_far =
          same_reasons (Either (HasLinesFault lines) FailsHere) (HasLinesFault (lines ++ line ∷ [])) (lower_ranked first (Some (reason_of_line why)))
          (joined (HasLinesFault lines) FailsHere first (Some (reason_of_line why)) so_far fails_first)
          (λ q h. elim h [
            | inl before ↦ still_at_fault q before
            | inr here ↦ inl (line, here.0, Contains-push lines line, here.1, here.2)
          ])
          fault_cases

      pub told_fault : (told : List StepText) (most : ℕ) (first : Option ScenarioReason) → HasReadLines lines told most first
          → HasReadLines (lines ++ line ∷ []) told most (lower_ranked first (Some (reason_of_line why)))
      told_fault told most first so_far = record {
        tell = tell_same lines told line why so_far.tell is.stands;
        above = λ count h. elim (count_cases count h) [
          | inl there ↦ so_far.above count there
          | inr here ↦ absurd (told_fine line here.0 why here.1 is.stands)
        ];
        reached = elim so_far.reached [
          | inl none ↦ inl none
          | inr there ↦ inr (still_counts most there)
        ];
        reason = reason_fault first so_far.reason;
      }

    -- ---- a line with a meaning

    module _ (s : StepText) (says : IsStepTextMeaning line s) (told : List StepText) (most : ℕ) (first : Option ScenarioReason)
        (so_far : HasReadLines lines told most first) where
      counts_here : HasLineCount (lines ++ line ∷ []) (count_in s)
      counts_here = (line, s, Contains-push lines line, says, refl)

      pub told_more : most ≤ count_in s → HasReadLines (lines ++ line ∷ []) (told ++ s ∷ []) (count_in s) first
      told_more more = record {
        tell = tell_more lines told line s so_far.tell says;
        above = told_above s says most so_far.above so_far.reached (count_in s) more (omega arith);
        reached = inr counts_here;
        reason = reason_kept s says most so_far.above so_far.reached first more so_far.reason;
      }

      pub told_less : count_in s < most → HasReadLines (lines ++ line ∷ []) (told ++ s ∷ []) most (lower_ranked first (Some Number))
      told_less less = record {
        tell = tell_more lines told line s so_far.tell says;
        above = told_above s says most so_far.above so_far.reached most (omega arith) (omega (arith, less));
        reached = elim so_far.reached [
          | inl none ↦ absurd (omega (arith, none, less))
          | inr there ↦ inr (still_counts most there)
        ];
        reason = reason_falls s says most so_far.above so_far.reached first less so_far.reason;
      }

      told_same : (told' : List StepText) (most' : ℕ) (first' : Option ScenarioReason) (xs : List StepText) (m : ℕ) (f : Option ScenarioReason)
          → told' ≡ xs → most' ≡ m → first' ≡ f → HasReadLines (lines ++ line ∷ []) xs m f → HasReadLines (lines ++ line ∷ []) told' most' first'
      told_same told' most' first' xs m f a b e h =
          subst (λ (ts : List StepText). HasReadLines (lines ++ line ∷ []) ts most' first') (sym a)
          (subst (λ (n : ℕ). HasReadLines (lines ++ line ∷ []) xs n first') (sym b)
          (subst (λ (o : Option ScenarioReason). HasReadLines (lines ++ line ∷ []) xs m o) (sym e) h))

      pub told_next : (told' : List StepText) (most' : ℕ) (first' : Option ScenarioReason) → told' ≡ told ++ s ∷ []
          → (most ≤ count_in s → (most' ≡ count_in s) × (first' ≡ first))
          → (count_in s < most → (most' ≡ most) × (first' ≡ lower_ranked first (Some Number))) → HasReadLines (lines ++ line ∷ []) told' most' first'
      told_next told' most' first' a more less = elim (cases_Bool (nat_lt (count_in s) most)) [
        | inl e ↦ (let h = ltb-true (count_in s) most e in let r = less h in
            told_same told' most' first' (told ++ s ∷ []) most (lower_ranked first (Some Number)) a r.0 r.1 (told_less h))
        | inr e ↦ (let h = ltb-false (count_in s) most e in let r = more h in
            told_same told' most' first' (told ++ s ∷ []) (count_in s) first a r.0 r.1 (told_more h))
      ]

pub nothing_told : HasReadLines [] [] 0 None
nothing_told = record {
  tell = refl;
  above = λ count h. absurd (none_in h.0 h.2);
  reached = inl refl;
  reason = λ q h. elim h [
    | inl fails ↦ absurd (none_in fails.0 fails.2)
    | inr falls ↦ absurd (none_falls falls.0)
  ];
}
  where
    none_falls : HasDecreasingCount [] → ⊥
    none_falls f = go f.front f.there where
      go : (front : List (List ℕ)) → [] ≡ front ++ f.first ∷ f.between ++ f.second ∷ f.back → ⊥
      go [] e = absurd cc
      go (x ∷ front) e = absurd cc
