-- Numbers of a table that are in range.
use Rattle.std.proofs.Common.{◌≡◌, true, false, List, [], ◌∷◌, Contains, ap, ◌∙◌, inl, inr}
use Rattle.std.specs.List.{list_all}
use Rattle.std.proofs.lemmas.Bool.{and_cases, and_parts, both_ways, cases_Bool, not-true, not_from_false}
use Rattle.toml.specs.Data.{Members}
use Rattle.scenario_toml.specs.Values.{TheIntegerRange, is_out, is_within_at}
use Rattle.scenario_reader.proofs.Lists.{none_in, there_cases, there_first, there_more}

pub all_within : (ms : Members) (ranges : List TheIntegerRange) → list_all (is_within_at ms) ranges ≡ true → (r : TheIntegerRange) → Contains ranges r
    → is_out ms r ≡ true → ⊥
all_within ms [] e r h out = none_in r h
all_within ms (x ∷ xs) e r h out =
    let both = and_parts (is_within_at ms x) (list_all (is_within_at ms) xs) e in
    elim (there_cases x xs r h) [
      | inl is ↦ both_ways (is_out ms x) (not-true _ both.0) (ap (is_out ms) is ∙ out)
      | inr more ↦ all_within ms xs both.1 r more out
    ]

pub one_out : (ms : Members) (ranges : List TheIntegerRange) → list_all (is_within_at ms) ranges ≡ false
    → (r : TheIntegerRange) × Contains ranges r × (is_out ms r ≡ true)
one_out ms [] e = absurd cc
one_out ms (x ∷ xs) e = elim (cases_Bool (is_out ms x)) [
  | inl out ↦ (x, there_first x xs, out)
  | inr fine ↦
      let rest : list_all (is_within_at ms) xs ≡ false =
      elim (and_cases (is_within_at ms x) (list_all (is_within_at ms) xs) e) [
        | inl bad ↦ absurd (both_ways (is_within_at ms x) bad (not_from_false _ fine))
        | inr rest ↦ rest
      ] in
      let more = one_out ms xs rest in
      (more.0, there_more x xs more.0 more.1, more.2)
]
