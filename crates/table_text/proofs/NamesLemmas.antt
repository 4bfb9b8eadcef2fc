-- Names that are gathered from the lines of a text, one line after another.
use Rattle.std.proofs.Common.{◌≡◌, ℕ, List, [], ◌∷◌, ◌++◌, Option, Some, None, refl, ap, sym, subst, ◌∙◌, append_assoc}
use Rattle.std.specs.Prelude.{option_to_list}
use Rattle.std.specs.List.{filter_map, cons_option}
use Rattle.std.proofs.lemmas.List.{append-nil}
use Rattle.mrpc_table.specs.Lines.{pieces_of, whole_lines}
use Rattle.table_text.specs.NameIndex.{AreNames}
use Rattle.table_text.specs.declared.name_index.NameIndex.{NameIndex}
use Rattle.table_text.proofs.LineLemmas.{lines_first, lines_end}

-- the names to start with, those of the lines so far, and those of the remaining lines
pub record NamesSoFar (of_lines : List (List ℕ) → List (List ℕ)) (start : List (List ℕ)) (text rest : List ℕ) (names : NameIndex) : Type 0 where
  pub done : List (List ℕ)
  pub holds : AreNames names done
  pub all : done ++ of_lines (whole_lines rest) ≡ start ++ of_lines (whole_lines text)

pub names_none : (of_lines : List (List ℕ) → List (List ℕ)) (start : List (List ℕ)) (text : List ℕ) (names : NameIndex)
    → AreNames names start → NamesSoFar of_lines start text text names
names_none of_lines start text names h = record { done = start; holds = h; all = refl }

pub names_first : (of_lines : List (List ℕ) → List (List ℕ)) (start : List (List ℕ)) (text rest line others : List ℕ)
    (old new : NameIndex) (more : List (List ℕ)) → pieces_of rest ≡ line ∷ pieces_of others
    → of_lines (line ∷ whole_lines others) ≡ more ++ of_lines (whole_lines others) → ((names : List (List ℕ)) → AreNames old names → AreNames new (names ++ more))
    → NamesSoFar of_lines start text rest old → NamesSoFar of_lines start text others new
names_first of_lines start text rest line others old new more e step added s = record {
  done = s.done ++ more;
  holds = added s.done s.holds;
  all = append_assoc s.done more (of_lines (whole_lines others))
      ∙ ap (λ (xs : List (List ℕ)). s.done ++ xs) (sym step ∙ sym (ap of_lines (lines_first rest line others e)))
      ∙ s.all;
}

pub names_end : (of_lines : List (List ℕ) → List (List ℕ)) (start : List (List ℕ)) (text rest : List ℕ) (names : NameIndex) → pieces_of rest ≡ rest ∷ [] → of_lines [] ≡ []
    → NamesSoFar of_lines start text rest names → AreNames names (start ++ of_lines (whole_lines text))
names_end of_lines start text rest names e none s =
    subst (AreNames names) (sym (append-nil s.done) ∙ ap (λ (xs : List (List ℕ)). s.done ++ xs) (sym none ∙ sym (ap of_lines (lines_end rest e))) ∙ s.all) s.holds

cons_is : {X : Type 0} (o : Option X) (xs : List X) → cons_option o xs ≡ option_to_list o ++ xs
cons_is None xs = refl
cons_is (Some x) xs = refl

pub filtered_first : {X Y : Type 0} (f : X → Option Y) (x : X) (xs : List X) → filter_map f (x ∷ xs) ≡ option_to_list (f x) ++ filter_map f xs
filtered_first f x xs = cons_is (f x) (filter_map f xs)
