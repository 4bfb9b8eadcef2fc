-- The lines of a text, one by one.
use Rattle.std.proofs.Common.{◌≡◌, ℕ, zero, suc, ◌+◌, ◌-◌, ◌≤◌, ◌==◌, cond, List, [], ◌∷◌, ◌++◌, length, map, take}
use Rattle.std.proofs.Common.{drop, sum, Option, Some, None, refl, ap, sym, subst, ◌∙◌, arith}
use Rattle.std.specs.Prelude.{slice_get, unwrap_or}
use Rattle.std.specs.List.{fold}
use Rattle.std.specs.Option.{option_map_or}
use Rattle.mrpc_table.specs.Lines.{pieces_of, whole_lines, remainder_of}
use Rattle.table_text.specs.Lines.{line_of}
use Rattle.table_text.specs.Faults.{bytes_of_lines}
use Rattle.table_text.specs.LineTests.{TypeNames, types_of, names_in_lines, names_after_line, line_fault, end_fault, fault_after_lines}
use Rattle.table_text.specs.Drafts.{names_before_line, with_parsed_line, table_draft_of, empty_draft}
use Rattle.table_text.specs.declared.draft.TableDraft.{TableDraft}
use Rattle.table_text.specs.declared.line.TableLine.{TableLine}
use Rattle.table_text.proofs.KeptLemmas.{before_added, map_push}
use Rattle.table_text.proofs.ListLemmas.{has_part}

pub init_first : {X : Type 0} (x y : X) (ys : List X) → take (length (x ∷ y ∷ ys) - 1) (x ∷ y ∷ ys) ≡ x ∷ take (length (y ∷ ys) - 1) (y ∷ ys)
init_first x y ys =
    let e : length (x ∷ y ∷ ys) - 1 ≡ suc (length (y ∷ ys) - 1) = omega arith in
    rw e refl

pub end_first : {X : Type 0} (x y : X) (ys : List X) → slice_get (x ∷ y ∷ ys) (length (x ∷ y ∷ ys) - 1) ≡ slice_get (y ∷ ys) (length (y ∷ ys) - 1)
end_first x y ys =
    let e : length (x ∷ y ∷ ys) - 1 ≡ suc (length (y ∷ ys) - 1) = omega arith in
    rw e refl

-- one more line, of a text whose first line and other lines are these
pub lines_first : (text line others : List ℕ) → pieces_of text ≡ line ∷ pieces_of others → whole_lines text ≡ line ∷ whole_lines others
lines_first text line others e =
    let part = has_part 10 others in
    let more : pieces_of others ≡ part.0 ∷ part.1 = part.2 in
    let P : List (List ℕ) → Type 0 = λ ps. take (length (line ∷ ps) - 1) (line ∷ ps) ≡ line ∷ take (length ps - 1) ps in
    ap (λ (ps : List (List ℕ)). take (length ps - 1) ps) e ∙ subst P (sym more) (init_first line part.0 part.1)

pub rest_first : (text line others : List ℕ) → pieces_of text ≡ line ∷ pieces_of others → remainder_of text ≡ remainder_of others
rest_first text line others e =
    let part = has_part 10 others in
    let more : pieces_of others ≡ part.0 ∷ part.1 = part.2 in
    let P : List (List ℕ) → Type 0 = λ ps. slice_get (line ∷ ps) (length (line ∷ ps) - 1) ≡ slice_get ps (length ps - 1) in
    ap (λ (o : Option (List ℕ)). unwrap_or o []) (ap (λ (ps : List (List ℕ)). slice_get ps (length ps - 1)) e ∙ subst P (sym more) (end_first line part.0 part.1))

pub lines_end : (text : List ℕ) → pieces_of text ≡ text ∷ [] → whole_lines text ≡ []
lines_end text e = ap (λ (ps : List (List ℕ)). take (length ps - 1) ps) e

pub rest_end : (text : List ℕ) → pieces_of text ≡ text ∷ [] → remainder_of text ≡ text
rest_end text e = ap (λ (ps : List (List ℕ)). unwrap_or (slice_get ps (length ps - 1)) []) e

-- ---- suffixes of lists

pub get_drop : {X : Type 0} (xs : List X) (k : ℕ) (x : X) (ys : List X) → drop k xs ≡ x ∷ ys → slice_get xs k ≡ Some x
get_drop [] zero x ys e = absurd cc
get_drop [] (suc k) x ys e = absurd cc
get_drop (z ∷ zs) zero x ys e = let same : z ≡ x = cc in ap Some same
get_drop (z ∷ zs) (suc k) x ys e = get_drop zs k x ys e

pub take_drop : {X : Type 0} (xs : List X) (k : ℕ) (x : X) (ys : List X) → drop k xs ≡ x ∷ ys → take (suc k) xs ≡ take k xs ++ x ∷ []
take_drop [] zero x ys e = absurd cc
take_drop [] (suc k) x ys e = absurd cc
take_drop (z ∷ zs) zero x ys e = let same : z ≡ x = cc in ap (λ y. y ∷ []) same
take_drop (z ∷ zs) (suc k) x ys e = ap (λ l. z ∷ l) (take_drop zs k x ys e)

pub drop_drop : {X : Type 0} (xs : List X) (k : ℕ) (x : X) (ys : List X) → drop k xs ≡ x ∷ ys → drop (suc k) xs ≡ ys
drop_drop [] zero x ys e = absurd cc
drop_drop [] (suc k) x ys e = absurd cc
drop_drop (z ∷ zs) zero x ys e = cc
drop_drop (z ∷ zs) (suc k) x ys e = drop_drop zs k x ys e

pub fold_push : {X A : Type 0} (f : A → X → A) (a : A) (xs : List X) (x : X) → fold f a (xs ++ x ∷ []) ≡ f (fold f a xs) x
fold_push f a [] x = refl
fold_push f a (y ∷ ys) x = fold_push f (f a y) ys x

pub get_end : {X : Type 0} (xs : List X) (k : ℕ) → length xs ≤ k → slice_get xs k ≡ None
get_end [] k le = refl
get_end (x ∷ xs) zero le = absurd (omega arith)
get_end (x ∷ xs) (suc k) le = get_end xs k (omega arith)

pub bytes_push : (ls : List (List ℕ)) (l : List ℕ) → bytes_of_lines (ls ++ l ∷ []) ≡ bytes_of_lines ls + length l + 1
bytes_push ls l =
    let last : bytes_of_lines ls + (length l + 1) ≡ bytes_of_lines ls + length l + 1 = omega arith in
    ap sum (map_push (λ (line : List ℕ). length line + 1) ls l) ∙ fold_push ◌+◌ 0 (map (λ (line : List ℕ). length line + 1) ls) (length l + 1) ∙ last

-- ---- the lines so far

pub before_line : (t : TypeNames) (d : TableDraft) (o : Option TableLine) → names_before_line (with_parsed_line t d o) ≡ names_after_line (names_before_line d) o
before_line t d None = refl
before_line t d (Some l) = before_added t d l

before_fold : (t : TypeNames) (d : TableDraft) (ls : List (List ℕ)) → names_before_line (fold (λ d line. with_parsed_line t d (line_of line)) d ls) ≡ fold (λ b line. names_after_line b (line_of line)) (names_before_line d) ls
before_fold t d [] = refl
before_fold t d (l ∷ ls) = before_fold t (with_parsed_line t d (line_of l)) ls ∙ ap (λ b. fold (λ b line. names_after_line b (line_of line)) b ls) (before_line t d (line_of l))

pub before_draft : (t : TypeNames) (ls : List (List ℕ)) → names_before_line (table_draft_of t ls) ≡ names_in_lines ls
before_draft t ls = before_fold t empty_draft ls

pub here_is : (ls : List (List ℕ)) (tail : List ℕ) (k : ℕ) (l : List ℕ) (more : List (List ℕ)) → drop k ls ≡ l ∷ more
    → fault_after_lines ls tail k ≡ line_fault (types_of ls) (names_in_lines (take k ls)) (bytes_of_lines (take k ls) + length l + 1)
    (line_of l)
here_is ls tail k l more e =
    let next : k + 1 ≡ suc k = omega arith in
    let bytes : bytes_of_lines (take (k + 1) ls) ≡ bytes_of_lines (take k ls) + length l + 1 =
    ap (λ (n : ℕ). bytes_of_lines (take n ls)) next ∙ ap bytes_of_lines (take_drop ls k l more e)
    ∙ bytes_push (take k ls) l in
    ap (λ (o : Option (List ℕ)). option_map_or
    (λ x. line_fault (types_of ls) (names_in_lines (take k ls)) (bytes_of_lines (take (k + 1) ls)) (line_of x)) o
    (cond (k == length ls) (end_fault (names_in_lines ls) tail) None)) (get_drop ls k l more e)
    ∙ ap (λ (n : ℕ). line_fault (types_of ls) (names_in_lines (take k ls)) n (line_of l)) bytes
