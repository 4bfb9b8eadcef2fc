-- Lists that programs determine, after one more line.
use Rattle.std.proofs.Common.{◌≡◌, ℕ, zero, suc, ◌+◌, ◌*◌, ◌<◌, ◌≤◌, List, [], ◌∷◌, ◌++◌, refl, ap, sym, ◌∙◌, length}
use Rattle.std.proofs.Common.{take, get_or, arith, length-append, append_assoc, append-nil, zero-add, add-zero}
use Rattle.std.proofs.Common.{add-one, flat_map}
use Rattle.std.proofs.lemmas.List.{take_more}
use Rattle.std.proofs.lemmas.List.Concat.{flat_map-cons}
use Rattle.std.proofs.lemmas.Grind.{flat_map-append}
use Rattle.app_program.specs.declared.program.ProgramLine.{ProgramLine}
use Rattle.app_program.specs.declared.program.ProgramLine.TheVariants.{Store, Spin, Submit, Reclaim, Reply}
use Rattle.app_program.specs.Programs.{Submission, repeated_stores, line_stores, program_stores, line_submits, program_submits, line_reclaims, program_reclaims}

-- ---- spins

spun-snoc : (n : ℕ) (a b : ℕ × ℕ) → repeated_stores n a b ++ a ∷ b ∷ [] ≡ repeated_stores (suc n) a b
spun-snoc zero a b = refl
spun-snoc (suc n) a b = ap (λ xs. a ∷ b ∷ xs) (spun-snoc n a b)

pub spun_more : (stores : List (ℕ × ℕ)) (n : ℕ) (a b : ℕ × ℕ)
    → ((stores ++ repeated_stores n a b) ++ a ∷ []) ++ b ∷ [] ≡ stores ++ repeated_stores (n + 1) a b
spun_more stores n a b =
    append_assoc (stores ++ repeated_stores n a b) (a ∷ []) (b ∷ []) ∙ append_assoc stores (repeated_stores n a b) (a ∷ b ∷ [])
    ∙ ap (λ xs. stores ++ xs) (spun-snoc n a b) ∙ ap (λ k. stores ++ repeated_stores k a b) (sym (add-one n))

pub length-spun : (n : ℕ) (a b : ℕ × ℕ) → length (repeated_stores n a b) ≡ 2 * n
length-spun zero a b = refl
length-spun (suc n) a b = omega (arith, length-spun n a b)

-- ---- one more line

more_of : {X A : Type 0} (f : X → List A) (xs : List X) (i : ℕ) (d : X) → i < length xs
    → flat_map f (take (i + 1) xs) ≡ flat_map f (take i xs) ++ f (get_or xs i d)
more_of f xs i d below =
    ap (flat_map f) (take_more xs i d below) ∙ flat_map-append f (take i xs) (get_or xs i d ∷ [])
    ∙ ap (λ ys. flat_map f (take i xs) ++ ys) (flat_map-cons f (get_or xs i d) [] ∙ append-nil (f (get_or xs i d)))

pub stores_more : (lines : List ProgramLine) (i : ℕ) (d : ProgramLine) → i < length lines
    → program_stores (take (i + 1) lines) ≡ program_stores (take i lines) ++ line_stores (get_or lines i d)
stores_more lines i d below = more_of line_stores lines i d below

pub reclaims_more : (lines : List ProgramLine) (i : ℕ) (d : ProgramLine) → i < length lines
    → program_reclaims (take (i + 1) lines) ≡ program_reclaims (take i lines) ++ line_reclaims (get_or lines i d)
reclaims_more lines i d below = more_of line_reclaims lines i d below

submits_of-snoc : (made : ℕ) (lines : List ProgramLine) (line : ProgramLine)
    → program_submits made (lines ++ line ∷ []) ≡ program_submits made lines ++ line_submits (made + length (program_stores lines)) line
submits_of-snoc made [] line =
    append-nil (line_submits made line) ∙ ap (λ n. line_submits n line) (sym (add-zero made))
submits_of-snoc made (x ∷ lines) line =
    let next = made + length (line_stores x) in
    let counted : next + length (program_stores lines) ≡ made + length (program_stores (x ∷ lines)) =
    omega (arith, length-append (line_stores x) (program_stores lines), ap length (flat_map-cons line_stores x lines)) in
    ap (λ xs. line_submits made x ++ xs) (submits_of-snoc next lines line)
    ∙ sym (append_assoc (line_submits made x) (program_submits next lines) (line_submits (next + length (program_stores lines)) line))
    ∙ ap (λ n. (line_submits made x ++ program_submits next lines) ++ line_submits n line) counted

submits_more : (made : ℕ) (lines : List ProgramLine) (i : ℕ) (d : ProgramLine) → i < length lines
    → program_submits made (take (i + 1) lines)
    ≡ program_submits made (take i lines) ++ line_submits (made + length (program_stores (take i lines))) (get_or lines i d)
submits_more made lines i d below =
    ap (program_submits made) (take_more lines i d below) ∙ submits_of-snoc made (take i lines) (get_or lines i d)

-- what a client submitted, after one more line
pub submits_further : (lines : List ProgramLine) (i : ℕ) (d : ProgramLine) (stores : List (ℕ × ℕ)) (old new : List Submission)
    → i < length lines → stores ≡ program_stores (take i lines) → old ≡ program_submits 0 (take i lines)
    → new ≡ old ++ line_submits (length stores) (get_or lines i d) → new ≡ program_submits 0 (take (i + 1) lines)
submits_further lines i d stores old new below stored submitted more =
    let line = get_or lines i d in
    more ∙ ap (λ xs. xs ++ line_submits (length stores) line) submitted
    ∙ ap (λ n. program_submits 0 (take i lines) ++ line_submits n line)
    (ap length stored ∙ sym (zero-add (length (program_stores (take i lines)))))
    ∙ sym (submits_more 0 lines i d below)

-- ---- how many

line_submits_few : (made : ℕ) (line : ProgramLine) → length (line_submits made line) ≤ 1
line_submits_few made (Store place value) = omega arith
line_submits_few made (Spin times place first second) = omega arith
line_submits_few made (Submit method addr) = omega arith
line_submits_few made (Reclaim block) = omega arith
line_submits_few made (Reply addr) = omega arith

line_reclaims_few : (line : ProgramLine) → length (line_reclaims line) ≤ 1
line_reclaims_few (Store place value) = omega arith
line_reclaims_few (Spin times place first second) = omega arith
line_reclaims_few (Submit method addr) = omega arith
line_reclaims_few (Reclaim block) = omega arith
line_reclaims_few (Reply addr) = omega arith

pub submits_few : (made : ℕ) (lines : List ProgramLine) → length (program_submits made lines) ≤ length lines
submits_few made [] = omega arith
submits_few made (line ∷ lines) =
    let next = made + length (line_stores line) in
    omega (arith, length-append (line_submits made line) (program_submits next lines), line_submits_few made line, submits_few next lines)

pub reclaims_few : (lines : List ProgramLine) → length (program_reclaims lines) ≤ length lines
reclaims_few [] = omega arith
reclaims_few (line ∷ lines) =
    omega (arith, ap length (flat_map-cons line_reclaims line lines), length-append (line_reclaims line) (program_reclaims lines), line_reclaims_few line, reclaims_few lines)
