-- Lists that are changed at one index, and the stack of open messages, whose top is the end of the list.
use Rattle.std.proofs.Common.{◌≡◌, ℕ, zero, suc, ◌-◌, ◌<◌, ◌≤◌, List, [], ◌∷◌, ◌++◌, length, length-append, take, get_or, set, refl, ap, ◌∙◌, arith}
use Rattle.std.specs.Prelude.{slice_get}
use Rattle.proto_schema.specs.Files.{edit_at, innermost_of}
use Rattle.proto_schema.specs.StatementReading.{without_first, stack}

-- an element is changed
pub edit_set : {X : Type 0} (i : ℕ) (f : X → X) (xs : List X) (d : X) → i < length xs
    → edit_at i f xs ≡ set xs i (f (get_or xs i d))
edit_set i f [] d h = absurd (omega arith)
edit_set zero f (y ∷ xs) d h = refl
edit_set (suc i) f (y ∷ xs) d h = ap (λ zs. y ∷ zs) (edit_set i f xs d (omega arith))

-- nothing is changed past the end
pub edit_beyond : {X : Type 0} (i : ℕ) (f : X → X) (xs : List X) → length xs ≤ i → edit_at i f xs ≡ xs
edit_beyond i f [] h = refl
edit_beyond zero f (y ∷ xs) h = absurd (omega arith)
edit_beyond (suc i) f (y ∷ xs) h = ap (λ zs. y ∷ zs) (edit_beyond i f xs (omega arith))

pub stack_push : (xs : List ℕ) (x : ℕ) → stack (xs ++ x ∷ []) ≡ x ∷ stack xs
stack_push [] x = refl
stack_push (y ∷ ys) x = ap (λ zs. zs ++ y ∷ []) (stack_push ys x)

pub stack_length : (xs : List ℕ) → length (stack xs) ≡ length xs
stack_length [] = refl
stack_length (x ∷ xs) = simp length-append (omega (arith, stack_length xs))

first_front : (xs : List ℕ) (y x : ℕ) → innermost_of ((xs ++ y ∷ []) ++ x ∷ []) ≡ innermost_of (xs ++ y ∷ [])
first_front [] y x = refl
first_front (z ∷ zs) y x = refl

pub stack_top : (xs : List ℕ) → innermost_of (stack xs) ≡ slice_get xs (length xs - 1)
stack_top [] = refl
stack_top (x ∷ []) = refl
stack_top (x ∷ y ∷ ys) =
    let e : length (y ∷ ys) - 1 ≡ length ys = omega arith in
    let d : suc (length ys) ≡ length (x ∷ y ∷ ys) - 1 = omega arith in
    first_front (stack ys) y x ∙ (stack_top (y ∷ ys) ∙ (ap (λ k. slice_get (y ∷ ys) k) e ∙ ap (λ k. slice_get (x ∷ y ∷ ys) k) d))

rest_front : (xs : List ℕ) (y x : ℕ) → without_first ((xs ++ y ∷ []) ++ x ∷ []) ≡ without_first (xs ++ y ∷ []) ++ x ∷ []
rest_front [] y x = refl
rest_front (z ∷ zs) y x = refl

pub stack_pop : (xs : List ℕ) → without_first (stack xs) ≡ stack (take (length xs - 1) xs)
stack_pop [] = refl
stack_pop (x ∷ []) = refl
stack_pop (x ∷ y ∷ ys) =
    let e : length (y ∷ ys) - 1 ≡ length ys = omega arith in
    let d : suc (length ys) ≡ length (x ∷ y ∷ ys) - 1 = omega arith in
    rest_front (stack ys) y x
    ∙ (ap (λ zs. zs ++ x ∷ []) (stack_pop (y ∷ ys))
    ∙ (ap (λ k. stack (take k (y ∷ ys)) ++ x ∷ []) e ∙ ap (λ k. stack (take k (x ∷ y ∷ ys))) d))

pub ruleset draft_lemmas = (stack_push, stack_length, stack_top, stack_pop)
