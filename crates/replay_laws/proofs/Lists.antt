-- Lists from which some elements are kept.
use Rattle.std.proofs.Common.{◌≡◌, ◌∙◌, Bool, true, false, cond, List, [], ◌∷◌, ◌++◌, length, refl, ap, arith, length-append}
use Rattle.std.specs.Prelude.{All, Option, Some, None, filter, IsSomeAnd}
use Rattle.std.specs.List.{filter_map}
use Rattle.std.proofs.lemmas.List.Elements.{All-nil, All-cons, All-head, All-tail}

pub push-not-nil : {A : Type 0} (xs : List A) (x : A) → xs ++ x ∷ [] ≡ [] → ⊥
push-not-nil xs x e = omega (arith, ap length e, length-append xs (x ∷ []))

pub at-middle : {A : Type 0} (P : A → Type 0) (front back : List A) (x : A) → All P (front ++ x ∷ back) → P x
at-middle P [] back x h = All-head P x back h
at-middle P (y ∷ front) back x h = at-middle P front back x (All-tail P y (front ++ x ∷ back) h)

pub all-front : {A : Type 0} (P : A → Type 0) (xs ys : List A) → All P (xs ++ ys) → All P xs
all-front P [] ys h = All-nil P
all-front P (x ∷ xs) ys h = All-cons P x xs (All-head P x (xs ++ ys) h) (all-front P xs ys (All-tail P x (xs ++ ys) h))

pub all-back : {A : Type 0} (P : A → Type 0) (xs ys : List A) → All P (xs ++ ys) → All P ys
all-back P [] ys h = h
all-back P (x ∷ xs) ys h = all-back P xs ys (All-tail P x (xs ++ ys) h)

pub both-to : {A : Type 0} (P Q R : A → Type 0) → ((x : A) → P x → Q x → R x) → (xs : List A) → All P xs → All Q xs
    → All R xs
both-to P Q R f [] p q = All-nil R
both-to P Q R f (x ∷ xs) p q =
    All-cons R x xs (f x (All-head P x xs p) (All-head Q x xs q))
    (both-to P Q R f xs (All-tail P x xs p) (All-tail Q x xs q))

pub none-kept : {A : Type 0} (p : A → Bool) (xs : List A) → All (λ x. p x ≡ false) xs → filter p xs ≡ []
none-kept p [] h = refl
none-kept p (x ∷ xs) h =
    ap (λ b. cond b (x ∷ filter p xs) (filter p xs)) (All-head (λ y. p y ≡ false) x xs h)
    ∙ none-kept p xs (All-tail (λ y. p y ≡ false) x xs h)

pub none-left : {A : Type 0} (p : A → Bool) (xs : List A) → filter p xs ≡ [] → All (λ x. p x ≡ false) xs
none-left p [] e = All-nil (λ x. p x ≡ false)
none-left {A} p (x ∷ xs) e =
    let given : (b : Bool) → p x ≡ b → cond b (x ∷ filter p xs) (filter p xs) ≡ [] → All (λ y. p y ≡ false) (x ∷ xs) =
    λ b. elim b as (λ b. p x ≡ b → cond b (x ∷ filter p xs) (filter p xs) ≡ []
    → All (λ y. p y ≡ false) (x ∷ xs)) [
      | true ↦ λ yes some. absurd (omega (arith, ap length some))
      | false ↦ λ no none. All-cons (λ y. p y ≡ false) x xs no (none-left p xs none)
    ] in
    given (p x) refl e

-- the first element that is kept, and those before it
pub record First {A : Type 0} (p : A → Bool) (xs : List A) (first : A) : Type 0 where
  pub front : List A
  pub back : List A
  pub order : xs ≡ front ++ first ∷ back
  pub gone : All (λ x. p x ≡ false) front

pub first-kept : {A : Type 0} (p : A → Bool) (xs others : List A) (first : A) → filter p xs ≡ first ∷ others
    → First p xs first
first-kept p [] others first e = absurd (omega (arith, ap length e))
first-kept {A} p (x ∷ xs) others first e =
    let given : (b : Bool) → p x ≡ b → cond b (x ∷ filter p xs) (filter p xs) ≡ first ∷ others
    → First p (x ∷ xs) first = λ b. elim b as (λ b. p x ≡ b
    → cond b (x ∷ filter p xs) (filter p xs) ≡ first ∷ others → First p (x ∷ xs) first) [
      | true ↦ λ yes some.
          let same : x ≡ first = cc in
          record { front = []; back = xs; order = ap (λ (y : A). y ∷ xs) same; gone = All-nil (λ y. p y ≡ false) }
      | false ↦ λ no rest.
          let found = first-kept p xs others first rest in
          record {
            front = x ∷ found.front;
            back = found.back;
            order = ap (λ (ys : List A). x ∷ ys) found.order;
            gone = All-cons (λ y. p y ≡ false) x found.front no found.gone;
          }
    ] in
    given (p x) refl e

pub last-kept : {A : Type 0} (b : Bool) (x : A) → cond b (x ∷ []) [] ≡ x ∷ [] → b ≡ true
last-kept true x e = refl
last-kept false x e = absurd (omega (arith, ap length e))

-- ---- the images of the elements

pub one-given : {A B : Type 0} (h : A → Option B) (x : A) (y : B) → h x ≡ Some y → filter_map h (x ∷ []) ≡ y ∷ []
one-given h x y e = rw e refl

pub none-given : {A B : Type 0} (h : A → Option B) (xs : List A) → All (λ x. h x ≡ None) xs → filter_map h xs ≡ []
none-given h [] all = refl
none-given h (x ∷ xs) all =
    let none : h x ≡ None = All-head (λ y. h y ≡ None) x xs all in
    let rest = none-given h xs (All-tail (λ y. h y ≡ None) x xs all) in
    rw none rest

pub some-and : {A : Type 0} (o : Option A) (P : A → Type 0) → IsSomeAnd o P → (a : A) × (o ≡ Some a) × P a
some-and None P h = absurd h
some-and (Some a) P h = (a, refl, h)
