-- Lists whose elements have distinct keys, when one element changes.
use Rattle.std.proofs.Common.{◌≡◌, ◌≢◌, ℕ, ◌<◌, zero, suc, List, [], ◌∷◌, ◌++◌, length, map, set, get_or, take, drop}
use Rattle.std.proofs.Common.{insert, remove, slice_get, Contains, Some, refl, ap, sym, ◌∙◌, subst, arith}
use Rattle.std.specs.Prelude.{All}
use Rattle.std.specs.List.{AllZip}
use Rattle.std.proofs.lemmas.List.Elements.{All-nil, All-cons, All-head, All-tail, All-append, All-take, All-drop}
use Rattle.mrpc_table.specs.Valid.{AreDistinct}

-- ---- elements

pub all-of-map : {X Y : Type 0} (f : X → Y) (P : Y → Type 0) (xs : List X) → All P (map f xs) → All (λ x. P (f x)) xs
all-of-map f P [] h = All-nil (λ x. P (f x))
all-of-map f P (x ∷ xs) h =
    All-cons (λ x. P (f x)) x xs (All-head P (f x) (map f xs) h) (all-of-map f P xs (All-tail P (f x) (map f xs) h))

pub all-front : {X : Type 0} (P : X → Type 0) (xs ys : List X) → All P (xs ++ ys) → All P xs
all-front P [] ys h = All-nil P
all-front P (x ∷ xs) ys h = All-cons P x xs (All-head P x (xs ++ ys) h) (all-front P xs ys (All-tail P x (xs ++ ys) h))

pub all-back : {X : Type 0} (P : X → Type 0) (xs ys : List X) → All P (xs ++ ys) → All P ys
all-back P [] ys h = h
all-back P (x ∷ xs) ys h = all-back P xs ys (All-tail P x (xs ++ ys) h)

pub all-both : {X : Type 0} (P Q R : X → Type 0) → ((x : X) → P x → Q x → R x) → (xs : List X) → All P xs → All Q xs
    → All R xs
all-both P Q R both [] p q = All-nil R
all-both P Q R both (x ∷ xs) p q =
    All-cons R x xs (both x (All-head P x xs p) (All-head Q x xs q))
    (all-both P Q R both xs (All-tail P x xs p) (All-tail Q x xs q))

pub all-remove : {X : Type 0} (P : X → Type 0) (xs : List X) (i : ℕ) → All P xs → All P (remove xs i)
all-remove P xs i h = All-append P (take i xs) (drop (suc i) xs) (All-take P i xs h) (All-drop P (suc i) xs h)

pub all-insert : {X : Type 0} (P : X → Type 0) (xs : List X) (i : ℕ) (x : X) → All P xs → P x → All P (insert xs i x)
all-insert P xs i x h here =
    All-append P (take i xs) (x ∷ drop i xs) (All-take P i xs h) (All-cons P x (drop i xs) here (All-drop P i xs h))

pub all-at : {X : Type 0} (P : X → Type 0) (xs : List X) (i : ℕ) (x : X) → slice_get xs i ≡ Some x → All P xs → P x
all-at P [] i x is h = absurd cc
all-at P (y ∷ xs) zero x is h = let same : y ≡ x = cc in subst P same (All-head P y xs h)
all-at P (y ∷ xs) (suc i) x is h = all-at P xs i x is (All-tail P y xs h)

pub within-at : {X : Type 0} (xs : List X) (i : ℕ) (x : X) → slice_get xs i ≡ Some x → i < length xs
within-at [] i x is = absurd cc
within-at (y ∷ xs) zero x is = omega arith
within-at (y ∷ xs) (suc i) x is = omega (arith, within-at xs i x is)

pub at-get : {X : Type 0} (xs : List X) (i : ℕ) (d : X) → i < length xs → slice_get xs i ≡ Some (get_or xs i d)
at-get [] i d within = absurd (omega arith)
at-get (y ∷ xs) zero d within = refl
at-get (y ∷ xs) (suc i) d within = at-get xs i d (omega arith)

pub map-at : {X Y : Type 0} (f : X → Y) (xs : List X) (i : ℕ) (x : X) → slice_get xs i ≡ Some x
    → slice_get (map f xs) i ≡ Some (f x)
map-at f [] i x is = absurd cc
map-at f (y ∷ xs) zero x is = let same : y ≡ x = cc in ap (λ z. Some (f z)) same
map-at f (y ∷ xs) (suc i) x is = map-at f xs i x is

-- ---- an element that is replaced, among others with other keys

contains-at : {X Y : Type 0} (f : X → Y) (xs : List X) (i : ℕ) (x : X) → slice_get xs i ≡ Some x
    → Contains (map f xs) (f x)
contains-at f [] i x is = absurd cc
contains-at f (y ∷ xs) zero x is = let same : y ≡ x = cc in (0, omega arith, ap f same)
contains-at f (y ∷ xs) (suc i) x is = let rest = contains-at f xs i x is in (suc rest.0, omega (arith, rest.1), rest.2)

all-apart : {X Y : Type 0} (f : X → Y) (P Q : X → Type 0) (x : X) → ((y : X) → f y ≢ f x → P y → Q y) → (xs : List X)
    → (Contains (map f xs) (f x) → ⊥) → All P xs → All Q xs
all-apart f P Q x other [] none h = All-nil Q
all-apart f P Q x other (y ∷ xs) none h =
    All-cons Q y xs (other y (λ same. none (0, omega arith, same)) (All-head P y xs h))
    (all-apart f P Q x other xs (λ there. none (suc there.0, omega (arith, there.1), there.2)) (All-tail P y xs h))

pub all-set : {X Y : Type 0} (f : X → Y) (P Q : X → Type 0) (xs : List X) (i : ℕ) (x x' : X) → slice_get xs i ≡ Some x
    → AreDistinct (map f xs)
    → ((y : X) → f y ≢ f x → P y → Q y) → Q x' → All P xs → All Q (set xs i x')
all-set f P Q [] i x x' is distinct other here h = absurd cc
all-set f P Q (y ∷ xs) zero x x' is distinct other here h =
    let same : y ≡ x = cc in
    All-cons Q x' xs here (all-apart f P Q x other xs (λ there.
    distinct.0 (subst (λ z. Contains (map f xs) (f z)) (sym same) there)) (All-tail P y xs h))
all-set f P Q (y ∷ xs) (suc i) x x' is distinct other here h =
    All-cons Q y (set xs i x')
    (other y (λ same. distinct.0 (subst (Contains (map f xs)) (sym same) (contains-at f xs i x is)))
    (All-head P y xs h))
    (all-set f P Q xs i x x' is distinct.1 other here (All-tail P y xs h))

pub all-others : {X Y : Type 0} (f : X → Y) (P Q : X → Type 0) (xs : List X) (key : Y) → (Contains (map f xs) key → ⊥)
    → ((y : X) → f y ≢ key → P y → Q y) → All P xs → All Q xs
all-others f P Q [] key none other h = All-nil Q
all-others f P Q (y ∷ xs) key none other h =
    All-cons Q y xs (other y (λ same. none (0, omega arith, same)) (All-head P y xs h))
    (all-others f P Q xs key (λ there. none (suc there.0, omega (arith, there.1), there.2)) other (All-tail P y xs h))

pub map-set-same : {X Y : Type 0} (f : X → Y) (xs : List X) (i : ℕ) (x x' : X) → slice_get xs i ≡ Some x → f x' ≡ f x
    → map f (set xs i x') ≡ map f xs
map-set-same f [] i x x' is same = refl
map-set-same f (y ∷ xs) zero x x' is same = let here : y ≡ x = cc in ap (λ z. z ∷ map f xs) (same ∙ sym (ap f here))
map-set-same f (y ∷ xs) (suc i) x x' is same = ap (λ zs. f y ∷ zs) (map-set-same f xs i x x' is same)

pub map-map : {X Y Z : Type 0} (f : X → Y) (g : Y → Z) (xs : List X) → map g (map f xs) ≡ map (λ x. g (f x)) xs
map-map f g [] = refl
map-map f g (x ∷ xs) = ap (λ zs. g (f x) ∷ zs) (map-map f g xs)

-- ---- pairs

pub zip-weaker : {A B : Type 0} (R S : A → B → Type 0) → ((a : A) (b : B) → R a b → S a b) → (xs : List A) (ys : List B)
    → AllZip R xs ys → AllZip S xs ys
zip-weaker R S weak [] [] h = tt
zip-weaker R S weak [] (y ∷ ys) h = h
zip-weaker R S weak (x ∷ xs) [] h = h
zip-weaker R S weak (x ∷ xs) (y ∷ ys) h = (weak x y h.0, zip-weaker R S weak xs ys h.1)

pub zip-at : {A B : Type 0} (R : A → B → Type 0) (xs : List A) (ys : List B) (i : ℕ) (y : B) (d : A) → AllZip R xs ys
    → slice_get ys i ≡ Some y → R (get_or xs i d) y
zip-at R [] [] i y d h is = absurd cc
zip-at R [] (z ∷ ys) i y d h is = absurd h
zip-at R (x ∷ xs) [] i y d h is = absurd h
zip-at R (x ∷ xs) (z ∷ ys) zero y d h is = let same : z ≡ y = cc in subst (R x) same h.0
zip-at R (x ∷ xs) (z ∷ ys) (suc i) y d h is = zip-at R xs ys i y d h.1 is

pub zip-insert : {A B : Type 0} (R : A → B → Type 0) (xs : List A) (ys : List B) (i : ℕ) (x : A) (y : B)
    → AllZip R xs ys → R x y → AllZip R (insert xs i x) (insert ys i y)
zip-insert R [] [] zero x y h here = (here, tt)
zip-insert R [] [] (suc i) x y h here = (here, tt)
zip-insert R [] (z ∷ ys) i x y h here = absurd h
zip-insert R (w ∷ xs) [] i x y h here = absurd h
zip-insert R (w ∷ xs) (z ∷ ys) zero x y h here = (here, h)
zip-insert R (w ∷ xs) (z ∷ ys) (suc i) x y h here = (h.0, zip-insert R xs ys i x y h.1 here)

pub zip-remove : {A B : Type 0} (R : A → B → Type 0) (xs : List A) (ys : List B) (i : ℕ) → AllZip R xs ys
    → AllZip R (remove xs i) (remove ys i)
zip-remove R [] [] zero h = tt
zip-remove R [] [] (suc i) h = tt
zip-remove R [] (z ∷ ys) i h = absurd h
zip-remove R (w ∷ xs) [] i h = absurd h
zip-remove R (w ∷ xs) (z ∷ ys) zero h = h.1
zip-remove R (w ∷ xs) (z ∷ ys) (suc i) h = (h.0, zip-remove R xs ys i h.1)

pub zip-set : {A B : Type 0} (R : A → B → Type 0) (xs : List A) (ys : List B) (i : ℕ) (x : A) (y : B) → AllZip R xs ys
    → R x y → AllZip R (set xs i x) (set ys i y)
zip-set R [] [] i x y h here = tt
zip-set R [] (z ∷ ys) i x y h here = absurd h
zip-set R (w ∷ xs) [] i x y h here = absurd h
zip-set R (w ∷ xs) (z ∷ ys) zero x y h here = (here, h.1)
zip-set R (w ∷ xs) (z ∷ ys) (suc i) x y h here = (h.0, zip-set R xs ys i x y h.1 here)

pub zip-length : {A B : Type 0} (R : A → B → Type 0) (xs : List A) (ys : List B) → AllZip R xs ys
    → length xs ≡ length ys
zip-length R [] [] h = refl
zip-length R [] (y ∷ ys) h = absurd h
zip-length R (x ∷ xs) [] h = absurd h
zip-length R (x ∷ xs) (y ∷ ys) h = ap suc (zip-length R xs ys h.1)
