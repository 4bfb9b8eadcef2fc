-- Two lists, index by index.
use Rattle.std.proofs.Common.{◌≡◌, ◌<◌, suc, List, [], ◌∷◌, ◌++◌, length, get_or, map, refl, ap, arith}
use Rattle.std.specs.List.{AllZip}

module _ {X Y : Type 0} (R : X → Y → Type 0) where
  pub zip-push : (xs : List X) (ys : List Y) (x : X) (y : Y) → AllZip R xs ys → R x y
      → AllZip R (xs ++ x ∷ []) (ys ++ y ∷ [])
  zip-push [] [] x y zip here = (here, tt)
  zip-push [] (b ∷ ys) x y zip here = absurd zip
  zip-push (a ∷ xs) [] x y zip here = absurd zip
  zip-push (a ∷ xs) (b ∷ ys) x y zip here = (zip.0, zip-push xs ys x y zip.1 here)

  pub zip-length : (xs : List X) (ys : List Y) → AllZip R xs ys → length xs ≡ length ys
  zip-length [] [] zip = refl
  zip-length [] (b ∷ ys) zip = absurd zip
  zip-length (a ∷ xs) [] zip = absurd zip
  zip-length (a ∷ xs) (b ∷ ys) zip = ap suc (zip-length xs ys zip.1)

  -- two more at once
  pub zip-two : (xs : List X) (ys : List Y) (a b : X) (c d : Y) → AllZip R xs ys → R a c → R b d
      → AllZip R (xs ++ a ∷ b ∷ []) (ys ++ c ∷ d ∷ [])
  zip-two [] [] a b c d zip one other = (one, (other, tt))
  zip-two [] (y ∷ ys) a b c d zip one other = absurd zip
  zip-two (x ∷ xs) [] a b c d zip one other = absurd zip
  zip-two (x ∷ xs) (y ∷ ys) a b c d zip one other = (zip.0, zip-two xs ys a b c d zip.1 one other)

  -- the item at the index after a prefix
  pub zip-within : (front rest : List X) (x : X) (ys : List Y) → AllZip R (front ++ x ∷ rest) ys
      → length front < length ys
  zip-within [] rest x [] zip = absurd zip
  zip-within [] rest x (y ∷ ys) zip = omega arith
  zip-within (a ∷ front) rest x [] zip = absurd zip
  zip-within (a ∷ front) rest x (b ∷ ys) zip = let more = zip-within front rest x ys zip.1 in omega (arith, more)

  pub zip-at : (front rest : List X) (x : X) (ys : List Y) (d : Y) → AllZip R (front ++ x ∷ rest) ys
      → R x (get_or ys (length front) d)
  zip-at [] rest x [] d zip = absurd zip
  zip-at [] rest x (y ∷ ys) d zip = zip.0
  zip-at (a ∷ front) rest x [] d zip = absurd zip
  zip-at (a ∷ front) rest x (b ∷ ys) d zip = zip-at front rest x ys d zip.1

-- the next of a list that is zipped with a longer one
pub record Next {X Y : Type 0} (R : X → Y → Type 0) (xs : List X) (y : Y) (ys : List Y) : Type 0 where
  pub x : X
  pub later : List X
  pub are : xs ≡ x ∷ later
  pub here : R x y
  pub zip : AllZip R later ys

pub next-of : {X Y : Type 0} (R : X → Y → Type 0) (xs : List X) (y : Y) (ys : List Y) → AllZip R xs (y ∷ ys)
    → Next R xs y ys
next-of R [] y ys zip = absurd zip
next-of R (x ∷ xs) y ys zip = record { x = x; later = xs; are = refl; here = zip.0; zip = zip.1 }

pub none-left : {X Y : Type 0} (R : X → Y → Type 0) (xs : List X) → AllZip R xs [] → xs ≡ []
none-left R [] zip = refl
none-left R (x ∷ xs) zip = absurd zip

-- a relation of the images of the first items
pub zip-map : {W X Y : Type 0} (f : W → X) (R : X → Y → Type 0) (ws : List W) (ys : List Y)
    → AllZip R (map f ws) ys → AllZip (λ w y. R (f w) y) ws ys
zip-map f R [] [] zip = tt
zip-map f R [] (y ∷ ys) zip = absurd zip
zip-map f R (w ∷ ws) [] zip = absurd zip
zip-map f R (w ∷ ws) (y ∷ ys) zip = (zip.0, zip-map f R ws ys zip.1)

pub map-zip : {W X Y : Type 0} (f : W → X) (R : X → Y → Type 0) (ws : List W) (ys : List Y)
    → AllZip (λ w y. R (f w) y) ws ys → AllZip R (map f ws) ys
map-zip f R [] [] zip = tt
map-zip f R [] (y ∷ ys) zip = absurd zip
map-zip f R (w ∷ ws) [] zip = absurd zip
map-zip f R (w ∷ ws) (y ∷ ys) zip = (zip.0, map-zip f R ws ys zip.1)

pub zip-of : {X Y : Type 0} (P Q : X → Y → Type 0) → ((x : X) (y : Y) → P x y → Q x y) → (xs : List X) (ys : List Y)
    → AllZip P xs ys → AllZip Q xs ys
zip-of P Q each [] [] zip = tt
zip-of P Q each [] (y ∷ ys) zip = absurd zip
zip-of P Q each (x ∷ xs) [] zip = absurd zip
zip-of P Q each (x ∷ xs) (y ∷ ys) zip = (each x y zip.0, zip-of P Q each xs ys zip.1)
