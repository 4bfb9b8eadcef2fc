-- Known bytes, over two steps.
use Rattle.std.proofs.Common.{◌≡◌, ℕ, ◌+◌, ◌≤◌, List, [], ◌∷◌, ◌++◌, length, take, Option, Some, None, sym, ap, ◌∙◌}
use Rattle.std.proofs.Common.{subst, append_assoc, append-nil, length-append, zero-add, suc-add, arith}
use Rattle.std.specs.Io.KnownBytes.{Appends}
use Rattle.replay_run.specs.Kept.{IsPrefixWritten}

pub appends-nothing : (old : Option (List ℕ)) → Appends old old []
appends-nothing None = tt
appends-nothing (Some xs) = sym (append-nil xs)

pub appends-more : (old mid new : Option (List ℕ)) (xs ys : List ℕ) → Appends old mid xs → Appends mid new ys → Appends old new (xs ++ ys)
appends-more None mid new xs ys a b = tt
appends-more (Some os) None new xs ys a b = absurd a
appends-more (Some os) (Some ms) None xs ys a b = b
appends-more (Some os) (Some ms) (Some ns) xs ys a b = b ∙ ap (λ l. l ++ ys) a ∙ append_assoc os xs ys

pub take-behind : (xs ys : List ℕ) (m : ℕ) → take (length xs + m) (xs ++ ys) ≡ xs ++ take m ys
take-behind [] ys m = ap (λ n. take n ys) (zero-add m)
take-behind (x ∷ xs) ys m = ap (λ n. take n (x ∷ (xs ++ ys))) (suc-add (length xs) m) ∙ ap (λ l. x ∷ l) (take-behind xs ys m)

-- some text, and then a prefix of some more
pub record TellsBehind (old new : Option (List ℕ)) (xs ys : List ℕ) : Type 0 where
  pub many : ℕ
  pub least : length xs ≤ many
  pub most : many ≤ length (xs ++ ys)
  pub told : Appends old new (take many (xs ++ ys))

pub tells-behind : (old mid new : Option (List ℕ)) (xs ys : List ℕ) → Appends old mid xs → IsPrefixWritten mid new ys → TellsBehind old new xs ys
tells-behind old mid new xs ys a some = record {
  many = length xs + some.0;
  least = omega arith;
  most = let few : some.0 ≤ length ys = some.1 in omega (arith, length-append xs ys, few);
  told = subst (Appends old new) (sym (take-behind xs ys some.0)) (appends-more old mid new xs (take some.0 ys) a some.2);
}

pub tells-none : (old new : Option (List ℕ)) (xs ys : List ℕ) → Appends old new xs → TellsBehind old new xs ys
tells-none old new xs ys a = record {
  many = length xs + 0;
  least = omega arith;
  most = omega (arith, length-append xs ys);
  told = subst (Appends old new) (sym (take-behind xs ys 0 ∙ append-nil xs)) a;
}
