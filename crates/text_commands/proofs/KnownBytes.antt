-- The output bytes over two writes, if they are known.
use Rattle.std.proofs.Common.{ℕ, List, [], ◌++◌, Option, Some, None, sym, ap, ◌∙◌, append_assoc, append-nil}
use Rattle.std.specs.Io.KnownBytes.{Appends}

pub appends-nothing : (old : Option (List ℕ)) → Appends old old []
appends-nothing None = tt
appends-nothing (Some xs) = sym (append-nil xs)

pub appends-more : (old mid new : Option (List ℕ)) (xs ys : List ℕ) → Appends old mid xs → Appends mid new ys → Appends old new (xs ++ ys)
appends-more None mid new xs ys a b = tt
appends-more (Some os) None new xs ys a b = absurd a
appends-more (Some os) (Some ms) None xs ys a b = b
appends-more (Some os) (Some ms) (Some ns) xs ys a b = b ∙ ap (λ l. l ++ ys) a ∙ append_assoc os xs ys
