-- Known bytes over two writes, and the remainder of a list.
use Rattle.std.proofs.Common.{◌≡◌, ℕ, List, ◌++◌, Option, Some, None, ap, ◌∙◌, sym, append_assoc, ◌-◌, length, take, drop, length-drop}
use Rattle.std.proofs.Math.Seq.{take-length}
use Rattle.std.specs.Io.KnownBytes.{Appends}

pub appends-more : (old mid new : Option (List ℕ)) (xs ys : List ℕ) → Appends old mid xs → Appends mid new ys → Appends old new (xs ++ ys)
appends-more None mid new xs ys a b = tt
appends-more (Some os) None new xs ys a b = absurd a
appends-more (Some os) (Some ms) None xs ys a b = b
appends-more (Some os) (Some ms) (Some ns) xs ys a b = b ∙ ap (λ l. l ++ ys) a ∙ append_assoc os xs ys

-- the remainder of a list, cut at its own length
pub rest-whole : (bytes : List ℕ) (done : ℕ) → take (length bytes - done) (drop done bytes) ≡ drop done bytes
rest-whole bytes done = ap (λ n. take n (drop done bytes)) (sym (length-drop done bytes)) ∙ take-length (drop done bytes)
