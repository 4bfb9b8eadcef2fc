-- Lists of keys that are equal key by key.
use Rattle.std.proofs.Common.{◌≡◌, List, ◌∷◌, ◌∙◌, ap}
use Rattle.scenario_toml.specs.Values.{TheTableKey}

pub more : (a b : TheTableKey) (xs ys : List TheTableKey) → a ≡ b → xs ≡ ys → a ∷ xs ≡ b ∷ ys
more a b xs ys key rest = ap (λ x. x ∷ xs) key ∙ ap (λ zs. b ∷ zs) rest
