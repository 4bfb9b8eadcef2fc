-- One more plain byte.
use Rattle.std.proofs.Common.{◌≡◌, ◌++◌, [], ◌∷◌, ℕ, List, true, refl}
use Rattle.std.specs.List.{list_all}
use Rattle.std.proofs.lemmas.List.Folds.{list_all-append}
use Rattle.diagnostics.specs.Diagnostics.{is_plain}

pub plain_with : (bytes : List ℕ) (byte : ℕ) → list_all is_plain bytes ≡ true → is_plain byte ≡ true
    → list_all is_plain (bytes ++ byte ∷ []) ≡ true
plain_with bytes byte p q = rw (list_all-append is_plain bytes (byte ∷ []), p, q) refl
