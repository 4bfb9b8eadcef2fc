-- Texts that are appended in order.
use Rattle.std.proofs.Common.{◌≡◌, List, ℕ, ◌++◌, ap, ◌∙◌, append_assoc}

-- a text with a property was appended
pub record Appended (P : List ℕ → Type 0) (old new : List ℕ) : Type 0 where
  pub text : List ℕ
  pub holds : P text
  pub behind : new ≡ old ++ text

-- two texts
pub two : (old mid new a b : List ℕ) → mid ≡ old ++ a → new ≡ mid ++ b → new ≡ old ++ (a ++ b)
two old mid new a b first second = second ∙ ap (λ (bs : List ℕ). bs ++ b) first ∙ append_assoc old a b

-- three texts
pub three : (old one mid new a b c : List ℕ) → one ≡ old ++ a → mid ≡ one ++ b → new ≡ mid ++ c → new ≡ old ++ (a ++ (b ++ c))
three old one mid new a b c first second third = two old one new a (b ++ c) first (two one mid new b c second third)
