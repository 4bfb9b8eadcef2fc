-- Hexadecimal digits in lower case, two per byte.
use Rattle.std.proofs.Common.{◌≡◌, ℕ, zero, suc, ◌<◌, ◌≤◌, List, [], ◌∷◌, ◌++◌, drop, length}
use Rattle.std.proofs.Common.{take, refl, ap, sym, ◌∙◌, arith, codes, false, true, Ok, Option, Some, None}
use Rattle.std.specs.Prelude.{MatchOption}
use Rattle.std.specs.Str.{bytes_eq}
use Rattle.hex.specs.Hex.{IsBytes, decode_of, encode_lower, encode_with, lower_digits}
use Rattle.hex.proofs.HexLemmas.{decode_of-encode_lower, length-encode_with}
use Rattle.audit_text.specs.Hexadecimal.{with_digits}
use Rattle.audit_text.specs.Lines.{hex_word}

others-same : (a b : ℕ) (xs ys : List ℕ) → with_digits a xs ≡ with_digits b ys → xs ≡ ys
others-same a b xs ys e = cc

pub one-more : (a : List ℕ) (b : ℕ) (rest : List ℕ) → encode_lower a ++ with_digits b rest ≡ encode_lower (a ++ b ∷ []) ++ rest
unfolding encode_with
one-more [] b rest = refl
one-more (x ∷ a) b rest = ap (λ (l : List ℕ). with_digits x l) (one-more a b rest)

-- the remainder after the digits of some bytes is the digits of the other bytes
pub behind-digits : (a left bytes : List ℕ) → encode_lower a ++ left ≡ encode_lower bytes → left ≡ encode_lower (drop (length a) bytes)
unfolding encode_with
behind-digits [] left bytes e = e
behind-digits (x ∷ a) left [] e = absurd cc
behind-digits (x ∷ a) left (b ∷ bytes) e = behind-digits a left bytes (others-same x b (encode_lower a ++ left) (encode_lower bytes) e)

pub bytes-behind : (n : ℕ) (bytes : List ℕ) → IsBytes bytes → IsBytes (drop n bytes)
bytes-behind zero bytes are = are
bytes-behind (suc n) [] are = are
bytes-behind (suc n) (b ∷ bytes) are = bytes-behind n bytes (λ i. are (suc i))

-- if the digits of no byte are a prefix, nothing remains
pub no-digits : (left bytes : List ℕ) → IsBytes bytes → ((byte : ℕ) (rest : List ℕ) → byte < 256 → left ≡ with_digits byte rest → ⊥)
    → left ≡ encode_lower bytes → left ≡ []
unfolding encode_with
no-digits left [] are none e = e
no-digits left (b ∷ bytes) are none e = absurd (none b (encode_lower bytes) (are 0) e)

pub no-bytes : IsBytes []
no-bytes zero = omega arith
no-bytes (suc i) = omega arith

pub bytes-more : (a : List ℕ) (b : ℕ) → IsBytes a → b < 256 → IsBytes (a ++ b ∷ [])
bytes-more [] b are less zero = less
bytes-more [] b are less (suc i) = no-bytes i
bytes-more (x ∷ a) b are less zero = are 0
bytes-more (x ∷ a) b are less (suc i) = bytes-more a b (λ k. are (suc k)) less i

-- digits determine their bytes
pub digits-tell : (a b : List ℕ) → IsBytes a → IsBytes b → hex_word a ≡ hex_word b → a ≡ b
digits-tell [] [] are be e = refl
digits-tell [] (y ∷ b) are be e = absurd (omega (arith, ap length e, length-encode_with lower_digits (y ∷ b)))
digits-tell (x ∷ a) [] are be e = absurd (omega (arith, ap length e, length-encode_with lower_digits (x ∷ a)))
digits-tell (x ∷ a) (y ∷ b) are be e =
    let both : Ok (x ∷ a) ≡ Ok (y ∷ b) = sym (decode_of-encode_lower (x ∷ a) are) ∙ ap decode_of e ∙ decode_of-encode_lower (y ∷ b) be in cc

-- a word that has digits of bytes
pub some-digits : (word bytes : List ℕ) → (word ≡ [] → ⊥) → word ≡ encode_lower bytes → word ≡ hex_word bytes
unfolding encode_with
some-digits word [] some e = absurd (some e)
some-digits word (b ∷ bytes) some e = e

pub spells-none : (word bytes : List ℕ) → bytes_eq word (codes "-") ≡ false → (word ≡ encode_lower bytes → ⊥) → word ≡ hex_word bytes → ⊥
spells-none word [] other none e = let wrong : true ≡ false = sym (ap (λ w. bytes_eq w (codes "-")) e) ∙ other in absurd cc
spells-none word (b ∷ bytes) other none e = none e

pub none-empty : (bytes : List ℕ) → [] ≡ hex_word bytes → ⊥
unfolding encode_with
none-empty [] e = absurd cc
none-empty (b ∷ bytes) e = absurd cc

-- if a word has digits and isn't `-`, the bytes of its digits are those that it spells
pub spelled-by-digits : (word row : List ℕ) (r : Option ℕ) → bytes_eq word (codes "-") ≡ false → (word ≡ [] → ⊥)
    → MatchOption r ((bytes : List ℕ) → IsBytes bytes → word ≡ encode_lower bytes → ⊥) (λ n. (n ≤ length row) × IsBytes (take n row) × (word ≡ encode_lower (take n row)))
    → MatchOption r ((bytes : List ℕ) → IsBytes bytes → word ≡ hex_word bytes → ⊥) (λ n. (n ≤ length row) × IsBytes (take n row) × (word ≡ hex_word (take n row)))
spelled-by-digits word row (Some n) other some h = (h.0, h.1, some-digits word (take n row) some h.2)
spelled-by-digits word row None other some none = λ bytes are is. spells-none word bytes other (none bytes are) is
