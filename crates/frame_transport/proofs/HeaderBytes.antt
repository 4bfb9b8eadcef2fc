-- The bytes of a header, and the numbers that are read in them.
use Rattle.std.proofs.Common.{◌≡◌, ℕ, ◌+◌, ◌^◌, ◌<◌, ◌≤◌, List, [], ◌∷◌, ◌++◌, length, drop, take, slice_index}
use Rattle.std.proofs.Common.{get_or, inl, inr, refl, sym, ◌∙◌, arith, append_assoc}
use Rattle.std.proofs.lemmas.Nat.{be_bytes_2, be_bytes_4}
use Rattle.std.proofs.lemmas.Bool.{cases_lt}
use Rattle.std.proofs.lemmas.List.{get_or-take, get_or-drop, get_or_past, length-take, length-drop, take-append-drop, drop-drop, drop_more}
use Rattle.std.specs.Int.{w16, w32, from_be_bytes}
use Rattle.byteorder.specs.Endian.{big_bytes, big_number}
use Rattle.byteorder.specs.Numbers.{big_from-take, big_number-reads_back}
use Rattle.frame_transport.specs.Bytes.{header_bytes}
use Rattle.frame_transport.specs.Frames.{length_field}

pub length-header_bytes : (len kind version method conn number : ℕ) → length (header_bytes len kind version method conn number) ≡ 16
unfolding header_bytes
length-header_bytes len kind version method conn number = refl

-- the first number of a header is the length
pub length_in-header : (len kind version method conn number : ℕ) (more : List ℕ) → len < 2 ^ 32
    → length_field (header_bytes len kind version method conn number ++ more) ≡ len
unfolding header_bytes length_field
length_in-header len kind version method conn number more h =
    big_number-reads_back 4 len (drop 4 (header_bytes len kind version method conn number ++ more)) h

pub kind-header : (len kind version method conn number : ℕ) (more : List ℕ)
    → slice_index (header_bytes len kind version method conn number ++ more) 4 ≡ kind
unfolding header_bytes
kind-header len kind version method conn number more = refl

pub version-header : (len kind version method conn number : ℕ) (more : List ℕ)
    → slice_index (header_bytes len kind version method conn number ++ more) 5 ≡ version
unfolding header_bytes
version-header len kind version method conn number more = refl

pub method-header : (len kind version method conn number : ℕ) (more : List ℕ) → method < 2 ^ 16
    → big_number 2 (drop 6 (header_bytes len kind version method conn number ++ more)) ≡ method
unfolding header_bytes
method-header len kind version method conn number more h =
    big_number-reads_back 2 method (drop 8 (header_bytes len kind version method conn number ++ more)) h

pub conn-header : (len kind version method conn number : ℕ) (more : List ℕ) → conn < 2 ^ 32
    → big_number 4 (drop 8 (header_bytes len kind version method conn number ++ more)) ≡ conn
unfolding header_bytes
conn-header len kind version method conn number more h =
    big_number-reads_back 4 conn (drop 12 (header_bytes len kind version method conn number ++ more)) h

pub number-header : (len kind version method conn number : ℕ) (more : List ℕ) → number < 2 ^ 32
    → big_number 4 (drop 12 (header_bytes len kind version method conn number ++ more)) ≡ number
unfolding header_bytes
number-header len kind version method conn number more h =
    big_number-reads_back 4 number more h

pub drop-header : (len kind version method conn number : ℕ) (more : List ℕ)
    → drop 16 (header_bytes len kind version method conn number ++ more) ≡ more
unfolding header_bytes
drop-header len kind version method conn number more = refl

-- bytes are below 256
abbrev pub AreBytes : List ℕ → Type 0
AreBytes bs = (i : ℕ) → get_or bs i 0 < 256

pub AreBytes-take : (n : ℕ) (bs : List ℕ) → AreBytes bs → AreBytes (take n bs)
AreBytes-take n bs h i = elim (cases_lt i n) [
  | inl below ↦ let e : get_or (take n bs) i 0 ≡ get_or bs i 0 = get_or-take n bs i 0 below in omega (arith, e, h i)
  | inr above ↦ let e : get_or (take n bs) i 0 ≡ 0 = get_or_past (take n bs) i 0 (omega (arith, length-take {A = ℕ})) in omega (arith, e)
]

pub AreBytes-drop : (n : ℕ) (bs : List ℕ) → AreBytes bs → AreBytes (drop n bs)
AreBytes-drop n bs h i = let e : get_or (drop n bs) i 0 ≡ get_or bs (n + i) 0 = get_or-drop n bs i 0 in omega (arith, e, h (n + i))

-- the bytes of a number that was read from four bytes
pub read_four : (bs : List ℕ) → 4 ≤ length bs → AreBytes bs → big_bytes 4 (big_number 4 bs) ≡ take 4 bs
read_four bs h b =
    let same : big_number 4 bs ≡ from_be_bytes w32 (take 4 bs) = sym (big_from-take 0 4 4 bs (omega arith)) ∙ omega arith in
    be_bytes_4 (take 4 bs) (big_number 4 bs) (omega (arith, length-take {A = ℕ})) (AreBytes-take 4 bs b) same

-- the bytes of a number that was read from two bytes
pub read_two : (bs : List ℕ) → 2 ≤ length bs → AreBytes bs → big_bytes 2 (big_number 2 bs) ≡ take 2 bs
read_two bs h b =
    let same : big_number 2 bs ≡ from_be_bytes w16 (take 2 bs) = sym (big_from-take 0 2 2 bs (omega arith)) ∙ omega arith in
    be_bytes_2 (take 2 bs) (big_number 2 bs) (omega (arith, length-take {A = ℕ})) (AreBytes-take 2 bs b) same

-- a list, cut at a later index
piece : (k m n : ℕ) (bs : List ℕ) → n ≡ k + m → take m (drop k bs) ++ drop n bs ≡ drop k bs
piece k m n bs h = rw (h, ← drop-drop m k bs) (take-append-drop m (drop k bs))

-- five parts and a suffix, concatenated from the end
assembled : (a b c d e r s t u v w : List ℕ) → e ++ r ≡ s → d ++ s ≡ t → c ++ t ≡ u → b ++ u ≡ v → a ++ v ≡ w
    → (a ++ b ++ c ++ d ++ e) ++ r ≡ w
assembled a b c d e r s t u v w hs ht hu hv hw = simp (append_assoc, hs, ht, hu, hv, hw)

two_bytes : (bs : List ℕ) → 6 ≤ length bs → slice_index bs 4 ∷ slice_index bs 5 ∷ [] ≡ take 2 (drop 4 bs)
two_bytes bs h =
    let first : drop 4 bs ≡ get_or bs 4 0 ∷ drop 5 bs = drop_more bs 4 0 (omega arith) in
    let second : drop 5 bs ≡ get_or bs 5 0 ∷ drop 6 bs = drop_more bs 5 0 (omega arith) in
    rw (first, second) refl

-- 16 bytes are the header of the numbers that are read from them
pub read_header : (bs : List ℕ) → 16 ≤ length bs → AreBytes bs
    → header_bytes (length_field bs) (slice_index bs 4) (slice_index bs 5) (big_number 2 (drop 6 bs)) (big_number 4 (drop 8 bs)) (big_number 4 (drop 12 bs)) ++ drop 16 bs ≡ bs
unfolding header_bytes length_field
read_header bs h b =
    let len = read_four bs (omega arith) b in
    let fields = two_bytes bs (omega arith) in
    let method = read_two (drop 6 bs) (omega (arith, length-drop {A = ℕ})) (AreBytes-drop 6 bs b) in
    let conn = read_four (drop 8 bs) (omega (arith, length-drop {A = ℕ})) (AreBytes-drop 8 bs b) in
    let number = read_four (drop 12 bs) (omega (arith, length-drop {A = ℕ})) (AreBytes-drop 12 bs b) in
    (λ i. (len i ++ fields i ++ method i ++ conn i ++ number i) ++ drop 16 bs)
    ∙ assembled (take 4 bs) (take 2 (drop 4 bs)) (take 2 (drop 6 bs)) (take 4 (drop 8 bs)) (take 4 (drop 12 bs)) (drop 16 bs)
    (drop 12 bs) (drop 8 bs) (drop 6 bs) (drop 4 bs) bs
    (piece 12 4 16 bs refl) (piece 8 4 12 bs refl) (piece 6 2 8 bs refl) (piece 4 2 6 bs refl) (take-append-drop 4 bs)
