-- A number that is read is a word form of its kind.
use Rattle.std.proofs.Common.{◌≡◌, ℕ, ◌+◌, ◌-◌, ◌/◌, ◌%◌, ◌^◌, ◌<◌, ◌≤◌, List, length, get_or, All, true, refl, arith, inl, inr, ⊎_elim}
use Rattle.std.specs.List.{slice_range}
use Rattle.std.specs.Int.{w32, w64, from_le_bytes}
use Rattle.std.proofs.lemmas.Bool.{cases_lt}
use Rattle.std.proofs.lemmas.Bool.Decides.{nat_tests, eqb_tells}
use Rattle.std.proofs.lemmas.List.{get_or_past}
use Rattle.std.proofs.lemmas.List.Elements.{All-get_or, All-take, All-drop}
use Rattle.mrpc_table.specs.Words.{is_numeric, IsSigned32, IsWordForm}
use Rattle.mrpc_table.specs.declared.table.Kind.{Kind}
use Rattle.mrpc_table.specs.declared.table.Kind.TheVariants.{Int32, Int64, Uint32, Uint64, Sint32, Sint64}
use Rattle.mrpc_table.specs.declared.table.Kind.TheVariants.{Bool as TheBool, Fixed32, Fixed64, Sfixed32, Sfixed64}
use Rattle.mrpc_table.specs.declared.table.Kind.TheVariants.{Float, Double, Text, Octets, Message, Choice}
use Rattle.mrpc_table.specs.WireTypes.{wire_type_of}
use Rattle.wire_base.specs.Records.{IsPayloadAt}
use Rattle.wire_base.specs.declared.records.Payload.{Payload}
use Rattle.wire_base.specs.declared.records.Payload.TheVariants.{Varint, I64, I32, Len}
use Rattle.wire_decode.specs.Words.{sign_extended, unzigzag_of, word_form_of, payload_number, payload_type}

pub extended-low : (n : ℕ) → n < 2 ^ 31 → sign_extended n ≡ n
extended-low n h = grind (arith, nat_tests)

pub extended-high : (n : ℕ) → 2 ^ 31 ≤ n → sign_extended n ≡ n + (2 ^ 64 - 2 ^ 32)
extended-high n h = grind (arith, nat_tests)

pub unzigzag-even : (n : ℕ) → n % 2 ≡ 0 → unzigzag_of n ≡ n / 2
unzigzag-even n h = grind (arith, nat_tests)

pub unzigzag-odd : (n : ℕ) → n % 2 ≡ 1 → unzigzag_of n ≡ 2 ^ 64 - 1 - n / 2
unzigzag-odd n h = grind (arith, nat_tests)

signed-extended : (n : ℕ) → n < 2 ^ 32 → IsSigned32 (sign_extended n)
signed-extended n h =
    ⊎_elim
    (λ low. let e = extended-low n low in inl (omega (arith, e, low)))
    (λ high. let e = extended-high n high in inr (omega (arith, e, high), omega (arith, e, h)))
    (cases_lt n (2 ^ 31))

unzigzag-cases : (n : ℕ) (P : ℕ → Type 0) → (unzigzag_of n ≡ n / 2 → P (unzigzag_of n)) → (unzigzag_of n ≡ 2 ^ 64 - 1 - n / 2 → P (unzigzag_of n)) → P (unzigzag_of n)
unzigzag-cases n P even odd =
    ⊎_elim
    (λ s. even (unzigzag-even n s.1))
    (λ s. odd (unzigzag-odd n (let d = s.1 in omega (arith, d))))
    (eqb_tells (n % 2) 0)

signed-unzigzag : (n : ℕ) → n < 2 ^ 32 → IsSigned32 (unzigzag_of n)
signed-unzigzag n h = unzigzag-cases n IsSigned32 (λ e. inl (omega (arith, e, h))) (λ e. inr (omega (arith, e, h), omega (arith, e, h)))

small-unzigzag : (n : ℕ) → n < 2 ^ 64 → unzigzag_of n < 2 ^ 64
small-unzigzag n h = unzigzag-cases n (λ m. m < 2 ^ 64) (λ e. omega (arith, e, h)) (λ e. omega (arith, e, h))

small-bool : (v : ℕ) → word_form_of TheBool v < 2
small-bool v = grind (arith, nat_tests)

-- the word of a number that a payload can have
pub word-form : (k : Kind) (v : ℕ) → is_numeric k ≡ true → v < 2 ^ 64 → (wire_type_of k ≡ 5 → v < 2 ^ 32) → IsWordForm k (word_form_of k v)
word-form Int32 v h b s = signed-extended (v % 2 ^ 32) (omega arith)
word-form (Choice i) v h b s = signed-extended (v % 2 ^ 32) (omega arith)
word-form Sfixed32 v h b s = signed-extended (v % 2 ^ 32) (omega arith)
word-form Sint32 v h b s = signed-unzigzag (v % 2 ^ 32) (omega arith)
word-form Sint64 v h b s = small-unzigzag v b
word-form Uint32 v h b s = omega arith
word-form TheBool v h b s = small-bool v
word-form Int64 v h b s = b
word-form Uint64 v h b s = b
word-form Fixed64 v h b s = b
word-form Sfixed64 v h b s = b
word-form Double v h b s = b
word-form Fixed32 v h b s = s refl
word-form Float v h b s = s refl
word-form Text v h b s = absurd (cc)
word-form Octets v h b s = absurd (cc)
word-form (Message i) v h b s = absurd (cc)

-- the numbers of payloads are bounded
pub record IsSmall (p : Payload) : Type 0 where
  pub word : payload_number p < 2 ^ 64
  pub short : payload_type p ≡ 5 → payload_number p < 2 ^ 32

abbrev pub AreBytes : List ℕ → Type 0
AreBytes bytes = All (λ b. b < 256) bytes

pub bytes-slice : (bytes : List ℕ) (s e : ℕ) → AreBytes bytes → AreBytes (slice_range bytes s e)
bytes-slice bytes s e h = All-take (λ b. b < 256) (e - s) _ (All-drop (λ b. b < 256) s bytes h)

byte-below : (bytes : List ℕ) → AreBytes bytes → (i : ℕ) → get_or bytes i 0 < 256
byte-below bytes h i =
    ⊎_elim
    (λ within. All-get_or (λ b. b < 256) bytes i 0 within h)
    (λ past. let e = get_or_past bytes i 0 past in omega (arith, e))
    (cases_lt i (length bytes))

eight-below : (bytes : List ℕ) → AreBytes bytes → from_le_bytes w64 bytes < 2 ^ 64
eight-below bytes h =
    let b = byte-below bytes h in
    let b0 = b 0 in
    let b1 = b 1 in
    let b2 = b 2 in
    let b3 = b 3 in
    let b4 = b 4 in
    let b5 = b 5 in
    let b6 = b 6 in
    let b7 = b 7 in
    omega (arith, b0, b1, b2, b3, b4, b5, b6, b7)

four-below : (bytes : List ℕ) → AreBytes bytes → from_le_bytes w32 bytes < 2 ^ 32
four-below bytes h =
    let b = byte-below bytes h in
    let b0 = b 0 in
    let b1 = b 1 in
    let b2 = b 2 in
    let b3 = b 3 in
    omega (arith, b0, b1, b2, b3)

pub payload-small : (bytes : List ℕ) (at w : ℕ) (p : Payload) (next : ℕ) → AreBytes bytes → IsPayloadAt bytes at w p next → IsSmall p
payload-small bytes at w (Varint v) next small here = record {
  word = let e = here.1.spelled.value in omega (arith, e);
  short = λ e. absurd (omega (arith, e));
}
payload-small bytes at w (I64 v) next small here = record {
  word = let e = here.3 in omega (arith, e, eight-below (slice_range bytes at next) (bytes-slice bytes at next small));
  short = λ e. absurd (omega (arith, e));
}
payload-small bytes at w (I32 v) next small here =
    let below : v < 2 ^ 32 = (let e = here.3 in omega (arith, e, four-below (slice_range bytes at next) (bytes-slice bytes at next small))) in
    record {
      word = omega (arith, below);
      short = λ e. below;
    }
payload-small bytes at w (Len s e) next small here = record {
  word = omega arith;
  short = λ e. absurd (omega (arith, e));
}

-- a payload is of the wire type that it was read for
pub payload-typed : (bytes : List ℕ) (at w : ℕ) (p : Payload) (next : ℕ) → IsPayloadAt bytes at w p next → payload_type p ≡ w
payload-typed bytes at w (Varint v) next here = let e = here.0 in omega (arith, e)
payload-typed bytes at w (I64 v) next here = let e = here.0 in omega (arith, e)
payload-typed bytes at w (I32 v) next here = let e = here.0 in omega (arith, e)
payload-typed bytes at w (Len s e) next here = let d = here.0 in omega (arith, d)
