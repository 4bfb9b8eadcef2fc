-- A number of a kind, as it is written and read back.
use Rattle.std.proofs.Common.{◌≡◌, ℕ, ◌+◌, ◌-◌, ◌*◌, ◌%◌, ◌^◌, ◌<◌, ◌≤◌, List, length, refl, ap, sym, ◌∙◌, arith, ⊎_elim}
use Rattle.std.specs.Int.{w32, w64, from_le_bytes, to_le_bytes}
use Rattle.std.proofs.lemmas.Bool.{cases_lt}
use Rattle.std.proofs.lemmas.Bool.Decides.{nat_tests}
use Rattle.std.proofs.lemmas.Nat.{from_le_bytes-to_le_bytes_4, from_le_bytes-to_le_bytes_8}
use Rattle.mrpc_table.specs.Words.{IsSigned32, IsWordForm}
use Rattle.mrpc_table.specs.declared.table.Kind.{Kind}
use Rattle.mrpc_table.specs.declared.table.Kind.TheVariants.{Int32, Int64, Uint32, Uint64, Sint32, Sint64}
use Rattle.mrpc_table.specs.declared.table.Kind.TheVariants.{Bool as TheBool, Fixed32, Fixed64, Sfixed32, Sfixed64}
use Rattle.mrpc_table.specs.declared.table.Kind.TheVariants.{Float, Double, Text, Octets, Message, Choice}
use Rattle.wire_base.specs.Encoding.{zigzag_of, number_bytes}
use Rattle.mrpc_table.specs.WireTypes.{wire_type_of}
use Rattle.wire_base.specs.Records.{IsPayloadAt}
use Rattle.wire_base.specs.declared.records.Payload.{Payload}
use Rattle.wire_base.specs.declared.records.Payload.TheVariants.{Varint, I64, I32}
use Rattle.wire_decode.specs.Words.{sign_extended, unzigzag_of, word_form_of, payload_number}
use Rattle.wire_decode.proofs.WireLaws.{ReadsBack}
use Rattle.wire_decode.proofs.WordForms.{extended-low, extended-high, unzigzag-even, unzigzag-odd}
use Rattle.wire_decode.proofs.Stands.{Stands, stands-within, stands-slice, stands-varint}

-- the payload of a number's record
abbrev pub payload_of : Kind → ℕ → Payload
payload_of Sint32 n = Varint (zigzag_of n)
payload_of Sint64 n = Varint (zigzag_of n)
payload_of Fixed64 n = I64 n
payload_of Sfixed64 n = I64 n
payload_of Double n = I64 n
payload_of Fixed32 n = I32 n
payload_of Sfixed32 n = I32 (n % 2 ^ 32)
payload_of Float n = I32 n
payload_of _ n = Varint n

zigzag-low : (n : ℕ) → n < 2 ^ 63 → zigzag_of n ≡ 2 * n
zigzag-low n h = grind (arith, nat_tests)

zigzag-high : (n : ℕ) → 2 ^ 63 ≤ n → zigzag_of n ≡ 2 * (2 ^ 64 - n) - 1
zigzag-high n h = grind (arith, nat_tests)

signed-below : (n : ℕ) → IsSigned32 n → n < 2 ^ 64
signed-below n h = ⊎_elim (λ low. omega (arith, low)) (λ high. let b = high.1 in omega (arith, b)) h

zigzag-below : (n : ℕ) → n < 2 ^ 64 → zigzag_of n < 2 ^ 64
zigzag-below n h =
    ⊎_elim
    (λ low. let e = zigzag-low n low in omega (arith, e, low))
    (λ high. let e = zigzag-high n high in omega (arith, e, high, h))
    (cases_lt n (2 ^ 63))

zigzag-below_32 : (n : ℕ) → IsSigned32 n → zigzag_of n < 2 ^ 32
zigzag-below_32 n h =
    ⊎_elim
    (λ low. let e = zigzag-low n (omega (arith, low)) in omega (arith, e, low))
    (λ high. let a = high.0 in let b = high.1 in let e = zigzag-high n (omega (arith, a)) in omega (arith, e, a, b))
    h

pub unzigzag-back : (n : ℕ) → n < 2 ^ 64 → unzigzag_of (zigzag_of n) ≡ n
unzigzag-back n h =
    ⊎_elim
    (λ low. let e = zigzag-low n low in let back = unzigzag-even (zigzag_of n) (omega (arith, e)) in omega (arith, e, back))
    (λ high. let e = zigzag-high n high in let back = unzigzag-odd (zigzag_of n) (omega (arith, e, high, h)) in omega (arith, e, back, high, h))
    (cases_lt n (2 ^ 63))

unzigzag-back_32 : (n : ℕ) → IsSigned32 n → unzigzag_of (zigzag_of n % 2 ^ 32) ≡ n
unzigzag-back_32 n h =
    let below = zigzag-below_32 n h in
    let same : zigzag_of n % 2 ^ 32 ≡ zigzag_of n = omega (arith, below) in
    ap unzigzag_of same ∙ unzigzag-back n (signed-below n h)

extended-back : (n : ℕ) → IsSigned32 n → sign_extended (n % 2 ^ 32) ≡ n
extended-back n h =
    ⊎_elim
    (λ low. let e = extended-low (n % 2 ^ 32) (omega (arith, low)) in omega (arith, e, low))
    (λ high. let a = high.0 in let b = high.1 in let e = extended-high (n % 2 ^ 32) (omega (arith, a, b)) in omega (arith, e, a, b))
    h

bool-back : (n : ℕ) → n < 2 → word_form_of TheBool n ≡ n
bool-back n h = grind (arith, nat_tests)

-- the word is read back
pub word-back : (k : Kind) (n : ℕ) → IsWordForm k n → word_form_of k (payload_number (payload_of k n)) ≡ n
word-back Int32 n h = extended-back n h
word-back (Choice i) n h = extended-back n h
word-back Sfixed32 n h = ap sign_extended (let e : n % 2 ^ 32 % 2 ^ 32 ≡ n % 2 ^ 32 = omega arith in e) ∙ extended-back n h
word-back Sint32 n h = unzigzag-back_32 n h
word-back Sint64 n h = unzigzag-back n h
word-back Uint32 n h = omega (arith, h)
word-back TheBool n h = bool-back n h
word-back Int64 n h = refl
word-back Uint64 n h = refl
word-back Fixed64 n h = refl
word-back Sfixed64 n h = refl
word-back Double n h = refl
word-back Fixed32 n h = refl
word-back Float n h = refl
word-back Text n h = absurd h
word-back Octets n h = absurd h
word-back (Message i) n h = absurd h

eight-stands : (bytes : List ℕ) (at n : ℕ) → n < 2 ^ 64 → Stands bytes at (to_le_bytes w64 n) → IsPayloadAt bytes at 1 (I64 n) (at + length (to_le_bytes w64 n))
eight-stands bytes at n small h =
    let end = at + length (to_le_bytes w64 n) in (
      refl,
      omega arith,
      stands-within bytes at (to_le_bytes w64 n) h,
      sym (ap (from_le_bytes w64) (stands-slice bytes at (to_le_bytes w64 n) end refl h)
          ∙ from_le_bytes-to_le_bytes_8 n small),
    )

four-stands : (bytes : List ℕ) (at n : ℕ) → n < 2 ^ 32 → Stands bytes at (to_le_bytes w32 n) → IsPayloadAt bytes at 5 (I32 n) (at + length (to_le_bytes w32 n))
four-stands bytes at n small h =
    let end = at + length (to_le_bytes w32 n) in (
      refl,
      omega arith,
      stands-within bytes at (to_le_bytes w32 n) h,
      sym (ap (from_le_bytes w32) (stands-slice bytes at (to_le_bytes w32 n) end refl h)
          ∙ from_le_bytes-to_le_bytes_4 n small),
    )

pub number-stands : ReadsBack → (bytes : List ℕ) (at : ℕ) (k : Kind) (n : ℕ) → IsWordForm k n
    → Stands bytes at (number_bytes k n)
    → IsPayloadAt bytes at (wire_type_of k) (payload_of k n) (at + length (number_bytes k n))
number-stands back_read bytes at Int32 n h s = (refl, stands-varint back_read bytes at n (signed-below n h) s)
number-stands back_read bytes at (Choice i) n h s = (refl, stands-varint back_read bytes at n (signed-below n h) s)
number-stands back_read bytes at Int64 n h s = (refl, stands-varint back_read bytes at n h s)
number-stands back_read bytes at Uint32 n h s = (refl, stands-varint back_read bytes at n (omega (arith, h)) s)
number-stands back_read bytes at Uint64 n h s = (refl, stands-varint back_read bytes at n h s)
number-stands back_read bytes at TheBool n h s = (refl, stands-varint back_read bytes at n (omega (arith, h)) s)
number-stands back_read bytes at Sint32 n h s = (refl, stands-varint back_read bytes at (zigzag_of n) (zigzag-below n (signed-below n h)) s)
number-stands back_read bytes at Sint64 n h s = (refl, stands-varint back_read bytes at (zigzag_of n) (zigzag-below n h) s)
number-stands back_read bytes at Fixed64 n h s = eight-stands bytes at n h s
number-stands back_read bytes at Sfixed64 n h s = eight-stands bytes at n h s
number-stands back_read bytes at Double n h s = eight-stands bytes at n h s
number-stands back_read bytes at Fixed32 n h s = four-stands bytes at n h s
number-stands back_read bytes at Sfixed32 n h s = four-stands bytes at (n % 2 ^ 32) (omega arith) s
number-stands back_read bytes at Float n h s = four-stands bytes at n h s
number-stands back_read bytes at Text n h s = absurd h
number-stands back_read bytes at Octets n h s = absurd h
number-stands back_read bytes at (Message i) n h s = absurd h
