-- The contents of valid words: numbers of their kinds, and runs of bytes.
use Rattle.std.proofs.Common.{◌≡◌, ◌⊎◌, inl, inr, ⊎_elim, ℕ, zero, suc, ◌+◌, ◌-◌, ◌<◌, ◌≤◌, ◌^◌, Bool, true, false}
use Rattle.std.proofs.Common.{nat_le, cond, List, [], ◌∷◌, ◌++◌, length, take, get_or, All, refl, sym, ap, subst, ◌∙◌}
use Rattle.std.proofs.Common.{arith, length-append}
use Rattle.std.specs.Str.{IsUtf8, is_utf8}
use Rattle.std.proofs.lemmas.Bool.{cases_lt}
use Rattle.std.proofs.lemmas.Bool.Decides.{nat_tests}
use Rattle.std.proofs.lemmas.List.{append_assoc, take-append-le, length-take-le}
use Rattle.std.proofs.Math.Seq.{take-append-add}
use Rattle.std.proofs.lemmas.List.Elements.{All-nil, All-append, All-take, All-from_get_or}
use Rattle.std.proofs.lemmas.Str.{IsUtf8-nil, IsUtf8-from_is_utf8, is_utf8-from_IsUtf8}
use Rattle.mrpc_table.specs.Words.{IsSigned32, IsWordForm}
use Rattle.mrpc_table.specs.declared.table.Kind.{Kind}
use Rattle.mrpc_table.specs.declared.table.Kind.TheVariants.{Int32, Uint32, Sint32, Bool as TheBool, Fixed32, Sfixed32, Float, Text, Octets, Message, Choice}
use Rattle.mrpc_table.specs.declared.table.Table.{Table}
use Rattle.graph_form.specs.declared.reason.Reason.TheVariants.{Narrow, Utf8}
use Rattle.graph_form.specs.Roles.{value, run_word, run_address, Expected, word_bytes}
use Rattle.graph_form.specs.Placed.{Placed, nothing, first, word, IsValidWord, AreSound}
use Rattle.graph_form.specs.Forgotten.{bytes_of_run, run_at}

-- ---- numbers

below : (a b : ℕ) → ((a < b → ⊥) → ⊥) → a < b
below a b h = ⊎_elim (λ less. less) (λ no. absurd (h (λ less. omega (arith, less, no)))) (cases_lt a b)

at-most : (a b : ℕ) → (a ≤ b) ⊎ (b < a)
at-most a b = ⊎_elim (λ less. inr less) (λ no. inl no) (cases_lt b a)

signed : (v : ℕ) → v < 2 ^ 64 → ((IsSigned32 v → ⊥) → ⊥) → IsSigned32 v
signed v small h =
    ⊎_elim
    (λ low. inl low)
    (λ high. inr (
      ⊎_elim (λ enough. enough)
          (λ less. absurd (h
          (λ s. ⊎_elim (λ low. omega (arith, low, high)) (λ top. (let t = top.0 in omega (arith, t, less))) s)))
          (at-most (2 ^ 64) (v + 2 ^ 31)),
      small,
    ))
    (cases_lt v (2 ^ 31))

utf8-stands : (bytes : List ℕ) → ((IsUtf8 bytes → ⊥) → ⊥) → IsUtf8 bytes
utf8-stands bytes h =
    elim (is_utf8 bytes) as (λ b. is_utf8 bytes ≡ b → IsUtf8 bytes) [
      | true ↦ λ e. IsUtf8-from_is_utf8 bytes e
      | false ↦ λ e. absurd (h (λ good. (let bad : true ≡ false = sym (is_utf8-from_IsUtf8 bytes good) ∙ e in cc)))
    ] refl

pub number-form : (T : Table) (H : ℕ) (k : Kind) (v : ℕ) → v < 2 ^ 64 → IsValidWord T H (value k) v → IsWordForm k v
number-form T H Text v small fine = fine Narrow (λ h. h)
number-form T H Octets v small fine = fine Narrow (λ h. h)
number-form T H (Message i) v small fine = fine Narrow (λ h. h)
number-form T H Int32 v small fine = signed v small (fine Narrow)
number-form T H Sint32 v small fine = signed v small (fine Narrow)
number-form T H Sfixed32 v small fine = signed v small (fine Narrow)
number-form T H (Choice i) v small fine = signed v small (fine Narrow)
number-form T H Uint32 v small fine = below v (2 ^ 32) (fine Narrow)
number-form T H Fixed32 v small fine = below v (2 ^ 32) (fine Narrow)
number-form T H Float v small fine = below v (2 ^ 32) (fine Narrow)
number-form T H TheBool v small fine = below v 2 (fine Narrow)
number-form T H k v small fine = small

-- ---- runs

-- the valid words of a run, from one of them
pub record IsRunFrom (k : Kind) (left : ℕ) (before : List ℕ) (P : Placed) : Type 0 where
  pub long : left ≤ length (bytes_of_run P)
  pub bytes : All (λ b. b < 256) (bytes_of_run P)
  pub text : k ≡ Text → IsUtf8 (before ++ take left (bytes_of_run P))

abbrev IsByte : ℕ → Type 0
IsByte b = b < 256

byte-at : (v i : ℕ) → i < 8 → get_or (word_bytes v) i 0 < 256
byte-at v zero h = omega arith
byte-at v (suc zero) h = omega arith
byte-at v (suc (suc zero)) h = omega arith
byte-at v (suc (suc (suc zero))) h = omega arith
byte-at v (suc (suc (suc (suc zero)))) h = omega arith
byte-at v (suc (suc (suc (suc (suc zero))))) h = omega arith
byte-at v (suc (suc (suc (suc (suc (suc zero)))))) h = omega arith
byte-at v (suc (suc (suc (suc (suc (suc (suc zero))))))) h = omega arith
byte-at v (suc (suc (suc (suc (suc (suc (suc (suc i)))))))) h = absurd (omega (arith, h))

word-bytes : (v : ℕ) → All IsByte (word_bytes v)
word-bytes v = All-from_get_or IsByte (word_bytes v) 0 (byte-at v)

-- the next word of a run after one with this number, if enough bytes remain for one
abbrev NextOfRun : Kind → ℕ → List ℕ → ℕ → ℕ → Bool → Expected
NextOfRun k left before q v b = cond b [] ((run_word k (left - 8) (before ++ word_bytes v), q + 1) ∷ [])

abbrev OneWord : ℕ → ℕ → Placed → Placed
OneWord q v c = first (word q v c) nothing

last-word : (T : Table) (H : ℕ) (k : Kind) (left : ℕ) (before : List ℕ) (q v : ℕ) → left ≤ 8
    → IsValidWord T H (run_word k left before) v → IsRunFrom k left before (OneWord q v nothing)
last-word T H k left before q v few fine = record {
  long = few;
  bytes = All-append IsByte (word_bytes v) [] (word-bytes v) (All-nil IsByte);
  text = λ e. (let fine_text : IsValidWord T H (run_word Text left before) v = subst (λ z. IsValidWord T H (run_word z left before) v) e fine in
      let same : take left (word_bytes v ++ []) ≡ take left (word_bytes v) = take-append-le left (word_bytes v) [] few in
      subst (λ z. IsUtf8 (before ++ z)) (sym same) (utf8-stands (before ++ take left (word_bytes v)) (λ no. fine_text Utf8 (few, no))));
}

more-words : (k : Kind) (left : ℕ) (before : List ℕ) (q v : ℕ) (P : Placed) → 8 < left
    → IsRunFrom k (left - 8) (before ++ word_bytes v) P → IsRunFrom k left before (OneWord q v P)
more-words k left before q v P more rest =
    let far : left ≡ length (word_bytes v) + (left - 8) = omega (arith, more) in
    record {
      long = let a = rest.long in let b = length-append (word_bytes v) (bytes_of_run P) in omega (arith, a, b, far);
      bytes = All-append IsByte (word_bytes v) (bytes_of_run P) (word-bytes v) rest.bytes;
      text = λ e. subst IsUtf8 (append_assoc before (word_bytes v) (take (left - 8) (bytes_of_run P))
          ∙ ap (λ z. before ++ z) (sym (take-append-add (word_bytes v) (bytes_of_run P) (left - 8)))
          ∙ ap (λ z. before ++ take z (word_bytes v ++ bytes_of_run P)) (sym far)) (rest.text e);
    }

run-go : (T : Table) (H : ℕ) (k : Kind) (left : ℕ) (before : List ℕ) (q v : ℕ) (P : Placed) (b : Bool)
    → nat_le left 8 ≡ b → IsValidWord T H (run_word k left before) v → AreSound T H (NextOfRun k left before q v b) P
    → (AreSound T H ((run_word k (left - 8) (before ++ word_bytes v), q + 1) ∷ []) P
    → IsRunFrom k (left - 8) (before ++ word_bytes v) P) → IsRunFrom k left before (OneWord q v P)
run-go T H k left before q v nothing true e fine h next = last-word T H k left before q v (grind (arith, nat_tests)) fine
run-go T H k left before q v (first w P) true e fine h next = absurd h
run-go T H k left before q v P false e fine h next = more-words k left before q v P (grind (arith, nat_tests)) (next h)

-- the words of a run, with `left` bytes remaining after those before
pub run-from : (T : Table) (H : ℕ) (k : Kind) (left : ℕ) (before : List ℕ) (q : ℕ) (P : Placed) → AreSound T H ((run_word k left before, q) ∷ []) P → IsRunFrom k left before P
run-from T H k left before q nothing h = absurd h
run-from T H k left before q (first (word p v c) (first w P)) h = absurd h.4
run-from T H k left before q (first (word p v c) nothing) h =
    run-go T H k left before p v c (nat_le left 8) refl h.2 h.3 (λ sound. run-from T H k (left - 8) (before ++ word_bytes v) (p + 1) c sound)

-- the run at an address word: `count` bytes, and UTF-8 if it is a string
pub record IsRunAt (k : Kind) (count : ℕ) (P : Placed) : Type 0 where
  pub long : length (run_at count P) ≡ count
  pub bytes : All (λ b. b < 256) (run_at count P)
  pub text : k ≡ Text → IsUtf8 (run_at count P)

pub run-at : (T : Table) (H : ℕ) (k : Kind) (bytes q : ℕ) (es : Expected) (P : Placed) → AreSound T H ((run_address k bytes, q) ∷ es) P → IsRunAt k bytes P
run-at T H k bytes q es nothing h = absurd h
run-at T H k bytes q es (first (word p v c) P) h =
    let r = run-from T H k bytes [] v c h.3 in
    record {
      long = length-take-le bytes (bytes_of_run c) r.long;
      bytes = All-take IsByte bytes (bytes_of_run c) r.bytes;
      text = r.text;
    }

pub no-run : (k : Kind) → IsRunAt k 0 nothing
no-run k = record { long = refl; bytes = All-nil IsByte; text = λ e. IsUtf8-nil }
