-- The bytes up to a closing quote, byte by byte.
use Rattle.std.proofs.Common.{◌≡◌, ◌≢◌, ℕ, ◌+◌, ◌<◌, ◌≤◌, ◌==◌, true, false, ◌||◌, List, [], ◌∷◌, length, get_or, drop, refl, arith, ◌∙◌, ap}
use Rattle.std.specs.Prelude.{Option, Some, None, option_map}
use Rattle.std.proofs.lemmas.List.{drop_more, drop_all}
use Rattle.std.proofs.lemmas.Bool.{eq-eqb, ne_eqb}
use Rattle.proto_lexer.specs.Scanning.{quoted_len, is_escape}

shifted : (o : Option ℕ) (i k : ℕ) → option_map (λ n. n + i) (option_map (λ n. n + k) o) ≡ option_map (λ n. n + (i + k)) o
shifted None i k = refl
shifted (Some n) i k = let e : n + k + i ≡ n + (i + k) = omega arith in ap Some e

-- ---- at the start

pub front_quote : (quote c : ℕ) (cs : List ℕ) → c ≡ quote → quoted_len quote (c ∷ cs) ≡ Some 1
unfolding quoted_len
front_quote quote c [] e = let t : (c == quote) ≡ true = eq-eqb _ _ e in rw t refl
front_quote quote c (d ∷ cs) e = let t : (c == quote) ≡ true = eq-eqb _ _ e in rw t refl

pub front_last : (quote c : ℕ) → c ≢ quote → quoted_len quote (c ∷ []) ≡ None
unfolding quoted_len
front_last quote c n = let t : (c == quote) ≡ false = ne_eqb _ _ n in rw t refl

pub front_escape : (quote c d : ℕ) (cs : List ℕ) → c ≢ quote → c ≡ 92 → is_escape d cs ≡ true → quoted_len quote (c ∷ d ∷ cs) ≡ option_map (λ n. n + 2) (quoted_len quote cs)
unfolding quoted_len
front_escape quote c d cs n b e =
    let t : (c == quote) ≡ false = ne_eqb _ _ n in
    let s : (c == 92) ≡ true = eq-eqb _ _ b in
    rw (t, s, e) refl

pub front_no_escape : (quote c d : ℕ) (cs : List ℕ) → c ≢ quote → c ≡ 92 → is_escape d cs ≡ false → quoted_len quote (c ∷ d ∷ cs) ≡ None
unfolding quoted_len
front_no_escape quote c d cs n b e =
    let t : (c == quote) ≡ false = ne_eqb _ _ n in
    let s : (c == 92) ≡ true = eq-eqb _ _ b in
    rw (t, s, e) refl

pub front_break : (quote c : ℕ) (cs : List ℕ) → c ≢ quote → c ≢ 92 → (c == 10 || c == 0) ≡ true → quoted_len quote (c ∷ cs) ≡ None
unfolding quoted_len
front_break quote c [] n b e = front_last quote c n
front_break quote c (d ∷ cs) n b e =
    let t : (c == quote) ≡ false = ne_eqb _ _ n in
    let s : (c == 92) ≡ false = ne_eqb _ _ b in
    rw (t, s, e) refl

pub front_on : (quote c : ℕ) (cs : List ℕ) → c ≢ quote → c ≢ 92 → (c == 10 || c == 0) ≡ false → quoted_len quote (c ∷ cs) ≡ option_map (λ n. n + 1) (quoted_len quote cs)
unfolding quoted_len
front_on quote c [] n b e = front_last quote c n
front_on quote c (d ∷ cs) n b e =
    let t : (c == quote) ≡ false = ne_eqb _ _ n in
    let s : (c == 92) ≡ false = ne_eqb _ _ b in
    rw (t, s, e) refl

-- ---- at an offset

pub closes_quote : (quote : ℕ) (bytes : List ℕ) (i : ℕ)
    → quoted_len quote bytes ≡ option_map (λ n. n + i) (quoted_len quote (drop i bytes)) → i < length bytes
    → get_or bytes i 0 ≡ quote → quoted_len quote bytes ≡ Some (i + 1)
closes_quote quote bytes i before h e =
    let here = ap (quoted_len quote) (drop_more bytes i 0 h) ∙ front_quote quote (get_or bytes i 0) (drop (i + 1) bytes) e in
    let n : 1 + i ≡ i + 1 = omega arith in
    before ∙ ap (option_map (λ n. n + i)) here ∙ ap Some n

pub closes_escape : (quote : ℕ) (bytes : List ℕ) (i : ℕ)
    → quoted_len quote bytes ≡ option_map (λ n. n + i) (quoted_len quote (drop i bytes)) → i + 1 < length bytes
    → get_or bytes i 0 ≢ quote → get_or bytes i 0 ≡ 92
    → is_escape (get_or bytes (i + 1) 0) (drop (i + 2) bytes) ≡ true → quoted_len quote bytes ≡ option_map (λ n. n + (i + 2)) (quoted_len quote (drop (i + 2) bytes))
closes_escape quote bytes i before h n b e =
    let within : i < length bytes = omega arith in
    let two : i + 1 + 1 ≡ i + 2 = omega arith in
    let split : drop i bytes ≡ get_or bytes i 0 ∷ get_or bytes (i + 1) 0 ∷ drop (i + 2) bytes = rw (drop_more bytes i 0 within, drop_more bytes (i + 1) 0 h, two) refl in
    before ∙ ap (option_map (λ n. n + i)) (ap (quoted_len quote) split ∙ front_escape quote (get_or bytes i 0)
    (get_or bytes (i + 1) 0) (drop (i + 2) bytes) n b e) ∙ shifted (quoted_len quote (drop (i + 2) bytes)) i 2

pub closes_no_escape : (quote : ℕ) (bytes : List ℕ) (i : ℕ)
    → quoted_len quote bytes ≡ option_map (λ n. n + i) (quoted_len quote (drop i bytes)) → i + 1 < length bytes
    → get_or bytes i 0 ≢ quote → get_or bytes i 0 ≡ 92
    → is_escape (get_or bytes (i + 1) 0) (drop (i + 2) bytes) ≡ false → quoted_len quote bytes ≡ None
closes_no_escape quote bytes i before h n b e =
    let within : i < length bytes = omega arith in
    let two : i + 1 + 1 ≡ i + 2 = omega arith in
    let split : drop i bytes ≡ get_or bytes i 0 ∷ get_or bytes (i + 1) 0 ∷ drop (i + 2) bytes = rw (drop_more bytes i 0 within, drop_more bytes (i + 1) 0 h, two) refl in
    before ∙ ap (option_map (λ n. n + i)) (ap (quoted_len quote) split ∙ front_no_escape quote (get_or bytes i 0) (get_or bytes (i + 1) 0) (drop (i + 2) bytes) n b e)

pub closes_last : (quote : ℕ) (bytes : List ℕ) (i : ℕ)
    → quoted_len quote bytes ≡ option_map (λ n. n + i) (quoted_len quote (drop i bytes)) → i < length bytes
    → length bytes ≤ i + 1 → get_or bytes i 0 ≢ quote → quoted_len quote bytes ≡ None
closes_last quote bytes i before h last n =
    let split : drop i bytes ≡ get_or bytes i 0 ∷ [] = rw (drop_more bytes i 0 h, drop_all (i + 1) bytes last) refl in
    before ∙ ap (option_map (λ n. n + i)) (ap (quoted_len quote) split ∙ front_last quote (get_or bytes i 0) n)

pub closes_break : (quote : ℕ) (bytes : List ℕ) (i : ℕ)
    → quoted_len quote bytes ≡ option_map (λ n. n + i) (quoted_len quote (drop i bytes)) → i < length bytes
    → get_or bytes i 0 ≢ quote → get_or bytes i 0 ≢ 92
    → (get_or bytes i 0 == 10 || get_or bytes i 0 == 0) ≡ true → quoted_len quote bytes ≡ None
closes_break quote bytes i before h n b e =
    before ∙ ap (option_map (λ n. n + i)) (ap (quoted_len quote) (drop_more bytes i 0 h) ∙ front_break quote (get_or bytes i 0) (drop (i + 1) bytes) n b e)

pub closes_on : (quote : ℕ) (bytes : List ℕ) (i : ℕ)
    → quoted_len quote bytes ≡ option_map (λ n. n + i) (quoted_len quote (drop i bytes)) → i < length bytes
    → get_or bytes i 0 ≢ quote → get_or bytes i 0 ≢ 92
    → (get_or bytes i 0 == 10 || get_or bytes i 0 == 0) ≡ false → quoted_len quote bytes ≡ option_map (λ n. n + (i + 1)) (quoted_len quote (drop (i + 1) bytes))
closes_on quote bytes i before h n b e =
    before ∙ ap (option_map (λ n. n + i)) (ap (quoted_len quote) (drop_more bytes i 0 h)
    ∙ front_on quote (get_or bytes i 0) (drop (i + 1) bytes) n b e)
    ∙ shifted (quoted_len quote (drop (i + 1) bytes)) i 1

pub closes_none : (quote : ℕ) (bytes : List ℕ) (i : ℕ)
    → quoted_len quote bytes ≡ option_map (λ n. n + i) (quoted_len quote (drop i bytes)) → length bytes ≤ i
    → quoted_len quote bytes ≡ None
unfolding quoted_len
closes_none quote bytes i before h = before ∙ ap (λ (r : List ℕ). option_map (λ n. n + i) (quoted_len quote r)) (drop_all i bytes h)

pub closes_start : (quote : ℕ) (bytes : List ℕ) → quoted_len quote bytes ≡ option_map (λ n. n + 0) (quoted_len quote bytes)
closes_start quote bytes = elim (quoted_len quote bytes) as (λ o. o ≡ option_map (λ n. n + 0) o) [ None ↦ refl | Some n ↦ let e : n ≡ n + 0 = omega arith in ap Some e ]

pub ruleset closing = (closes_quote, closes_escape, closes_no_escape, closes_last, closes_break, closes_on, closes_none, closes_start)
