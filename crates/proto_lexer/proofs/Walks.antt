-- The scanner of blanks and comments, step by step.
use Rattle.std.proofs.Common.{◌≡◌, ◌≢◌, ℕ, ◌+◌, ◌<◌, ◌≤◌, ◌==◌, true, false, cond, List, ◌∷◌, length, get_or, drop, refl, arith}
use Rattle.std.proofs.lemmas.List.{drop_more, drop_all}
use Rattle.std.proofs.lemmas.Bool.{ne_eqb}
use Rattle.proto_lexer.specs.Gaps.{is_blank}
use Rattle.proto_lexer.specs.Scanning.{between, slash, line, block, star, skip_gap}

-- ---- in a line comment

pub line_on : (text : List ℕ) (i : ℕ) → i < length text → get_or text i 0 ≢ 10 → skip_gap line (drop i text) ≡ skip_gap line (drop (i + 1) text)
unfolding skip_gap
line_on text i h n = let e : (get_or text i 0 == 10) ≡ false = ne_eqb _ _ n in rw (drop_more text i 0 h, e) refl

pub line_stops : (text : List ℕ) (i : ℕ) → i < length text → get_or text i 0 ≡ 10 → skip_gap line (drop i text) ≡ skip_gap between (drop i text)
unfolding skip_gap
line_stops text i h n = rw (drop_more text i 0 h, n) refl

pub line_ends : (text : List ℕ) (i : ℕ) → length text ≤ i → skip_gap line (drop i text) ≡ skip_gap between (drop i text)
unfolding skip_gap
line_ends text i h = rw (drop_all i text h) refl

-- ---- in a block comment

block_star : (start cs : List ℕ) (d : ℕ) → d ≢ 47 → skip_gap (star start) (d ∷ cs) ≡ skip_gap (block start) (d ∷ cs)
unfolding skip_gap
block_star start cs d n = let e : (d == 47) ≡ false = ne_eqb _ _ n in rw e refl

pub block_on : (start text : List ℕ) (i : ℕ) → i < length text → get_or text i 0 ≢ 42 → skip_gap (block start) (drop i text) ≡ skip_gap (block start) (drop (i + 1) text)
unfolding skip_gap
block_on start text i h n = let e : (get_or text i 0 == 42) ≡ false = ne_eqb _ _ n in rw (drop_more text i 0 h, e) refl

pub block_star_on : (start text : List ℕ) (i : ℕ) → i + 1 < length text → get_or text i 0 ≡ 42
    → get_or text (i + 1) 0 ≢ 47 → skip_gap (block start) (drop i text) ≡ skip_gap (block start) (drop (i + 1) text)
unfolding skip_gap
block_star_on start text i h n m =
    let here : i < length text = omega arith in
    rw (drop_more text i 0 here, n, drop_more text (i + 1) 0 h) (block_star start (drop (i + 1 + 1) text) (get_or text (i + 1) 0) m)

pub block_star_last : (start text : List ℕ) (i : ℕ) → i < length text → length text ≤ i + 1 → skip_gap (block start) (drop i text) ≡ skip_gap (block start) (drop (i + 1) text)
unfolding skip_gap
block_star_last start text i h last =
    rw (drop_more text i 0 h, drop_all (i + 1) text last) (elim (get_or text i 0 == 42) as (λ b. cond b start start ≡ start) [ true ↦ refl | false ↦ refl ])

pub block_stops : (start text : List ℕ) (i : ℕ) → i + 1 < length text → get_or text i 0 ≡ 42
    → get_or text (i + 1) 0 ≡ 47 → skip_gap (block start) (drop i text) ≡ skip_gap between (drop (i + 2) text)
unfolding skip_gap
block_stops start text i h n m =
    let here : i < length text = omega arith in
    let e : i + 1 + 1 ≡ i + 2 = omega arith in
    rw (drop_more text i 0 here, n, drop_more text (i + 1) 0 h, m, e) refl

pub block_ends : (start text : List ℕ) (i : ℕ) → length text ≤ i → skip_gap (block start) (drop i text) ≡ start
unfolding skip_gap
block_ends start text i h = rw (drop_all i text h) refl

-- ---- after a slash

pub slash_last : (start text : List ℕ) (i : ℕ) → length text ≤ i → skip_gap (slash start) (drop i text) ≡ start
unfolding skip_gap
slash_last start text i h = rw (drop_all i text h) refl

pub slash_slash : (start text : List ℕ) (i : ℕ) → i < length text → get_or text i 0 ≡ 47 → skip_gap (slash start) (drop i text) ≡ skip_gap line (drop (i + 1) text)
unfolding skip_gap
slash_slash start text i h n = rw (drop_more text i 0 h, n) refl

pub slash_star : (start text : List ℕ) (i : ℕ) → i < length text → get_or text i 0 ≡ 42 → skip_gap (slash start) (drop i text) ≡ skip_gap (block start) (drop (i + 1) text)
unfolding skip_gap
slash_star start text i h n = rw (drop_more text i 0 h, n) refl

pub slash_other : (start text : List ℕ) (i : ℕ) → i < length text → get_or text i 0 ≢ 47 → get_or text i 0 ≢ 42 → skip_gap (slash start) (drop i text) ≡ start
unfolding skip_gap
slash_other start text i h n m =
    let a : (get_or text i 0 == 47) ≡ false = ne_eqb _ _ n in
    let b : (get_or text i 0 == 42) ≡ false = ne_eqb _ _ m in
    rw (drop_more text i 0 h, a, b) refl

-- ---- between tokens

pub between_blank : (text : List ℕ) (i : ℕ) → i < length text → is_blank (get_or text i 0) ≡ true → skip_gap between (drop i text) ≡ skip_gap between (drop (i + 1) text)
unfolding skip_gap
between_blank text i h n = rw (drop_more text i 0 h, n) refl

pub between_slash : (text : List ℕ) (i : ℕ) → i < length text → get_or text i 0 ≡ 47 → skip_gap between (drop i text) ≡ skip_gap (slash (drop i text)) (drop (i + 1) text)
unfolding skip_gap
between_slash text i h n = rw (drop_more text i 0 h, n) refl

pub between_other : (text : List ℕ) (i : ℕ) → i < length text → is_blank (get_or text i 0) ≡ false → get_or text i 0 ≢ 47 → skip_gap between (drop i text) ≡ drop i text
unfolding skip_gap
between_other text i h n m =
    let e : (get_or text i 0 == 47) ≡ false = ne_eqb _ _ m in
    rw (drop_more text i 0 h, n, e) refl

pub between_ends : (text : List ℕ) (i : ℕ) → length text ≤ i → skip_gap between (drop i text) ≡ drop i text
unfolding skip_gap
between_ends text i h = rw (drop_all i text h) refl

pub ruleset block_lemmas = (block_on, block_star_on, block_star_last, block_stops, block_ends)

pub ruleset slash_lemmas = (slash_last, slash_slash, slash_star, slash_other)

pub ruleset between_lemmas = (between_blank, between_slash, between_other, between_ends)
