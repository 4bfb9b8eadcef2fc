-- The scanner of gaps stops where the blanks and comments end.
use Rattle.std.proofs.Common.{◌≡◌, ◌⊎◌, inl, inr, ℕ, ◌<◌, ◌≤◌, ◌==◌, Bool, true, false, not, cond, ◌&&◌, List, []}
use Rattle.std.proofs.Common.{◌∷◌, ◌++◌, length, refl, arith, sym, ◌∙◌, ap, length-append}
use Rattle.std.proofs.lemmas.Bool.{eqb-true, cases_Bool, and_parts, or_parts, not-true}
use Rattle.proto_lexer.specs.Gaps.{is_blank, first_satisfies, ends_line, has_no_line_feed, has_close, HasLeadingGap, nothing, blank, line_comment, block_comment}
use Rattle.proto_lexer.specs.Scanning.{GapState, between, slash, line, block, star, skip_gap}

-- ---- the scanner passes a gap

line_body : (body more : List ℕ) → has_no_line_feed body ≡ true → ends_line more ≡ true → skip_gap line (body ++ more) ≡ skip_gap between more
unfolding skip_gap
line_body [] [] clean ends = refl
line_body [] (c ∷ cs) clean ends = let e : c ≡ 10 = eqb-true c 10 ends in rw e refl
line_body (c ∷ cs) more clean ends =
    let parts = and_parts (not (c == 10)) (has_no_line_feed cs) clean in
    let e : (c == 10) ≡ false = not-true (c == 10) parts.0 in
    rw e (line_body cs more parts.1 ends)

-- what the scanner does in a block comment, and after a `*` in it
abbrev Passes : List ℕ → List ℕ → List ℕ → Type 0
Passes start body more =
    (skip_gap (block start) (body ++ 42 ∷ 47 ∷ more) ≡ skip_gap between more)
    × (first_satisfies (λ d. d == 47) (body ++ 42 ∷ []) ≡ false → skip_gap (star start) (body ++ 42 ∷ 47 ∷ more) ≡ skip_gap between more)

block_body : (start body more : List ℕ) → has_close (body ++ 42 ∷ []) ≡ false → Passes start body more
unfolding skip_gap
block_body start [] more none = (refl, λ _. refl)
block_body start (c ∷ cs) more none =
    let parts = or_parts (c == 42 && first_satisfies (λ d. d == 47) (cs ++ 42 ∷ [])) (has_close (cs ++ 42 ∷ [])) none in
    let rest = block_body start cs more parts.1 in
    elim (cases_Bool (c == 42)) as (λ _. Passes start (c ∷ cs) more) [
      | inl e ↦
          let open_star = rest.1 (rw e at parts.0) in
          (rw e open_star, λ next. rw (next, e) open_star)
      | inr e ↦ (rw e rest.0, λ next. rw (next, e) rest.0)
    ]

pub gap_walk : {bytes rest : List ℕ} → HasLeadingGap bytes rest → skip_gap between bytes ≡ skip_gap between rest
unfolding skip_gap
gap_walk (nothing e) = ap (skip_gap between) e
gap_walk (blank c more e b g) = ap (skip_gap between) e ∙ rw b (gap_walk g)
gap_walk (line_comment body more e clean ends g) = ap (skip_gap between) e ∙ line_body body more clean ends ∙ gap_walk g
gap_walk (block_comment body more e none g) = ap (skip_gap between) e ∙ (block_body (47 ∷ 42 ∷ body ++ 42 ∷ 47 ∷ more) body more none).0 ∙ gap_walk g

-- ---- what the scanner passes is a gap

-- what the scanner has passed, for each of its states
pub record InLine (bytes rest : List ℕ) : Type 0 where
  pub body : List ℕ
  pub more : List ℕ
  pub is : bytes ≡ body ++ more
  pub clean : has_no_line_feed body ≡ true
  pub ends : ends_line more ≡ true
  pub gap : HasLeadingGap more rest

pub record InBlock (bytes rest : List ℕ) : Type 0 where
  pub body : List ℕ
  pub more : List ℕ
  pub is : bytes ≡ body ++ 42 ∷ 47 ∷ more
  pub none : has_close (body ++ 42 ∷ []) ≡ false
  pub gap : HasLeadingGap more rest

abbrev Walked : GapState → List ℕ → List ℕ → Type 0
Walked between bytes rest = HasLeadingGap bytes rest
Walked (slash start) bytes rest = start ≡ 47 ∷ bytes → HasLeadingGap start rest
Walked line bytes rest = InLine bytes rest
Walked (block start) bytes rest = (rest ≡ start) ⊎ InBlock bytes rest
Walked (star start) bytes rest = (rest ≡ start) ⊎ InBlock (42 ∷ bytes) rest

line_more : (c : ℕ) (cs rest : List ℕ) → (c == 10) ≡ false → InLine cs rest → InLine (c ∷ cs) rest
line_more c cs rest e w = record { body = c ∷ w.body; more = w.more; is = ap (λ (r : List ℕ). c ∷ r) w.is; clean = rw e w.clean; ends = w.ends; gap = w.gap }

-- the body continues with a byte other than `*`, or with a `*` that no slash follows
block_more : (c : ℕ) (cs rest : List ℕ) → (c == 42) ≡ false → InBlock cs rest → InBlock (c ∷ cs) rest
block_more c cs rest e w = record { body = c ∷ w.body; more = w.more; is = ap (λ (r : List ℕ). c ∷ r) w.is; none = rw e w.none; gap = w.gap }

begins_body : (p : ℕ → Bool) (body more : List ℕ) → first_satisfies p (body ++ 42 ∷ []) ≡ first_satisfies p (body ++ 42 ∷ 47 ∷ more)
begins_body p [] more = refl
begins_body p (c ∷ cs) more = refl

star_more : (bytes rest : List ℕ) → first_satisfies (λ d. d == 47) bytes ≡ false → InBlock bytes rest → InBlock (42 ∷ bytes) rest
star_more bytes rest e w =
    let next : first_satisfies (λ d. d == 47) (w.body ++ 42 ∷ []) ≡ false = begins_body (λ d. d == 47) w.body w.more ∙ sym (ap (first_satisfies (λ d. d == 47)) w.is) ∙ e in
    record { body = 42 ∷ w.body; more = w.more; is = ap (λ (r : List ℕ). 42 ∷ r) w.is; none = rw next w.none; gap = w.gap }

or_map : {A B C : Type 0} → (B → C) → A ⊎ B → A ⊎ C
or_map f (inl a) = inl a
or_map f (inr b) = inr (f b)

slash_line : (bytes cs rest : List ℕ) → bytes ≡ 47 ∷ 47 ∷ cs → InLine cs rest → HasLeadingGap bytes rest
slash_line bytes cs rest e w = line_comment w.body w.more (e ∙ ap (λ (r : List ℕ). 47 ∷ 47 ∷ r) w.is) w.clean w.ends w.gap

slash_block : (bytes cs rest : List ℕ) → bytes ≡ 47 ∷ 42 ∷ cs → (rest ≡ bytes) ⊎ InBlock cs rest → HasLeadingGap bytes rest
slash_block bytes cs rest e (inl open_at) = nothing (sym open_at)
slash_block bytes cs rest e (inr w) = block_comment w.body w.more (e ∙ ap (λ (r : List ℕ). 47 ∷ 42 ∷ r) w.is) w.none w.gap

walked : (s : GapState) (bytes : List ℕ) → Walked s bytes (skip_gap s bytes)
unfolding skip_gap
walked between [] = nothing refl
walked between (c ∷ cs) = elim (cases_Bool (is_blank c)) as (λ _. HasLeadingGap (c ∷ cs) (skip_gap between (c ∷ cs))) [
  | inl e ↦ rw e (blank c cs refl e (walked between cs))
  | inr e ↦ rw e (elim (cases_Bool (c == 47)) as (λ _. HasLeadingGap (c ∷ cs) (cond (c == 47) (skip_gap (slash (c ∷ cs)) cs) (c ∷ cs))) [
    | inl f ↦ rw f (walked (slash (c ∷ cs)) cs (ap (λ (d : ℕ). d ∷ cs) (eqb-true c 47 f)))
    | inr f ↦ rw f (nothing refl)
  ])
]
walked (slash start) [] = λ _. nothing refl
walked (slash start) (c ∷ cs) = λ s. elim (cases_Bool (c == 47)) as (λ _. HasLeadingGap start (skip_gap (slash start) (c ∷ cs))) [
  | inl e ↦ rw e (slash_line start cs (skip_gap line cs) (s ∙ ap (λ (d : ℕ). 47 ∷ d ∷ cs) (eqb-true c 47 e)) (walked line cs))
  | inr e ↦ rw e (elim (cases_Bool (c == 42)) as (λ _. HasLeadingGap start (cond (c == 42) (skip_gap (block start) cs) start)) [
    | inl f ↦ rw f (slash_block start cs (skip_gap (block start) cs) (s ∙ ap (λ (d : ℕ). 47 ∷ d ∷ cs) (eqb-true c 42 f)) (walked (block start) cs))
    | inr f ↦ rw f (nothing refl)
  ])
]
walked line [] = record { body = []; more = []; is = refl; clean = refl; ends = refl; gap = nothing refl }
walked line (c ∷ cs) = elim (cases_Bool (c == 10)) as (λ _. InLine (c ∷ cs) (skip_gap line (c ∷ cs))) [
  | inl e ↦ rw e (record { body = []; more = c ∷ cs; is = refl; clean = refl; ends = e; gap = blank c cs refl (rw (eqb-true c 10 e) refl) (walked between cs) })
  | inr e ↦ rw e (line_more c cs (skip_gap line cs) e (walked line cs))
]
walked (block start) [] = inl refl
walked (block start) (c ∷ cs) = elim (cases_Bool (c == 42)) as (λ _. (skip_gap (block start) (c ∷ cs) ≡ start) ⊎ InBlock (c ∷ cs) (skip_gap (block start) (c ∷ cs))) [
  | inl e ↦ rw e (rw (eqb-true c 42 e) (walked (star start) cs))
  | inr e ↦ rw e (or_map (block_more c cs (skip_gap (block start) cs) e) (walked (block start) cs))
]
walked (star start) [] = inl refl
walked (star start) (c ∷ cs) = elim (cases_Bool (c == 47)) as (λ _. (skip_gap (star start) (c ∷ cs) ≡ start) ⊎ InBlock (42 ∷ c ∷ cs) (skip_gap (star start) (c ∷ cs))) [
  | inl e ↦ rw e (inr (record { body = []; more = cs; is = ap (λ (d : ℕ). 42 ∷ d ∷ cs) (eqb-true c 47 e); none = refl; gap = walked between cs }))
  | inr e ↦ rw e (elim (cases_Bool (c == 42)) as
      (λ _. (cond (c == 42) (skip_gap (star start) cs) (skip_gap (block start) cs) ≡ start)
      ⊎ InBlock (42 ∷ c ∷ cs) (cond (c == 42) (skip_gap (star start) cs) (skip_gap (block start) cs))) [
        | inl f ↦ rw f (or_map (star_more (c ∷ cs) (skip_gap (star start) cs) e) (rw (eqb-true c 42 f) (walked (star start) cs)))
        | inr f ↦ rw f (or_map (star_more (c ∷ cs) (skip_gap (block start) cs) e) (or_map (block_more c cs (skip_gap (block start) cs) f) (walked (block start) cs)))
      ])
]

pub walk_gap : (bytes : List ℕ) → HasLeadingGap bytes (skip_gap between bytes)
walk_gap bytes = walked between bytes

-- ---- a gap that ends where the scanner stops

pub gap_le : {bytes rest : List ℕ} → HasLeadingGap bytes rest → length rest ≤ length bytes
gap_le (nothing e) = omega (arith, ap length e)
gap_le (blank c more e b g) = omega (arith, ap length e, gap_le g)
gap_le (line_comment body more e clean ends g) = omega (arith, ap length e, length-append body more, gap_le g)
gap_le (block_comment body more e none g) = omega (arith, ap length e, length-append body (42 ∷ 47 ∷ more), gap_le g)

walk_le : (bytes : List ℕ) → length (skip_gap between bytes) ≤ length bytes
walk_le bytes = gap_le (walk_gap bytes)

gap_moves : {bytes rest : List ℕ} → HasLeadingGap bytes rest → (bytes ≡ rest) ⊎ (length (skip_gap between rest) < length bytes)
gap_moves {rest = r} (nothing e) = inl e
gap_moves {rest = r} (blank c more e b g) = inr (omega (arith, ap length e, gap_le g, walk_le r))
gap_moves {rest = r} (line_comment body more e clean ends g) = inr (omega (arith, ap length e, length-append body more, gap_le g, walk_le r))
gap_moves {rest = r} (block_comment body more e none g) = inr (omega (arith, ap length e, length-append body (42 ∷ 47 ∷ more), gap_le g, walk_le r))

pub still_gap : (bytes rest : List ℕ) → skip_gap between bytes ≡ bytes → HasLeadingGap bytes rest → rest ≡ bytes
still_gap bytes rest still g = elim (gap_moves g) [
  | inl e ↦ sym e
  | inr h ↦ absurd (omega (arith, ap length (sym still ∙ gap_walk g)))
]

-- the scanner stays where it stopped
pub walk_still : (bytes : List ℕ) → skip_gap between (skip_gap between bytes) ≡ skip_gap between bytes
walk_still bytes = sym (gap_walk (walk_gap bytes))
