-- The lines of a text before its first line `end`.
use Rattle.std.proofs.Common.{◌≡◌, ℕ, zero, suc, ◌+◌, ◌-◌, ◌<◌, ◌≤◌, ◌==◌, ◌⊎◌, Bool, true, false, cond, List, []}
use Rattle.std.proofs.Common.{◌∷◌, ◌++◌, length, get_or, take, drop, Contains, Some, None, refl, sym, ap, subst, ◌∙◌}
use Rattle.std.proofs.Common.{inl, inr, append_assoc, arith}
use Rattle.std.specs.Borrow.{Bor}
use Rattle.std.specs.List.{onto_first, join_with_byte}
use Rattle.std.specs.Str.{bytes_eq}
use Rattle.std.proofs.lemmas.Bool.{cases_Bool, cases_eq, false≢true, ne_eqb}
use Rattle.std.proofs.lemmas.List.{append_cancel_left, get_or-append-add, get_or-take, length-append, length-take, take_at}
use Rattle.std.proofs.lemmas.List.Elements.{Contains-append_right, Contains-push_cases, filter-append}
use Rattle.std.proofs.lemmas.List.Splits.{length-slice_split, join_with_byte-slice_split}
use Rattle.std.proofs.lemmas.Slice.Eq.{bytes_eq-Decides}
use Rattle.mrpc_table.specs.Lines.{pieces_of, whole_lines, line_count}
use Rattle.policy_declarations.specs.Blocks.{end_line, is_kept, kept_lines, line_number, IsBlock, IsOpen}
use Rattle.policy_declarations.specs.Reading.{inner_of, inner_lines, IsRemainder}

-- the number of whole lines of a text
pub whole_count : (text : List ℕ) → length (whole_lines text) ≡ line_count text
whole_count text = omega (arith, length-take (length (pieces_of text) - 1) (pieces_of text), length-slice_split (λ c. c == 10) text)

pub has_piece : (text : List ℕ) → (p : List ℕ) × (ps : List (List ℕ)) × (pieces_of text ≡ p ∷ ps)
has_piece [] = ([], [], refl)
has_piece (x ∷ xs) =
    let rest = has_piece xs in
    elim (x == 10) as (λ (b : Bool). (p : List ℕ) × (ps : List (List ℕ)) × (cond b ([] ∷ pieces_of xs) (onto_first x (pieces_of xs)) ≡ p ∷ ps)) [
      | true ↦ ([], pieces_of xs, refl)
      | false ↦ (x ∷ rest.0, rest.1, ap (onto_first x) rest.2)
    ]

-- ---- one more line

inner_step_by : (line : List ℕ) (pieces : List (List ℕ)) (p : List ℕ) (ps : List (List ℕ)) (b : Bool)
    → pieces ≡ p ∷ ps → bytes_eq line end_line ≡ b → inner_of (line ∷ pieces) ≡ cond b [] (line ∷ inner_of pieces)
inner_step_by line pieces p ps b e is =
    ap (λ (xs : List (List ℕ)). inner_of (line ∷ xs)) e ∙ ap (λ (x : Bool). cond x [] (line ∷ inner_of (p ∷ ps))) is
    ∙ ap (λ (xs : List (List ℕ)). cond b [] (line ∷ inner_of xs)) (sym e)

pub inner_step : (text line behind : List ℕ) (b : Bool) → pieces_of text ≡ line ∷ pieces_of behind
    → bytes_eq line end_line ≡ b → inner_lines text ≡ cond b [] (line ∷ inner_lines behind)
inner_step text line behind b cut is = let p = has_piece behind in ap inner_of cut ∙ inner_step_by line (pieces_of behind) p.0 p.1 b p.2 is

-- ---- the number of a kept line

at_line : (skips : Bool) (text line behind : List ℕ) (number : ℕ) (kept_lines first : Bool)
    → pieces_of text ≡ line ∷ pieces_of behind → bytes_eq line end_line ≡ false → is_kept skips line ≡ kept_lines
    → (number == 1) ≡ first
    → line_number skips (inner_lines text) number ≡ cond kept_lines (cond first 1 (1 + line_number skips (inner_lines behind) (number - 1))) (1 + line_number skips (inner_lines behind) number)
at_line skips text line behind number kept_lines first cut is k f =
    ap (λ (ls : List (List ℕ)). line_number skips ls number) (inner_step text line behind false cut is)
    ∙ ap (λ (b : Bool). cond b (cond (number == 1) 1 (1 + line_number skips (inner_lines behind) (number - 1))) (1 + line_number skips (inner_lines behind) number)) k
    ∙ ap (λ (b : Bool). cond kept_lines (cond b 1 (1 + line_number skips (inner_lines behind) (number - 1))) (1 + line_number skips (inner_lines behind) number)) f

pub at_kept_other : (skips : Bool) (text line behind : List ℕ) (number : ℕ) → pieces_of text ≡ line ∷ pieces_of behind
    → bytes_eq line end_line ≡ false → is_kept skips line ≡ true → (number ≡ 1 → ⊥)
    → line_number skips (inner_lines text) number ≡ 1 + line_number skips (inner_lines behind) (number - 1)
at_kept_other skips text line behind number cut is k f = at_line skips text line behind number true false cut is k (ne_eqb number 1 f)

pub at_skipped : (skips : Bool) (text line behind : List ℕ) (number : ℕ) → pieces_of text ≡ line ∷ pieces_of behind
    → bytes_eq line end_line ≡ false → is_kept skips line ≡ false
    → line_number skips (inner_lines text) number ≡ 1 + line_number skips (inner_lines behind) number
at_skipped skips text line behind number cut is k = at_line skips text line behind number false (number == 1) cut is k refl

-- ---- the lines so far

-- lines before the remainder of a text, none of which is `end`
pub record AreDone (text : List ℕ) (done : List (List ℕ)) (rest : List ℕ) : Type 0 where
  pub pieces : pieces_of text ≡ done ++ pieces_of rest
  pub none : Contains done end_line → ⊥

pub done_more : (text : List ℕ) (done : List (List ℕ)) (rest line behind : List ℕ) → AreDone text done rest
    → pieces_of rest ≡ line ∷ pieces_of behind → bytes_eq line end_line ≡ false
    → AreDone text (done ++ line ∷ []) behind
done_more text done rest line behind d cut isnt = record {
  pieces = d.pieces ∙ ap (λ (ps : List (List ℕ)). done ++ ps) cut ∙ sym (append_assoc done (line ∷ []) (pieces_of behind));
  none = λ h. elim (Contains-push_cases done line end_line h) [
    | inl before ↦ d.none before
    | inr here ↦ false≢true (sym isnt ∙ (bytes_eq-Decides line end_line).1 here)
  ];
}

other_first : (x : List ℕ) (xs : List (List ℕ)) → (Contains (x ∷ xs) end_line → ⊥) → bytes_eq x end_line ≡ false
other_first x xs none = elim (cases_Bool (bytes_eq x end_line)) [
  | inl same ↦ absurd (none (0, omega arith, (bytes_eq-Decides x end_line).0 same))
  | inr other ↦ other
]

others : (x : List ℕ) (xs : List (List ℕ)) → (Contains (x ∷ xs) end_line → ⊥) → Contains xs end_line → ⊥
others x xs none h = none (Contains-append_right (x ∷ []) xs end_line h)

has_first : (done : List (List ℕ)) (p : List ℕ) (ps : List (List ℕ)) → (q : List ℕ) × (qs : List (List ℕ)) × (done ++ p ∷ ps ≡ q ∷ qs)
has_first [] p ps = (p, ps, refl)
has_first (x ∷ xs) p ps = (x, xs ++ p ∷ ps, refl)

-- up to a line that isn't the last piece and is `end`
inner_before : (done : List (List ℕ)) (p : List ℕ) (ps : List (List ℕ)) → (Contains done end_line → ⊥) → inner_of (done ++ end_line ∷ p ∷ ps) ≡ done
inner_before [] p ps none = refl
inner_before (x ∷ xs) p ps none =
    let more = has_first xs end_line (p ∷ ps) in
    inner_step_by x (xs ++ end_line ∷ p ∷ ps) more.0 more.1 false more.2 (other_first x xs none) ∙ ap (λ (ls : List (List ℕ)). x ∷ ls) (inner_before xs p ps (others x xs none))

inner_all : (done : List (List ℕ)) (last : List ℕ) → (Contains done end_line → ⊥) → inner_of (done ++ last ∷ []) ≡ done
inner_all [] last none = refl
inner_all (x ∷ xs) last none =
    let more = has_first xs last [] in
    inner_step_by x (xs ++ last ∷ []) more.0 more.1 false more.2 (other_first x xs none) ∙ ap (λ (ls : List (List ℕ)). x ∷ ls) (inner_all xs last (others x xs none))

pub inner_done : (text : List ℕ) (done : List (List ℕ)) (rest line behind : List ℕ) → AreDone text done rest
    → pieces_of rest ≡ line ∷ pieces_of behind → bytes_eq line end_line ≡ true → inner_lines text ≡ done
inner_done text done rest line behind d cut is =
    let p = has_piece behind in
    let end : line ≡ end_line = (bytes_eq-Decides line end_line).0 is in
    ap inner_of (d.pieces ∙ ap (λ (ps : List (List ℕ)). done ++ ps)
    (cut ∙ ap (λ (l : List ℕ). l ∷ pieces_of behind) end ∙ ap (λ (ps : List (List ℕ)). end_line ∷ ps) p.2))
    ∙ inner_before done p.0 p.1 d.none

pub left_done : (text : List ℕ) (done : List (List ℕ)) (rest line : List ℕ) (behind : Bor (List ℕ))
    → AreDone text done rest → pieces_of rest ≡ line ∷ pieces_of behind.now → bytes_eq line end_line ≡ true
    → IsRemainder text (Some behind)
left_done text done rest line behind d cut is =
    let end : line ≡ end_line = (bytes_eq-Decides line end_line).0 is in
    let same = inner_done text done rest line behind.now d cut is in
    let block : IsBlock text done behind.now = record {
      lines = d.pieces ∙ ap (λ (ps : List (List ℕ)). done ++ ps) (cut ∙ ap (λ (l : List ℕ). l ∷ pieces_of behind.now) end);
      before_end = d.none;
    } in
    subst (λ (ls : List (List ℕ)). IsBlock text ls behind.now) (sym same) block

whole_done : (text : List ℕ) (done : List (List ℕ)) (rest : List ℕ) → AreDone text done rest → pieces_of rest ≡ rest ∷ [] → whole_lines text ≡ done
whole_done text done rest d last =
    let pieces : pieces_of text ≡ done ++ rest ∷ [] = d.pieces ∙ ap (λ (ps : List (List ℕ)). done ++ ps) last in
    let long : length done ≡ length (pieces_of text) - 1 = omega (arith, ap length pieces, length-append done (rest ∷ [])) in
    ap (take (length (pieces_of text) - 1)) pieces ∙ take_at done (rest ∷ []) (length (pieces_of text) - 1) long

pub inner_end : (text : List ℕ) (done : List (List ℕ)) (rest : List ℕ) → AreDone text done rest → pieces_of rest ≡ rest ∷ [] → inner_lines text ≡ done
inner_end text done rest d last = ap inner_of (d.pieces ∙ ap (λ (ps : List (List ℕ)). done ++ ps) last) ∙ inner_all done rest d.none

pub left_end : (text : List ℕ) (done : List (List ℕ)) (rest : List ℕ) → AreDone text done rest → pieces_of rest ≡ rest ∷ [] → IsRemainder text None
left_end text done rest d last =
    let whole = whole_done text done rest d last in
    (subst (λ (ls : List (List ℕ)). Contains ls end_line → ⊥) (sym whole) d.none, inner_end text done rest d last ∙ sym whole)

-- ---- the kept lines so far

kept_one : (skips : Bool) (line : List ℕ) (b : Bool) → is_kept skips line ≡ b → kept_lines skips (line ∷ []) ≡ cond b (line ∷ []) []
kept_one skips line b is = ap (λ (x : Bool). cond x (line ∷ []) []) is

pub kept_more : (skips : Bool) (done : List (List ℕ)) (line : List ℕ) → is_kept skips line ≡ true → kept_lines skips (done ++ line ∷ []) ≡ kept_lines skips done ++ line ∷ []
kept_more skips done line is = filter-append (is_kept skips) done (line ∷ []) ∙ ap (λ (ls : List (List ℕ)). kept_lines skips done ++ ls) (kept_one skips line true is)

append_none : (xs : List (List ℕ)) → xs ++ [] ≡ xs
append_none [] = refl
append_none (x ∷ xs) = ap (λ (ys : List (List ℕ)). x ∷ ys) (append_none xs)

pub kept_same : (skips : Bool) (done : List (List ℕ)) (line : List ℕ) → is_kept skips line ≡ false → kept_lines skips (done ++ line ∷ []) ≡ kept_lines skips done
kept_same skips done line isnt =
    filter-append (is_kept skips) done (line ∷ []) ∙ ap (λ (ls : List (List ℕ)). kept_lines skips done ++ ls) (kept_one skips line false isnt) ∙ append_none (kept_lines skips done)

-- ---- the block is unique

pub block_inner : (text : List ℕ) (inner : List (List ℕ)) (rest : List ℕ) → IsBlock text inner rest → inner_lines text ≡ inner
block_inner text inner rest b =
    let p = has_piece rest in
    ap inner_of (b.lines ∙ ap (λ (ps : List (List ℕ)). inner ++ end_line ∷ ps) p.2) ∙ inner_before inner p.0 p.1 b.before_end

same_pieces : (x y : List ℕ) → pieces_of x ≡ pieces_of y → x ≡ y
same_pieces x y e = sym (join_with_byte-slice_split 10 x) ∙ ap (join_with_byte 10) e ∙ join_with_byte-slice_split 10 y

pub same_inner : (text : List ℕ) (inner other : List (List ℕ)) (x y : List ℕ) → IsBlock text inner x → IsBlock text other y → inner ≡ other
same_inner text inner other x y b c = sym (block_inner text inner x b) ∙ block_inner text other y c

pub same_rest : (text : List ℕ) (inner other : List (List ℕ)) (x y : List ℕ) → IsBlock text inner x → IsBlock text other y → x ≡ y
same_rest text inner other x y b c =
    let same = same_inner text inner other x y b c in
    let both : inner ++ end_line ∷ pieces_of x ≡ inner ++ end_line ∷ pieces_of y =
    sym b.lines ∙ c.lines ∙ ap (λ (ls : List (List ℕ)). ls ++ end_line ∷ pieces_of y) (sym same) in
    same_pieces x y (ap (drop 1) (append_cancel_left inner (end_line ∷ pieces_of x) (end_line ∷ pieces_of y) both))

-- a text with an `end` isn't open
pub open_block : (text : List ℕ) (inner : List (List ℕ)) (rest : List ℕ) → IsOpen text → IsBlock text inner rest → ⊥
open_block text inner rest unended b =
    let p = has_piece rest in
    let lines : pieces_of text ≡ inner ++ end_line ∷ p.0 ∷ p.1 = b.lines ∙ ap (λ (ps : List (List ℕ)). inner ++ end_line ∷ ps) p.2 in
    let long = ap length lines ∙ length-append inner (end_line ∷ p.0 ∷ p.1) in
    let at : get_or (pieces_of text) (length inner + 0) end_line ≡ end_line =
    ap (λ (ps : List (List ℕ)). get_or ps (length inner + 0) end_line) lines ∙ get_or-append-add inner (end_line ∷ p.0 ∷ p.1) 0 end_line in
    unended (
      length inner + 0,
      omega (arith, long, length-take (length (pieces_of text) - 1) (pieces_of text)),
      get_or-take (length (pieces_of text) - 1) (pieces_of text) (length inner + 0) end_line (omega (arith, long))
          ∙ at,
    )

-- a text is one line without its feed, or has a first line
pub split : (text : List ℕ)
    → (pieces_of text ≡ text ∷ []) ⊎ ((line : List ℕ) × (behind : List ℕ) × (pieces_of text ≡ line ∷ pieces_of behind)
    × (length behind < length text))
split [] = inl refl
split (x ∷ xs) = by (x == 10) refl (split xs)
  where
    by : (b : Bool) → (x == 10) ≡ b
        → (pieces_of xs ≡ xs ∷ []) ⊎ ((line : List ℕ) × (behind : List ℕ) × (pieces_of xs ≡ line ∷ pieces_of behind)
        × (length behind < length xs))
        → (pieces_of (x ∷ xs) ≡ (x ∷ xs) ∷ [])
        ⊎ ((line : List ℕ) × (behind : List ℕ) × (pieces_of (x ∷ xs) ≡ line ∷ pieces_of behind)
        × (length behind < length (x ∷ xs)))
    by true e rest = inr ([], xs, ap (λ (b : Bool). cond b ([] ∷ pieces_of xs) (onto_first x (pieces_of xs))) e, omega arith)
    by false e (inl last) = inl (ap (λ (b : Bool). cond b ([] ∷ pieces_of xs) (onto_first x (pieces_of xs))) e ∙ ap (onto_first x) last)
    by false e (inr more) =
        inr (x ∷ more.0, more.1, ap (λ (b : Bool). cond b ([] ∷ pieces_of xs) (onto_first x (pieces_of xs))) e ∙ ap (onto_first x) more.2, (let less = more.3 in omega (arith, less)))

whole_cons : (text line behind : List ℕ) → pieces_of text ≡ line ∷ pieces_of behind → whole_lines text ≡ line ∷ whole_lines behind
whole_cons text line behind cut =
    let p = has_piece behind in
    let long : length (pieces_of text) - 1 ≡ suc (length (pieces_of behind) - 1) = omega (arith, ap length cut, ap length p.2) in
    ap (λ (n : ℕ). take n (pieces_of text)) long ∙ ap (take (suc (length (pieces_of behind) - 1))) cut

whole_none : (text : List ℕ) → pieces_of text ≡ text ∷ [] → whole_lines text ≡ []
whole_none text last = ap (λ (ps : List (List ℕ)). take (length ps - 1) ps) last

-- the text is its first line and the remainder
cut_text : (text line behind : List ℕ) → pieces_of text ≡ line ∷ pieces_of behind → text ≡ (line ++ 10 ∷ []) ++ behind
cut_text text line behind cut =
    let p = has_piece behind in
    sym (join_with_byte-slice_split 10 text)
    ∙ ap (join_with_byte 10) (cut ∙ ap (λ (ps : List (List ℕ)). line ∷ ps) p.2)
    ∙ ap (λ (t : List ℕ). line ++ 10 ∷ t) (ap (join_with_byte 10) (sym p.2)
    ∙ join_with_byte-slice_split 10 behind)
    ∙ sym (append_assoc line (10 ∷ []) behind)

-- a block whose remainder is a suffix of the text
record IsBlockOf (text : List ℕ) : Type 0 where
  inner : List (List ℕ)
  rest : List ℕ
  block : IsBlock text inner rest
  passed : List ℕ
  text_is : text ≡ passed ++ rest

no_line : Contains [] end_line → ⊥
no_line h = omega (arith, h.1)

behind_first : (x : List ℕ) (xs : List (List ℕ)) → (h : Contains (x ∷ xs) end_line) → (h.0 ≡ 0 → ⊥) → Contains xs end_line
behind_first x xs (zero, within, at) past = absurd (past refl)
behind_first x xs (suc k, within, at) past = (k, omega (arith, within), at)

not_among : (line : List ℕ) (lines : List (List ℕ)) → bytes_eq line end_line ≡ false → (Contains lines end_line → ⊥) → Contains (line ∷ lines) end_line → ⊥
not_among line lines isnt none h = elim (cases_eq h.0 0) [
  | inl here ↦ false≢true (sym isnt ∙ (bytes_eq-Decides line end_line).1 (ap (λ (n : ℕ). get_or (line ∷ lines) n end_line) (sym here) ∙ h.2))
  | inr past ↦ none (behind_first line lines h past)
]

behind_line : (text line behind : List ℕ) → pieces_of text ≡ line ∷ pieces_of behind → bytes_eq line end_line ≡ false
    → IsBlockOf behind ⊎ IsOpen behind → IsBlockOf text ⊎ IsOpen text
behind_line text line behind cut isnt (inl b) = inl (record {
  inner = line ∷ b.inner;
  rest = b.rest;
  block = record { lines = cut ∙ ap (λ (ps : List (List ℕ)). line ∷ ps) b.block.lines; before_end = not_among line b.inner isnt b.block.before_end };
  passed = (line ++ 10 ∷ []) ++ b.passed;
  text_is = cut_text text line behind cut ∙ ap (λ (t : List ℕ). (line ++ 10 ∷ []) ++ t) b.text_is ∙ sym (append_assoc (line ++ 10 ∷ []) b.passed b.rest);
})
behind_line text line behind cut isnt (inr unended) =
    inr (λ h. not_among line (whole_lines behind) isnt unended (subst (λ (ls : List (List ℕ)). Contains ls end_line) (whole_cons text line behind cut) h))

abbrev IsSplit : List ℕ → Type 0
IsSplit text = (pieces_of text ≡ text ∷ []) ⊎ ((line : List ℕ) × (behind : List ℕ) × (pieces_of text ≡ line ∷ pieces_of behind) × (length behind < length text))

at_line_or_not : (text line behind : List ℕ) (b : Bool) → pieces_of text ≡ line ∷ pieces_of behind
    → bytes_eq line end_line ≡ b → IsBlockOf behind ⊎ IsOpen behind → IsBlockOf text ⊎ IsOpen text
at_line_or_not text line behind true cut is rest = inl (record {
  inner = [];
  rest = behind;
  block = record { lines = cut ∙ ap (λ (l : List ℕ). l ∷ pieces_of behind) ((bytes_eq-Decides line end_line).0 is); before_end = no_line };
  passed = line ++ 10 ∷ [];
  text_is = cut_text text line behind cut;
})
at_line_or_not text line behind false cut isnt rest = behind_line text line behind cut isnt rest

ends_by : (text : List ℕ) → IsSplit text → ((behind : List ℕ) → length behind < length text → IsBlockOf behind ⊎ IsOpen behind) → IsBlockOf text ⊎ IsOpen text
ends_by text (inl last) rest = inr (subst (λ (ls : List (List ℕ)). Contains ls end_line → ⊥) (sym (whole_none text last)) no_line)
ends_by text (inr more) rest = at_line_or_not text more.0 more.1 (bytes_eq more.0 end_line) more.2 refl (rest more.1 more.3)

ends : (n : ℕ) (text : List ℕ) → length text ≤ n → IsBlockOf text ⊎ IsOpen text
ends zero text few = ends_by text (split text) (λ behind less. absurd (omega (arith, less, few)))
ends (suc n) text few = ends_by text (split text) (λ behind less. ends n behind (omega (arith, less, few)))

pub ends_or_not : (text : List ℕ) → ((inner : List (List ℕ)) × (rest : List ℕ) × IsBlock text inner rest) ⊎ IsOpen text
ends_or_not text = elim (ends (length text) text (omega arith)) [
  | inl b ↦ inl (b.inner, b.rest, b.block)
  | inr unended ↦ inr unended
]

-- the remainder after a block is a suffix of the text
pub block_end : (text : List ℕ) (inner : List (List ℕ)) (rest : List ℕ) → IsBlock text inner rest → (passed : List ℕ) × (text ≡ passed ++ rest)
block_end text inner rest block = elim (ends (length text) text (omega arith)) [
  | inl b ↦ (b.passed, b.text_is ∙ ap (λ (t : List ℕ). b.passed ++ t) (same_rest text b.inner inner b.rest rest b.block block))
  | inr unended ↦ absurd (open_block text inner rest unended block)
]

-- ---- the range of a line's number

line_at_is : (skips : Bool) (line : List ℕ) (lines : List (List ℕ)) (number : ℕ) (kept_lines first : Bool) → is_kept skips line ≡ kept_lines → (number == 1) ≡ first
    → line_number skips (line ∷ lines) number ≡ cond kept_lines (cond first 1 (1 + line_number skips lines (number - 1))) (1 + line_number skips lines number)
line_at_is skips line lines number kept_lines first k f =
    ap (λ (b : Bool). cond b (cond (number == 1) 1 (1 + line_number skips lines (number - 1))) (1 + line_number skips lines number)) k
    ∙ ap (λ (b : Bool). cond kept_lines (cond b 1 (1 + line_number skips lines (number - 1))) (1 + line_number skips lines number)) f

line_at_by : (skips : Bool) (line : List ℕ) (lines : List (List ℕ)) (number : ℕ) (kept_lines first : Bool)
    → is_kept skips line ≡ kept_lines → (number == 1) ≡ first → line_number skips lines (number - 1) ≤ length lines + 1
    → line_number skips lines number ≤ length lines + 1
    → line_number skips (line ∷ lines) number ≤ length (line ∷ lines) + 1
line_at_by skips line lines number true true k f less same = subst (λ (n : ℕ). n ≤ length (line ∷ lines) + 1) (sym (line_at_is skips line lines number true true k f)) (omega arith)
line_at_by skips line lines number true false k f less same =
    subst (λ (n : ℕ). n ≤ length (line ∷ lines) + 1) (sym (line_at_is skips line lines number true false k f))
    (omega (arith, less))
line_at_by skips line lines number false first k f less same =
    subst (λ (n : ℕ). n ≤ length (line ∷ lines) + 1) (sym (line_at_is skips line lines number false first k f))
    (omega (arith, same))

pub line_at_small : (skips : Bool) (lines : List (List ℕ)) (number : ℕ) → line_number skips lines number ≤ length lines + 1
line_at_small skips [] number = omega arith
line_at_small skips (line ∷ lines) number =
    line_at_by skips line lines number (is_kept skips line) (number == 1) refl refl
    (line_at_small skips lines (number - 1)) (line_at_small skips lines number)

pub inner_count : (text : List ℕ) (inner : List (List ℕ)) (rest : List ℕ) → IsBlock text inner rest → length inner + 1 ≤ line_count text
inner_count text inner rest b =
    let p = has_piece rest in
    let count = ap length (b.lines ∙ ap (λ (ps : List (List ℕ)). inner ++ end_line ∷ ps) p.2) ∙ length-append inner (end_line ∷ p.0 ∷ p.1) in
    omega (arith, count, length-slice_split (λ c. c == 10) text)
