-- Reading lines.
use Rattle.std.proofs.Common.{◌≡◌, ℕ, suc, ◌+◌, ◌-◌, ◌==◌, List, [], ◌∷◌, ◌++◌, length, take, filter_map, Option}
use Rattle.std.proofs.Common.{Some, None, MatchOption, Bor, refl, ap, sym, ◌∙◌, arith}
use Rattle.std.specs.List.{slice_split, join_with_byte, cons_option}
use Rattle.std.proofs.lemmas.List.Splits.{join_with_byte-slice_split, length-slice_split}
use Rattle.mrpc_table.specs.Lines.{pieces_of, whole_lines}
use Rattle.view_top.specs.Lines.{ConnLineEvent, first_and_others, split_first_word, event_of_line}

has_piece : (sep : ℕ) (text : List ℕ) → (piece : List ℕ) × (pieces : List (List ℕ)) × (slice_split (λ c. c == sep) text ≡ piece ∷ pieces)
has_piece sep text = of (slice_split (λ c. c == sep) text) _ (length-slice_split (λ c. c == sep) text)
  where
    of : (pieces : List (List ℕ)) (n : ℕ) → length pieces ≡ n + 1 → (piece : List ℕ) × (rest : List (List ℕ)) × (pieces ≡ piece ∷ rest)
    of [] n e = absurd (omega (arith, e))
    of (piece ∷ rest) n e = (piece, rest, refl)

pub front_some : (words word behind : List ℕ) → slice_split (λ c. c == 32) words ≡ word ∷ slice_split (λ c. c == 32) behind → split_first_word words ≡ Some (word, behind)
front_some words word behind cut =
    let p = has_piece 32 behind in
    ap first_and_others (cut ∙ ap (λ (ps : List (List ℕ)). word ∷ ps) p.2)
    ∙ ap (λ (b : List ℕ). Some (word, b)) (ap (join_with_byte 32) (sym p.2) ∙ join_with_byte-slice_split 32 behind)

pub front_none : (words : List ℕ) → slice_split (λ c. c == 32) words ≡ words ∷ [] → split_first_word words ≡ None
front_none words whole = ap first_and_others whole

whole_cons : (text line behind : List ℕ) → pieces_of text ≡ line ∷ pieces_of behind → whole_lines text ≡ line ∷ whole_lines behind
whole_cons text line behind cut =
    let p = has_piece 10 behind in
    let long : length (pieces_of text) - 1 ≡ suc (length (pieces_of behind) - 1) = omega (arith, ap length cut, ap length p.2) in
    ap (λ (n : ℕ). take n (pieces_of text)) long ∙ ap (take (suc (length (pieces_of behind) - 1))) cut

-- one more line, with this event
pub one_line : (text line behind : List ℕ) (told : Option ConnLineEvent) (before : List ConnLineEvent) → pieces_of text ≡ line ∷ pieces_of behind → event_of_line line ≡ told
    → before ++ filter_map event_of_line (whole_lines text) ≡ before ++ cons_option told (filter_map event_of_line (whole_lines behind))
one_line text line behind told before cut is =
    ap (λ (ls : List (List ℕ)). before ++ filter_map event_of_line ls) (whole_cons text line behind cut)
    ∙ ap (λ (h : Option ConnLineEvent). before ++ cons_option h (filter_map event_of_line (whole_lines behind))) is

pub front_cut : (r : Option (Bor (List ℕ) × Bor (List ℕ))) (words : List ℕ)
    → MatchOption r (slice_split (λ c. c == 32) words ≡ words ∷ []) (λ p. slice_split (λ c. c == 32) words ≡ p.0.now ∷ slice_split (λ c. c == 32) p.1.now)
    → MatchOption r (split_first_word words ≡ None) (λ p. split_first_word words ≡ Some (p.0.now, p.1.now))
front_cut None words h = front_none words h
front_cut (Some p) words h = front_some words p.0.now p.1.now h
