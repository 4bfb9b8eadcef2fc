-- The lines of a text, one by one.
use Rattle.std.proofs.Common.{◌≡◌, ℕ, ◌<◌, ◌==◌, Bool, true, false, cond, List, [], ◌∷◌, ◌++◌, length, get_or, All}
use Rattle.std.proofs.Common.{Contains, refl, sym, ap, subst, ◌∙◌, arith, eq-eqb}
use Rattle.std.specs.List.{AllByRecursion, onto_first, join_with_byte}
use Rattle.std.proofs.lemmas.Bool.{false≢true, ne_eqb}
use Rattle.std.proofs.lemmas.List.{length-append, get_or_default}
use Rattle.std.proofs.lemmas.List.Elements.{All-nil, All-cons}
use Rattle.std.proofs.lemmas.List.Splits.{slice_split_at, slice_split_none, join_with_byte-slice_split}
use Rattle.mrpc_table.specs.Lines.{pieces_of}

-- it has no line feed
abbrev pub IsOneLine : List ℕ → Type 0
IsOneLine text = Contains text 10 → ⊥

-- ---- splitting a text at its first line feed

pub has_piece : (text : List ℕ) → (p : List ℕ) × (ps : List (List ℕ)) × (pieces_of text ≡ p ∷ ps)
has_piece [] = ([], [], refl)
has_piece (x ∷ xs) =
    let rest = has_piece xs in
    elim (x == 10) as (λ (b : Bool). (p : List ℕ) × (ps : List (List ℕ)) × (cond b ([] ∷ pieces_of xs) (onto_first x (pieces_of xs)) ≡ p ∷ ps)) [
      | true ↦ ([], pieces_of xs, refl)
      | false ↦ (x ∷ rest.0, rest.1, ap (onto_first x) rest.2)
    ]

abbrev IsUnfed : List ℕ → Type 0
IsUnfed l = All (λ c. (c == 10) ≡ false) l

unfed : (l : List ℕ) → IsOneLine l → IsUnfed l
unfed l none k d within = ne_eqb (get_or l k d) 10 (λ same. none (k, within, get_or_default l k 10 d within ∙ same))

one_line : (l : List ℕ) → IsUnfed l → IsOneLine l
one_line l one c = false≢true (sym (one c.0 10 c.1) ∙ eq-eqb (get_or l c.0 10) 10 c.2)

split_step : (c : ℕ) (parts : List (List ℕ)) (b : Bool) → (c == 10) ≡ b → AllByRecursion IsUnfed parts → AllByRecursion IsUnfed (cond b ([] ∷ parts) (onto_first c parts))
split_step c parts true e h = (All-nil (λ x. (x == 10) ≡ false), h)
split_step c [] false e h = (All-cons (λ x. (x == 10) ≡ false) c [] e (All-nil (λ x. (x == 10) ≡ false)), tt)
split_step c (p ∷ ps) false e h = (All-cons (λ x. (x == 10) ≡ false) c p e h.0, h.1)

unfed_each : (text : List ℕ) → AllByRecursion IsUnfed (pieces_of text)
unfed_each [] = (All-nil (λ x. (x == 10) ≡ false), tt)
unfed_each (c ∷ cs) = split_step c (pieces_of cs) (c == 10) refl (unfed_each cs)

pub pieces_line : (l rest : List ℕ) → IsOneLine l → pieces_of (l ++ 10 ∷ rest) ≡ l ∷ pieces_of rest
pieces_line l rest one = slice_split_at (λ c. c == 10) l 10 rest (unfed l one) refl

pub pieces_alone : (l : List ℕ) → IsOneLine l → pieces_of l ≡ l ∷ []
pieces_alone l one = slice_split_none (λ c. c == 10) l (unfed l one)

pub record IsCut (text line behind : List ℕ) : Type 0 where
  pub one : IsOneLine line
  pub text_is : text ≡ line ++ 10 ∷ behind

joined_first : (l p : List ℕ) (ps : List (List ℕ)) → join_with_byte 10 (l ∷ p ∷ ps) ≡ l ++ 10 ∷ join_with_byte 10 (p ∷ ps)
joined_first l p ps = refl

pub cut_is : (text line behind : List ℕ) → pieces_of text ≡ line ∷ pieces_of behind → IsCut text line behind
cut_is text line behind e =
    let part = has_piece behind in
    let joined : join_with_byte 10 (line ∷ pieces_of behind) ≡ line ++ 10 ∷ join_with_byte 10 (pieces_of behind) =
    subst (λ (ps : List (List ℕ)). join_with_byte 10 (line ∷ ps) ≡ line ++ 10 ∷ join_with_byte 10 ps) (sym part.2) (joined_first line part.0 part.1) in
    let all : AllByRecursion IsUnfed (line ∷ pieces_of behind) = subst (AllByRecursion IsUnfed) e (unfed_each text) in
    record {
      one = one_line line all.0;
      text_is = sym (join_with_byte-slice_split 10 text) ∙ ap (join_with_byte 10) e ∙ joined ∙ ap (λ (t : List ℕ). line ++ 10 ∷ t) (join_with_byte-slice_split 10 behind);
    }

pub last_is : (text : List ℕ) → pieces_of text ≡ text ∷ [] → IsOneLine text
last_is text e = let all : AllByRecursion IsUnfed (text ∷ []) = subst (AllByRecursion IsUnfed) e (unfed_each text) in one_line text all.0

pub same_pieces : (x y : List ℕ) → pieces_of x ≡ pieces_of y → x ≡ y
same_pieces x y e = sym (join_with_byte-slice_split 10 x) ∙ ap (join_with_byte 10) e ∙ join_with_byte-slice_split 10 y

-- a text is its first line and the remainder, or a line without a line feed
pub data IsSplit (text : List ℕ) : Type 0 where
  fed : (line behind : List ℕ) → IsCut text line behind → length behind < length text → IsSplit text
  last : IsOneLine text → IsSplit text

split_by : (text p : List ℕ) (ps : List (List ℕ)) → pieces_of text ≡ p ∷ ps → IsSplit text
split_by text p [] e = last (last_is text (e ∙ ap (λ (q : List ℕ). q ∷ []) (sym (sym (join_with_byte-slice_split 10 text) ∙ ap (join_with_byte 10) e))))
split_by text p (q ∷ qs) e =
    let behind : List ℕ = join_with_byte 10 (q ∷ qs) in
    let all : AllByRecursion IsUnfed (p ∷ q ∷ qs) = subst (AllByRecursion IsUnfed) e (unfed_each text) in
    let text_is : text ≡ p ++ 10 ∷ behind = sym (join_with_byte-slice_split 10 text) ∙ ap (join_with_byte 10) e in
    fed p behind (record { one = one_line p all.0; text_is = text_is }) (omega (arith, ap (length {A = ℕ}) text_is, length-append p (10 ∷ behind)))

pub split_text : (text : List ℕ) → IsSplit text
split_text text = let p = has_piece text in split_by text p.0 p.1 p.2
