-- The next token of a text exists and is unique.
use Rattle.std.proofs.Common.{subst, ◌≡◌, ◌≢◌, inl, inr, ℕ, zero, suc, ◌+◌, ◌-◌, ◌<◌, ◌≤◌, true, false, List, [], ◌∷◌}
use Rattle.std.proofs.Common.{◌++◌, length, take, drop, refl, arith, sym, ◌∙◌, ap, length-append, length-drop}
use Rattle.std.proofs.Common.{length-take}
use Rattle.std.specs.Prelude.{Option, Some, None}
use Rattle.std.proofs.lemmas.List.{append_assoc, take_at, drop_at, drop_all, drop-drop, take-append-drop}
use Rattle.std.proofs.lemmas.Bool.{cases_eq, cases_Bool}
use Rattle.proto_lexer.specs.Gaps.{HasLeadingGap, nothing, blank, line_comment, block_comment}
use Rattle.proto_lexer.specs.Scanning.{between, skip_gap, leading_token}
use Rattle.proto_lexer.specs.Tokens.{IsToken, HasNoTokenOrGap, IsTokenAt, word}
use Rattle.proto_lexer.specs.Tokens.{the_end, no_word, IsNextToken, literal_of, line_of_offset, is_last, AreTokens, last}
use Rattle.proto_lexer.specs.Tokens.{another}
use Rattle.proto_lexer.specs.declared.token.TokenKind.{TokenKind}
use Rattle.proto_lexer.specs.declared.token.TokenKind.TheVariants.{End, Bad}
use Rattle.proto_lexer.specs.declared.token.Token.{Token}
use Rattle.proto_lexer.specs.declared.scan.ScannedToken.{ScannedToken}
use Rattle.proto_lexer.proofs.GapLemmas.{gap_walk, walk_gap, still_gap, walk_still}
use Rattle.proto_lexer.proofs.WordLemmas.{stands_word, word_stands, stands_still, stands_long}
use Rattle.proto_lexer.proofs.LineLemmas.{stands_clean, line_same}

-- ---- the returned token is the next one

pub stuck_at : (bytes : List ℕ) → skip_gap between bytes ≡ bytes → bytes ≢ [] → leading_token bytes ≡ None → HasNoTokenOrGap bytes
stuck_at bytes still more none = record {
  more = more;
  no_gap = λ rest g. still_gap bytes rest still g;
  no_token = λ kind literal rest is s. let t : ◌≡◌ {A = Option ScannedToken} None (Some (record { kind = kind; len = length literal })) = sym none ∙ ap leading_token is ∙ stands_word s in cc;
}

gap_to : (text : List ℕ) (place start : ℕ) → skip_gap between (drop place text) ≡ drop start text → HasLeadingGap (drop place text) (drop start text)
gap_to text place start e = subst (λ (r : List ℕ). HasLeadingGap (drop place text) r) e (walk_gap (drop place text))

still_at : (text : List ℕ) (place start : ℕ) → skip_gap between (drop place text) ≡ drop start text → skip_gap between (drop start text) ≡ drop start text
still_at text place start e = ap (skip_gap between) (sym e) ∙ walk_still (drop place text) ∙ e

pub next_end : (text : List ℕ) (place start line : ℕ) → place ≤ start → start ≤ length text
    → skip_gap between (drop place text) ≡ drop start text → line ≡ line_of_offset text start → length (drop start text) ≡ 0
    → IsNextToken text place (record { kind = End; start = start; end = start; line = line })
next_end text place start line behind within gap l none =
    let e : start ≡ length text = omega (arith, length-drop start text) in
    record { behind = behind; within = within; gap = gap_to text place start gap; line = l; here = the_end refl e e }

pub next_bad : (text : List ℕ) (place start line : ℕ) → place ≤ start
    → skip_gap between (drop place text) ≡ drop start text → line ≡ line_of_offset text start → length (drop start text) ≢ 0
    → leading_token (drop start text) ≡ None
    → IsNextToken text place (record { kind = Bad; start = start; end = start + 1; line = line })
next_bad text place start line behind gap l some none =
    record {
      behind = behind;
      within = omega (arith, length-drop start text);
      gap = gap_to text place start gap;
      line = l;
      here = no_word refl refl (stuck_at (drop start text) (still_at text place start gap) (λ e. some (ap length e)) none);
    }

pub next_word : (text : List ℕ) (place start line : ℕ) (w : ScannedToken) → place ≤ start → start ≤ length text
    → skip_gap between (drop place text) ≡ drop start text → line ≡ line_of_offset text start
    → leading_token (drop start text) ≡ Some w
    → IsNextToken text place (record { kind = w.kind; start = start; end = start + w.len; line = line })
next_word text place start line w behind within gap l some =
    let f = word_stands (drop start text) w some in
    let n : start + w.len - start ≡ length f.literal = omega (arith, f.long) in
    let lit : take (start + w.len - start) (drop start text) ≡ f.literal = ap (λ (x : List ℕ). take (start + w.len - start) x) f.is ∙ take_at f.literal f.rest _ (sym n) in
    let others : drop (start + w.len) text ≡ f.rest = sym (drop-drop w.len start text) ∙ ap (λ (x : List ℕ). drop w.len x) f.is ∙ drop_at f.literal f.rest w.len (sym f.long) in
    let bound : length (drop start text) ≡ length f.literal + length f.rest = ap length f.is ∙ length-append f.literal f.rest in
    record {
      behind = behind;
      within = omega (arith, length-drop start text, bound, f.long);
      gap = gap_to text place start gap;
      line = l;
      here = word (omega arith) (rw (lit, others) f.stands);
    }

-- ---- the next token is unique

parts_of : (text : List ℕ) (t : Token) → t.start ≤ t.end → drop t.start text ≡ literal_of text t ++ drop t.end text
parts_of text t le =
    let e : t.start + (t.end - t.start) ≡ t.end = omega arith in
    sym (take-append-drop (t.end - t.start) (drop t.start text)) ∙ ap (λ (x : List ℕ). literal_of text t ++ x) (drop-drop (t.end - t.start) t.start text ∙ ap (λ k. drop k text) e)

here_starts : (text : List ℕ) (t : Token) → IsTokenAt text t → (t.start ≤ t.end) × (skip_gap between (drop t.start text) ≡ drop t.start text)
unfolding skip_gap
here_starts text t (word le s) = (le, let p = parts_of text t le in ap (skip_gap between) p ∙ stands_still s ∙ sym p)
here_starts text t (the_end k a b) = (omega arith, let e : drop t.start text ≡ [] = drop_all t.start text (omega arith) in rw e refl)
here_starts text t (no_word k e s) = (omega arith, s.no_gap _ (walk_gap (drop t.start text)))

same_start : (text : List ℕ) (place : ℕ) (t u : Token) → IsNextToken text place t → IsNextToken text place u → t.start ≡ u.start
same_start text place t u m n =
    let a = here_starts text t m.here in
    let b = here_starts text u n.here in
    let e : drop t.start text ≡ drop u.start text = sym a.1 ∙ sym (gap_walk m.gap) ∙ gap_walk n.gap ∙ b.1 in
    omega (arith, ap length e, length-drop t.start text, length-drop u.start text, m.within, n.within, a.0, b.0)

literal_long : (text : List ℕ) (t : Token) → t.start ≤ t.end → t.end ≤ length text → length (literal_of text t) ≡ t.end - t.start
literal_long text t le within = omega (arith, length-take (t.end - t.start) (drop t.start text), length-drop t.start text)

here_word : (text : List ℕ) (t : Token) → t.start ≤ t.end → t.end ≤ length text
    → IsToken t.kind (literal_of text t) (drop t.end text)
    → leading_token (drop t.start text) ≡ Some (record { kind = t.kind; len = t.end - t.start })
here_word text t le within s = ap leading_token (parts_of text t le) ∙ stands_word s ∙ ap (λ k. Some (record { kind = t.kind; len = k })) (literal_long text t le within)

no_word_at_end : (bytes : List ℕ) (w : ScannedToken) → bytes ≡ [] → leading_token bytes ≡ Some w → ⊥
unfolding leading_token
no_word_at_end bytes w e h = let t : ◌≡◌ {A = Option ScannedToken} None (Some w) = rw e at h in cc

some_word : (j k : TokenKind) (m n : ℕ) → ◌≡◌ {A = Option ScannedToken} (Some (record { kind = j; len = m })) (Some (record { kind = k; len = n })) → (j ≡ k) × (m ≡ n)
some_word j k m n e =
    let r : ◌≡◌ {A = ScannedToken} (record { kind = j; len = m }) (record { kind = k; len = n }) = cc in
    (ap (λ (w : ScannedToken). w.kind) r, ap (λ (w : ScannedToken). w.len) r)

same_here : (text : List ℕ) (t u : Token) → t.start ≡ u.start → t.end ≤ length text → u.end ≤ length text
    → IsTokenAt text t → IsTokenAt text u → (t.kind ≡ u.kind) × (t.end ≡ u.end)
same_here text t u e a b (word le s) (word le' s') =
    let w = some_word _ _ _ _ (sym (here_word text t le a s) ∙ ap (λ k. leading_token (drop k text)) e ∙ here_word text u le' b s') in
    (w.0, omega (arith, w.1))
same_here text t u e a b (word le s) (the_end k x y) = absurd (no_word_at_end (drop t.start text) _ (drop_all t.start text (omega arith)) (here_word text t le a s))
same_here text t u e a b (word le s) (no_word k x s') = absurd (s'.no_token t.kind (literal_of text t) (drop t.end text) (ap (λ k. drop k text) (sym e) ∙ parts_of text t le) s)
same_here text t u e a b (the_end k x y) (word le s) = absurd (no_word_at_end (drop u.start text) _ (drop_all u.start text (omega arith)) (here_word text u le b s))
same_here text t u e a b (the_end k x y) (the_end k' x' y') = (cc, cc)
same_here text t u e a b (the_end k x y) (no_word k' x' s) = absurd (s.more (drop_all u.start text (omega arith)))
same_here text t u e a b (no_word k x s) (word le s') = absurd (s.no_token u.kind (literal_of text u) (drop u.end text) (ap (λ k. drop k text) e ∙ parts_of text u le) s')
same_here text t u e a b (no_word k x s) (the_end k' x' y') = absurd (s.more (drop_all t.start text (omega arith)))
same_here text t u e a b (no_word k x s) (no_word k' x' s') = (cc, omega arith)

same_token : (t u : Token) → t.kind ≡ u.kind → t.start ≡ u.start → t.end ≡ u.end → t.line ≡ u.line → t ≡ u
same_token t u k s e l =
    let a : t ≡ record { kind = u.kind; start = t.start; end = t.end; line = t.line } = ap (λ (x : TokenKind). record { kind = x; start = t.start; end = t.end; line = t.line }) k in
    let b : ◌≡◌ {A = Token} (record { kind = u.kind; start = t.start; end = t.end; line = t.line })
    (record { kind = u.kind; start = u.start; end = t.end; line = t.line }) =
    ap (λ (x : ℕ). record { kind = u.kind; start = x; end = t.end; line = t.line }) s in
    let d : ◌≡◌ {A = Token} (record { kind = u.kind; start = u.start; end = t.end; line = t.line })
    (record { kind = u.kind; start = u.start; end = u.end; line = t.line }) =
    ap (λ (x : ℕ). record { kind = u.kind; start = u.start; end = x; line = t.line }) e in
    let f : ◌≡◌ {A = Token} (record { kind = u.kind; start = u.start; end = u.end; line = t.line }) u =
    ap (λ (x : ℕ). record { kind = u.kind; start = u.start; end = u.end; line = x }) l in
    a ∙ b ∙ d ∙ f

pub one_token : (text : List ℕ) (place : ℕ) (t u : Token) → IsNextToken text place t → IsNextToken text place u → t ≡ u
one_token text place t u m n =
    let s = same_start text place t u m n in
    let h = same_here text t u s m.within n.within m.here n.here in
    same_token t u h.0 s h.1 (m.line ∙ ap (line_of_offset text) s ∙ sym n.line)

-- ---- the next token exists

gap_front : {bytes rest : List ℕ} → HasLeadingGap bytes rest → (front : List ℕ) × (bytes ≡ front ++ rest)
gap_front (nothing e) = ([], e)
gap_front (blank c more e b g) = let f = gap_front g in (c ∷ f.0, e ∙ ap (λ (x : List ℕ). c ∷ x) f.1)
gap_front {rest = rest} (line_comment body more e clean ends g) =
    let f = gap_front g in
    (47 ∷ 47 ∷ body ++ f.0, e ∙ ap (λ (x : List ℕ). 47 ∷ 47 ∷ body ++ x) f.1 ∙ ap (λ (x : List ℕ). 47 ∷ 47 ∷ x) (sym (append_assoc body f.0 rest)))
gap_front {rest = rest} (block_comment body more e none g) =
    let f = gap_front g in (
      47 ∷ 42 ∷ body ++ (42 ∷ 47 ∷ f.0),
      e ∙ ap (λ (x : List ℕ). 47 ∷ 42 ∷ body ++ 42 ∷ 47 ∷ x) f.1
          ∙ ap (λ (x : List ℕ). 47 ∷ 42 ∷ x) (sym (append_assoc body (42 ∷ 47 ∷ f.0) rest)),
    )

-- the offset where the scanner stops
gap_place : (text : List ℕ) (place : ℕ) → place ≤ length text → (start : ℕ) × (place ≤ start) × (start ≤ length text)
    × (skip_gap between (drop place text) ≡ drop start text)
gap_place text place within =
    let f = gap_front (walk_gap (drop place text)) in
    let n = length-drop place text in
    let long : length (drop place text) ≡ length f.0 + length (skip_gap between (drop place text)) = ap length f.1 ∙ length-append f.0 (skip_gap between (drop place text)) in
    let d : drop (place + length f.0) text ≡ skip_gap between (drop place text) = sym (drop-drop (length f.0) place text)
    ∙ ap (λ (x : List ℕ). drop (length f.0) x) f.1 ∙ drop_at f.0 (skip_gap between (drop place text))
    (length f.0) refl in
    (place + length f.0, omega arith, omega (arith, n, long), sym d)

next_from : (text : List ℕ) (place start : ℕ) → place ≤ start → start ≤ length text
    → skip_gap between (drop place text) ≡ drop start text → (o : Option ScannedToken) → leading_token (drop start text) ≡ o
    → (t : Token) × IsNextToken text place t
next_from text place start behind within gap o w = elim (cases_eq (length (drop start text)) 0) [
  | inl none ↦ (record { kind = End; start = start; end = start; line = line_of_offset text start }, next_end text place start (line_of_offset text start) behind within gap refl none)
  | inr some ↦ elim o as (λ o. leading_token (drop start text) ≡ o → (t : Token) × IsNextToken text place t) [
    | None ↦ λ e. (record { kind = Bad; start = start; end = start + 1; line = line_of_offset text start }, next_bad text place start (line_of_offset text start) behind gap refl some e)
    | Some v ↦ λ e. (record { kind = v.kind; start = start; end = start + v.len; line = line_of_offset text start }, next_word text place start (line_of_offset text start) v behind within gap refl e)
  ] w
]

pub next_exists : (text : List ℕ) (place : ℕ) → place ≤ length text → (t : Token) × IsNextToken text place t
next_exists text place within =
    let g = gap_place text place within in
    next_from text place g.0 g.1 g.2 g.3 (leading_token (drop g.0 text)) refl

-- ---- a token that isn't the last has a byte and stays in its line

last_word : (text : List ℕ) (t : Token) → is_last t.kind ≡ false → IsTokenAt text t → (t.start ≤ t.end) × IsToken t.kind (literal_of text t) (drop t.end text)
last_word text t going (word le s) = (le, s)
last_word text t going (the_end k a b) = absurd (let e : true ≡ false = sym (ap is_last k) ∙ going in cc)
last_word text t going (no_word k e s) = absurd (let e : true ≡ false = sym (ap is_last k) ∙ going in cc)

pub goes_on : (text : List ℕ) (place : ℕ) (t : Token) → IsNextToken text place t → is_last t.kind ≡ false → place < t.end
goes_on text place t n going =
    let s = last_word text t going n.here in
    omega (arith, stands_long s.1, literal_long text t s.0 n.within, n.behind)

pub keeps_line : (text : List ℕ) (place : ℕ) (t : Token) → IsNextToken text place t → is_last t.kind ≡ false → line_of_offset text t.end ≡ t.line
keeps_line text place t n going =
    let s = last_word text t going n.here in
    line_same text t.start t.end s.0 (stands_clean s.1) ∙ sym n.line

-- ---- the list of tokens exists and is unique

same_lists : {text : List ℕ} {place : ℕ} {ts us : List Token} → AreTokens text place ts → AreTokens text place us → ts ≡ us
same_lists {text = text} {place = place} (last t e n l) (last u f m k) = e ∙ ap (λ (x : Token). x ∷ []) (one_token text place t u n m) ∙ sym f
same_lists {text = text} {place = place} (last t e n l) (another u us f m k r) =
    absurd (let b : true ≡ false = sym l ∙ ap (λ (x : Token). is_last x.kind) (one_token text place t u n m) ∙ k in
    cc)
same_lists {text = text} {place = place} (another t ts e n l q) (last u f m k) =
    absurd (let b : true ≡ false = sym k ∙ ap (λ (x : Token). is_last x.kind) (one_token text place u t m n) ∙ l in
    cc)
same_lists {text = text} {place = place} (another t ts e n l q) (another u us f m k r) =
    let same = one_token text place t u n m in
    let r' : AreTokens text t.end us = subst (λ (x : Token). AreTokens text x.end us) (sym same) r in
    e ∙ ap (λ (x : Token). x ∷ ts) same ∙ ap (λ (x : List Token). u ∷ x) (same_lists q r') ∙ sym f

pub one_list : (text : List ℕ) (place : ℕ) (ts us : List Token) → AreTokens text place ts → AreTokens text place us → ts ≡ us
one_list text place ts us a b = same_lists a b

lists_from : (n : ℕ) (text : List ℕ) (place : ℕ) → place ≤ length text → length text - place < n → (ts : List Token) × AreTokens text place ts
lists_from zero text place within few = absurd (omega arith)
lists_from (suc n) text place within few =
    let next = next_exists text place within in
    let t = next.0 in
    elim (cases_Bool (is_last t.kind)) [
      | inl e ↦ (t ∷ [], last t refl next.1 e)
      | inr e ↦
          let g = goes_on text place t next.1 e in
          let bound = next.1.within in
          let others = lists_from n text t.end bound (omega arith) in
          (t ∷ others.0, another t others.0 refl next.1 e others.1)
    ]

pub a_list : (text : List ℕ) → (ts : List Token) × AreTokens text 0 ts
a_list text = lists_from (length text + 1) text 0 (omega arith) (omega arith)
