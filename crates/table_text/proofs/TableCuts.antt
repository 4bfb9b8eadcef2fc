-- A table's text within a text, line by line.
use Rattle.std.proofs.Common.{◌≡◌, ◌≢◌, ℕ, ◌-◌, ◌==◌, Bool, true, false, cond, List, [], ◌∷◌, ◌++◌, length, get_or}
use Rattle.std.proofs.Common.{take, All, Bor, Option, Some, None, refl, sym, ap, subst, ◌∙◌, append_assoc, arith}
use Rattle.std.proofs.Common.{eq-eqb}
use Rattle.std.specs.Prelude.{codes, Contains, IfSome, option_map, if◌then◌else◌}
use Rattle.std.specs.List.{flat_map, AllByRecursion, onto_first, join_with_byte}
use Rattle.std.specs.Str.{bytes_eq}
use Rattle.std.proofs.Math.Seq.{take-append_seam}
use Rattle.std.proofs.lemmas.Bool.{false≢true, ne_eqb, false_from_ne_true}
use Rattle.std.proofs.lemmas.Grind.{flat_map-append}
use Rattle.std.proofs.lemmas.List.{append-nil, append_cancel_left, length-append, get_or_default}
use Rattle.std.proofs.lemmas.List.Concat.{flat_map-cons}
use Rattle.std.proofs.lemmas.List.Elements.{All-from_recursion, recursion_from_All, All-nil, All-cons}
use Rattle.std.proofs.lemmas.List.Splits.{slice_split_at, join_with_byte-slice_split}
use Rattle.std.proofs.lemmas.Option.{some_pair_parts}
use Rattle.std.proofs.lemmas.Slice.Eq.{bytes_eq-Decides}
use Rattle.mrpc_table.specs.Lines.{pieces_of}
use Rattle.table_text.specs.TableText.{HasTableAfter}
use Rattle.table_text.proofs.ListLemmas.{has_part}

-- ---- lines and their pieces

abbrev pub fed : List ℕ → List ℕ
fed l = l ++ 10 ∷ []

-- no line feed occurs in it
abbrev pub IsOneLine : List ℕ → Type 0
IsOneLine l = All (λ c. (c == 10) ≡ false) l

one_line : (l : List ℕ) → (Contains l 10 → ⊥) → IsOneLine l
one_line l none k d within = ne_eqb (get_or l k d) 10 (λ same. none (k, within, get_or_default l k 10 d within ∙ same))

no_feed : (l : List ℕ) → IsOneLine l → Contains l 10 → ⊥
no_feed l one c = false≢true (sym (one c.0 10 c.1) ∙ eq-eqb (get_or l c.0 10) 10 c.2)

split_step : (c : ℕ) (parts : List (List ℕ)) (b : Bool) → (c == 10) ≡ b → AllByRecursion IsOneLine parts → AllByRecursion IsOneLine (cond b ([] ∷ parts) (onto_first c parts))
split_step c parts true e h = (All-nil (λ x. (x == 10) ≡ false), h)
split_step c [] false e h = (All-cons (λ x. (x == 10) ≡ false) c [] e (All-nil (λ x. (x == 10) ≡ false)), tt)
split_step c (p ∷ ps) false e h = (All-cons (λ x. (x == 10) ≡ false) c p e h.0, h.1)

-- each piece of a text is one line
pub one_line_each : (text : List ℕ) → AllByRecursion IsOneLine (pieces_of text)
one_line_each [] = (All-nil (λ x. (x == 10) ≡ false), tt)
one_line_each (c ∷ cs) = split_step c (pieces_of cs) (c == 10) refl (one_line_each cs)

pub pieces_line : (l rest : List ℕ) → IsOneLine l → pieces_of (l ++ 10 ∷ rest) ≡ l ∷ pieces_of rest
pieces_line l rest one = slice_split_at (λ c. c == 10) l 10 rest one refl

-- a text that is split at its first line feed
pub record IsCut (text line behind : List ℕ) : Type 0 where
  pub one : IsOneLine line
  pub text_is : text ≡ line ++ 10 ∷ behind

joined_first : (l : List ℕ) (p : List ℕ) (ps : List (List ℕ)) → join_with_byte 10 (l ∷ p ∷ ps) ≡ l ++ 10 ∷ join_with_byte 10 (p ∷ ps)
joined_first l p ps = refl

pub cut_is : (text line behind : List ℕ) → pieces_of text ≡ line ∷ pieces_of behind → IsCut text line behind
cut_is text line behind e =
    let part = has_part 10 behind in
    let joined : join_with_byte 10 (line ∷ pieces_of behind) ≡ line ++ 10 ∷ join_with_byte 10 (pieces_of behind) =
    subst (λ (ps : List (List ℕ)). join_with_byte 10 (line ∷ ps) ≡ line ++ 10 ∷ join_with_byte 10 ps) (sym part.2) (joined_first line part.0 part.1) in
    let all : AllByRecursion IsOneLine (line ∷ pieces_of behind) = subst (AllByRecursion IsOneLine) e (one_line_each text) in
    record {
      one = all.0;
      text_is = sym (join_with_byte-slice_split 10 text) ∙ ap (join_with_byte 10) e ∙ joined ∙ ap (λ (t : List ℕ). line ++ 10 ∷ t) (join_with_byte-slice_split 10 behind);
    }

pub same_pieces : (x y : List ℕ) → pieces_of x ≡ pieces_of y → x ≡ y
same_pieces x y e = sym (join_with_byte-slice_split 10 x) ∙ ap (join_with_byte 10) e ∙ join_with_byte-slice_split 10 y

-- ---- the line `end` among pieces

-- the lines up to the first line `end`, and the pieces after it; the last piece is no line
abbrev pub ended_at : List (List ℕ) → Option (List (List ℕ) × List (List ℕ))
ended_at [] = None
ended_at (p ∷ []) = None
ended_at (p ∷ q ∷ ps) = if bytes_eq p (codes "end") then Some ([], q ∷ ps) else option_map (λ r. (p ∷ r.0, r.1)) (ended_at (q ∷ ps))

abbrev pub IsTableLine : List ℕ → Type 0
IsTableLine l = IsOneLine l × (l ≢ codes "end")

abbrev pub AreTableLines : List (List ℕ) → Type 0
AreTableLines ls = AllByRecursion IsTableLine ls

isnt_end : (l : List ℕ) → l ≢ codes "end" → bytes_eq l (codes "end") ≡ false
isnt_end l other = false_from_ne_true (bytes_eq l (codes "end")) (λ same. other ((bytes_eq-Decides l (codes "end")).0 same))

ended_first : (p q : List ℕ) (ps : List (List ℕ)) → p ≢ codes "end" → ended_at (p ∷ q ∷ ps) ≡ option_map (λ r. (p ∷ r.0, r.1)) (ended_at (q ∷ ps))
ended_first p q ps other = rw (isnt_end p other) refl

ended_none : (ls : List (List ℕ)) (p : List ℕ) → AreTableLines ls → ended_at (ls ++ p ∷ []) ≡ None
ended_none [] p good = refl
ended_none (l ∷ []) p good = rw (isnt_end l good.0.1) refl
ended_none (l ∷ m ∷ ls) p good = ended_first l m (ls ++ p ∷ []) good.0.1 ∙ ap (option_map (λ r. (l ∷ r.0, r.1))) (ended_none (m ∷ ls) p good.1)

ended_some : (ls : List (List ℕ)) (p : List ℕ) (ps : List (List ℕ)) → AreTableLines ls → ended_at (ls ++ codes "end" ∷ p ∷ ps) ≡ Some (ls, p ∷ ps)
ended_some [] p ps good = refl
ended_some (l ∷ []) p ps good = rw (isnt_end l good.0.1) refl
ended_some (l ∷ m ∷ ls) p ps good =
    ended_first l m (ls ++ codes "end" ∷ p ∷ ps) good.0.1 ∙ ap (option_map (λ r. (l ∷ r.0, r.1))) (ended_some (m ∷ ls) p ps good.1)

-- ---- the text of a table, split at `end`

pub record Cut (text table rest : List ℕ) : Type 0 where
  pub lines : List (List ℕ)
  pub good : AreTableLines lines
  pub table_is : table ≡ flat_map fed lines
  pub text_is : text ≡ flat_map fed lines ++ (codes "end\n" ++ rest)

good_from : (ls : List (List ℕ)) → AllByRecursion (λ l. Contains l 10 → ⊥) ls → AllByRecursion (λ l. l ≢ codes "end") ls → AreTableLines ls
good_from [] whole before = tt
good_from (l ∷ ls) whole before = ((one_line l whole.0, before.0), good_from ls whole.1 before.1)

good_whole : (ls : List (List ℕ)) → AreTableLines ls → AllByRecursion (λ l. Contains l 10 → ⊥) ls
good_whole [] h = tt
good_whole (l ∷ ls) h = (no_feed l h.0.0, good_whole ls h.1)

good_before : (ls : List (List ℕ)) → AreTableLines ls → AllByRecursion (λ l. l ≢ codes "end") ls
good_before [] h = tt
good_before (l ∷ ls) h = (h.0.1, good_before ls h.1)

pub cut_from : (head text body table rest : List ℕ) → text ≡ head ++ body → HasTableAfter head text table rest → Cut body table rest
cut_from head text body table rest e h = record {
  lines = h.lines;
  good = good_from h.lines (recursion_from_All (λ l. Contains l 10 → ⊥) h.lines h.whole) (recursion_from_All (λ l. l ≢ codes "end") h.lines h.before_end);
  table_is = h.table_is;
  text_is = append_cancel_left head body (table ++ (codes "end\n" ++ rest)) (sym e ∙ h.text_is) ∙ ap (λ (t : List ℕ). t ++ (codes "end\n" ++ rest)) h.table_is;
}

pub cut_to : (head text body table rest : List ℕ) → text ≡ head ++ body → Cut body table rest → HasTableAfter head text table rest
cut_to head text body table rest e c = record {
  lines = c.lines;
  table_is = c.table_is;
  whole = All-from_recursion (λ l. Contains l 10 → ⊥) c.lines (good_whole c.lines c.good);
  before_end = All-from_recursion (λ l. l ≢ codes "end") c.lines (good_before c.lines c.good);
  text_is = e ∙ ap (λ (t : List ℕ). head ++ t) (c.text_is ∙ ap (λ (t : List ℕ). t ++ (codes "end\n" ++ rest)) (sym c.table_is));
}

line_first : (l : List ℕ) (ls : List (List ℕ)) (more : List ℕ) → flat_map fed (l ∷ ls) ++ more ≡ l ++ 10 ∷ (flat_map fed ls ++ more)
line_first l ls more =
    ap (λ (t : List ℕ). t ++ more) (flat_map-cons fed l ls) ∙ append_assoc (fed l) (flat_map fed ls) more ∙ append_assoc l (10 ∷ []) (flat_map fed ls ++ more)

-- the pieces of lines and what follows them
pub pieces_lines : (ls : List (List ℕ)) (more : List ℕ) → AreTableLines ls → pieces_of (flat_map fed ls ++ more) ≡ ls ++ pieces_of more
pieces_lines [] more good = refl
pieces_lines (l ∷ ls) more good =
    ap pieces_of (line_first l ls more) ∙ pieces_line l (flat_map fed ls ++ more) good.0.0 ∙ ap (λ (ps : List (List ℕ)). l ∷ ps) (pieces_lines ls more good.1)

end_pieces : (rest : List ℕ) → pieces_of (codes "end\n" ++ rest) ≡ codes "end" ∷ pieces_of rest
end_pieces rest = refl

-- what a split means for the pieces
pub cut_ends : (text table rest : List ℕ) (c : Cut text table rest) → ended_at (pieces_of text) ≡ Some (c.lines, pieces_of rest)
cut_ends text table rest c =
    let part = has_part 10 rest in
    ap (λ (t : List ℕ). ended_at (pieces_of t)) c.text_is
    ∙ ap ended_at (pieces_lines c.lines (codes "end\n" ++ rest) c.good ∙ ap (λ (ps : List (List ℕ)). c.lines ++ ps) (end_pieces rest))
    ∙ subst (λ (ps : List (List ℕ)). ended_at (c.lines ++ codes "end" ∷ ps) ≡ Some (c.lines, ps)) (sym part.2) (ended_some c.lines part.0 part.1 c.good)

pub one_cut : (text table rest other more : List ℕ) → Cut text table rest → Cut text other more → (other ≡ table) × (more ≡ rest)
one_cut text table rest other more c d =
    let parts = some_pair_parts d.lines c.lines (pieces_of more) (pieces_of rest) (sym (cut_ends text other more d) ∙ cut_ends text table rest c) in
    (d.table_is ∙ ap (flat_map fed) parts.0 ∙ sym c.table_is, same_pieces more rest parts.1)

pub one_behind : (head text table rest other more : List ℕ) → HasTableAfter head text table rest → HasTableAfter head text other more → (other ≡ table) × (more ≡ rest)
one_behind head text table rest other more h k =
    let body : List ℕ = table ++ (codes "end\n" ++ rest) in
    one_cut body table rest other more (cut_from head text body table rest h.text_is h) (cut_from head text body other more h.text_is k)

ended_by : (p q : List ℕ) (ps ls qs : List (List ℕ)) (b : Bool) → bytes_eq p (codes "end") ≡ b → (o : Option (List (List ℕ) × List (List ℕ))) → ended_at (q ∷ ps) ≡ o
    → ended_at (p ∷ q ∷ ps) ≡ Some (ls, qs) → AllByRecursion IsOneLine (p ∷ q ∷ ps)
    → ((ms rs : List (List ℕ)) → ended_at (q ∷ ps) ≡ Some (ms, rs) → AllByRecursion IsOneLine (q ∷ ps)
    → AreTableLines ms
    × (join_with_byte 10 (q ∷ ps) ≡ flat_map fed ms ++ (codes "end\n" ++ join_with_byte 10 rs)))
    → AreTableLines ls × (join_with_byte 10 (p ∷ q ∷ ps) ≡ flat_map fed ls ++ (codes "end\n" ++ join_with_byte 10 qs))
ended_by p q ps ls qs true is o later e one more =
    let parts = some_pair_parts [] ls (q ∷ ps) qs (sym (rw is refl) ∙ e) in
    let line : p ≡ codes "end" = (bytes_eq-Decides p (codes "end")).0 is in
    (subst AreTableLines parts.0 tt, rw (← parts.0, ← parts.1, line) refl)
ended_by p q ps ls qs false is None later e one more =
    let none : ◌≡◌ {A = Option (List (List ℕ) × List (List ℕ))} None (Some (ls, qs)) = sym (rw (is, later) refl) ∙ e in absurd cc
ended_by p q ps ls qs false is (Some r) later e one more =
    let parts = some_pair_parts (p ∷ r.0) ls r.1 qs (sym (rw (is, later) refl) ∙ e) in
    let rest = more r.0 r.1 later one.1 in
    let other : p ≢ codes "end" = λ same. false≢true (sym is ∙ (bytes_eq-Decides p (codes "end")).1 same) in
    let joined : join_with_byte 10 (p ∷ q ∷ ps) ≡ p ++ 10 ∷ join_with_byte 10 (q ∷ ps) = refl in (
      subst AreTableLines parts.0 ((one.0, other), rest.0),
      rw (← parts.0, ← parts.1) (joined ∙ ap (λ (t : List ℕ). p ++ 10 ∷ t) rest.1 ∙ sym (line_first p r.0 (codes "end\n" ++ join_with_byte 10 r.1))),
    )

-- what a line `end` among pieces means for them
pub ended_parts : (ps ls qs : List (List ℕ)) → ended_at ps ≡ Some (ls, qs) → AllByRecursion IsOneLine ps
    → AreTableLines ls × (join_with_byte 10 ps ≡ flat_map fed ls ++ (codes "end\n" ++ join_with_byte 10 qs))
ended_parts [] ls qs e one = absurd cc
ended_parts (p ∷ []) ls qs e one = absurd cc
ended_parts (p ∷ q ∷ ps) ls qs e one = ended_by p q ps ls qs (bytes_eq p (codes "end")) refl (ended_at (q ∷ ps)) refl e one (ended_parts (q ∷ ps))

-- ---- reading further

-- whole lines were passed, and none of them is `end`
pub record Passed (text rest : List ℕ) : Type 0 where
  pub lines : List (List ℕ)
  pub good : AreTableLines lines
  pub text_is : text ≡ flat_map fed lines ++ rest

good_push : (ls : List (List ℕ)) (l : List ℕ) → AreTableLines ls → IsTableLine l → AreTableLines (ls ++ l ∷ [])
good_push [] l h k = (k, tt)
good_push (m ∷ ms) l h k = (h.0, good_push ms l h.1 k)

pub passed_more : (text rest line behind : List ℕ) → Passed text rest → pieces_of rest ≡ line ∷ pieces_of behind → line ≢ codes "end" → Passed text behind
passed_more text rest line behind p e other =
    let c = cut_is rest line behind e in
    let one : flat_map fed (line ∷ []) ≡ fed line = flat_map-cons fed line [] ∙ append-nil (fed line) in
    let lines_are : flat_map fed (p.lines ++ line ∷ []) ≡ flat_map fed p.lines ++ fed line =
    flat_map-append fed p.lines (line ∷ []) ∙ ap (λ (t : List ℕ). flat_map fed p.lines ++ t) one in
    let rest_is : rest ≡ fed line ++ behind = c.text_is ∙ sym (append_assoc line (10 ∷ []) behind) in
    record {
      lines = p.lines ++ line ∷ [];
      good = good_push p.lines line p.good (c.one, other);
      text_is = p.text_is ∙ ap (λ (t : List ℕ). flat_map fed p.lines ++ t) rest_is
          ∙ sym (append_assoc (flat_map fed p.lines) (fed line) behind) ∙ ap (λ (t : List ℕ). t ++ behind)
          (sym lines_are);
    }

-- the line `end` is next
pub cut_here : (text rest line behind : List ℕ) → Passed text rest → pieces_of rest ≡ line ∷ pieces_of behind
    → line ≡ codes "end" → Cut text (take (length text - length rest) text) behind
cut_here text rest line behind p e same =
    let count : length text - length rest ≡ length (flat_map fed p.lines) = omega (arith, ap (length {A = ℕ}) p.text_is, length-append (flat_map fed p.lines) rest) in
    let front : take (length text - length rest) text ≡ flat_map fed p.lines = ap (λ (n : ℕ). take n text) count
    ∙ ap (take (length (flat_map fed p.lines))) p.text_is ∙ take-append_seam (flat_map fed p.lines) rest in
    let rest_is : rest ≡ codes "end\n" ++ behind = (cut_is rest line behind e).text_is ∙ ap (λ (l : List ℕ). l ++ 10 ∷ behind) same in
    record {
      lines = p.lines;
      good = p.good;
      table_is = front;
      text_is = p.text_is ∙ ap (λ (t : List ℕ). flat_map fed p.lines ++ t) rest_is;
    }

pub none_is : {X : Type 0} (o : Option X) (x : X) → o ≡ None → o ≡ Some x → ⊥
none_is o x e f = absurd cc

-- no line ends in the remainder
pub cut_nowhere : (text rest table more : List ℕ) → Passed text rest → pieces_of rest ≡ rest ∷ [] → Cut text table more → ⊥
cut_nowhere text rest table more p none c =
    let unended : ended_at (pieces_of text) ≡ None = ap (λ (t : List ℕ). ended_at (pieces_of t)) p.text_is
    ∙ ap ended_at (pieces_lines p.lines rest p.good ∙ ap (λ (ps : List (List ℕ)). p.lines ++ ps) none)
    ∙ ended_none p.lines rest p.good in
    none_is (ended_at (pieces_of text)) (c.lines, pieces_of more) unended (cut_ends text table more c)

pub some_behind : (head text body : List ℕ) (r : Option (Bor (List ℕ) × Bor (List ℕ))) → text ≡ head ++ body
    → IfSome r (λ p. HasTableAfter [] body p.0.now p.1.now)
    → IfSome r (λ p. HasTableAfter head text p.0.now p.1.now)
some_behind head text body None e h = tt
some_behind head text body (Some p) e h = cut_to head text body p.0.now p.1.now e (cut_from [] body body p.0.now p.1.now refl h)
