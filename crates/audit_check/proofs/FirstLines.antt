-- The first line of a text, whose line feed a search found.
use Rattle.std.proofs.Common.{◌≡◌, ◌≢◌, ℕ, zero, suc, ◌+◌, ◌<◌, ◌==◌, true, false, List, [], ◌∷◌, ◌++◌, length}
use Rattle.std.proofs.Common.{get_or, take, drop, Some, None, refl, ap, sym, subst, ◌∙◌, inl, inr, append_assoc}
use Rattle.std.proofs.Common.{arith, length-append, length-take}
use Rattle.std.proofs.lemmas.Bool.{eq-eqb}
use Rattle.std.proofs.lemmas.Bool.Decides.{eqb_tells}
use Rattle.memchr.specs.Find.{IsFirstByte, is_byte}
use Rattle.std.proofs.lemmas.List.Elements.{All-from_recursion}
use Rattle.std.proofs.Math.Seq.{take-append-add}
use Rattle.std.proofs.lemmas.List.{append-nil}
use Rattle.mrpc_table.specs.Text.{spaced}
use Rattle.mrpc_table.specs.declared.table.Table.{Table}
use Rattle.call_history.specs.declared.happening.ConnectionEvent.{ConnectionEvent}
use Rattle.audit_text.specs.Lines.{IsSplitInto, audit_line, happening_words}
use Rattle.audit_check.proofs.Cuts.{IsCut, Lacks}
use Rattle.audit_check.specs.States.{IsFirstLine}

-- ---- where a search stops

equal : (x : ℕ) → (x == 10) ≡ true → x ≡ 10
equal x is = elim (eqb_tells x 10) [ inl same ↦ same.1 | inr other ↦ absurd (let no : (x == 10) ≡ false = other.0 in cc) ]

cut_there : (text : List ℕ) (i : ℕ) → i < length text → ((k : ℕ) → k < i → (get_or text k 0 == 10) ≡ true → ⊥) → (get_or text i 0 == 10) ≡ true
    → IsCut 10 text (take i text) (drop (i + 1) text)
cut_there [] i within before here = absurd (omega arith)
cut_there (x ∷ xs) zero within before here = record { lacks = tt; text_is = ap (λ (b : ℕ). b ∷ xs) (equal x here) }
cut_there (x ∷ xs) (suc i) within before here =
    let rest = cut_there xs i (omega arith) (λ k less. before (suc k) (omega arith)) here in
    let e : suc i + 1 ≡ suc (i + 1) = omega arith in
    rw e (record { lacks = (λ same. before 0 (omega arith) (eq-eqb x 10 same), rest.lacks); text_is = ap (λ (r : List ℕ). x ∷ r) rest.text_is })

lacks_all : (text : List ℕ) → ((k : ℕ) → k < length text → (get_or text k 0 == 10) ≡ true → ⊥) → Lacks 10 text
lacks_all [] none = tt
lacks_all (x ∷ xs) none = (λ same. none 0 (omega arith) (eq-eqb x 10 same), lacks_all xs (λ k less. none (suc k) (omega arith)))

-- ---- the line

-- the text has a line feed
at_line_feed : (text line behind : List ℕ) → IsCut 10 text line behind → IsFirstLine text (take (length line + 1) text) behind
at_line_feed text line behind k =
    let front : take (length line + 1) text ≡ line ++ 10 ∷ [] = ap (take (length line + 1)) k.text_is ∙ take-append-add line (10 ∷ behind) 1 in
    record {
      joined = k.text_is ∙ sym (append_assoc line (10 ∷ []) behind) ∙ ap (λ (f : List ℕ). f ++ behind) (sym front);
      ends = inl (line, front, All-from_recursion (λ c. c ≢ 10) line k.lacks);
    }

-- the text has none
without_line_feed : (text : List ℕ) → Lacks 10 text → IsFirstLine text text []
without_line_feed text none = record {
  joined = sym (append-nil text);
  ends = inr (All-from_recursion (λ c. c ≢ 10) text none, refl);
}

-- ---- by the result of the search

pub found : (text : List ℕ) (i : ℕ) → IsFirstByte (is_byte 10) text (Some i) → IsFirstLine text (take (i + 1) text) (drop (i + 1) text)
found text i h =
    let long : length (take i text) ≡ i = omega (arith, length-take i text, h.0.high) in
    subst (λ (n : ℕ). IsFirstLine text (take (n + 1) text) (drop (i + 1) text)) long
    (at_line_feed text (take i text) (drop (i + 1) text) (cut_there text i h.0.high (λ k less. h.0.before k (omega arith) less) h.1))

pub nowhere : (text : List ℕ) → IsFirstByte (is_byte 10) text None → IsFirstLine text text []
nowhere text h = without_line_feed text (lacks_all text (λ k less. h k (omega arith) less))

-- ---- a line that is read before its end is found

pub told_first : (T : Table) (x : ConnectionEvent) (text rest : List ℕ) → IsSplitInto (happening_words T x.conn x.what) → text ≡ audit_line T x ++ rest
    → IsFirstLine text (audit_line T x) rest
told_first T x text rest cut e = record { joined = e; ends = inl (spaced (happening_words T x.conn x.what), refl, cut.one_line) }

-- ---- the remainder

-- the remainder after the first line is shorter
pub line_shorter : (text line rest : List ℕ) → IsFirstLine text line rest → 0 < length text → length rest < length text
line_shorter text line rest is some = elim is.ends [
  | inl e ↦ omega (arith, ap length is.joined, length-append line rest, ap length e.1, length-append e.0 (10 ∷ []))
  | inr e ↦ omega (arith, some, ap length e.1)
]
